-- When a search without an ancestor goes over all shards at once, each shard in a thread of its own.
use Rattle.std.specs.Prelude.{◌≡◌, ℕ, ◌<◌, None, sum}
use Rattle.ds_query.specs.declared.branch.Window.{Window}
use Rattle.ds_store.specs.Passes.{PassParts, counts_of}

-- Where shards have applied no more entries together, one thread scans them before others have started: fifteen threads start in some 1.5
-- milliseconds, in which one scans some 1,500 entities, and a search seldom scans all entries.
abbrev pub most_scanned_by_one : ℕ
most_scanned_by_one = 16384

-- how many entries of all shards a pass has seen applied
abbrev pub entries_seen : PassParts → ℕ
entries_seen p = sum (counts_of p)

-- It does so where there are several shards, it has no limit, and the pass has seen more entries applied than one thread is to scan.
abbrev pub GoesWide : Window → ℕ → PassParts → Type 0
GoesWide w shards p = (1 < shards) × (w.limit ≡ None) × (most_scanned_by_one < entries_seen p)
