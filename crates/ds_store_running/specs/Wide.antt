-- Which queries go over all shards at once, each shard in a thread of its own.
use Rattle.std.specs.Prelude.{◌≡◌, ℕ, ◌<◌, None}
use Rattle.ds_engine.specs.Searches.{ancestor_of}
use Rattle.ds_query.specs.declared.branch.Normal.{Normal}
use Rattle.ds_query.specs.declared.branch.Window.{Window}

-- Those without an ancestor and without a limit, where there are several shards: with an ancestor one shard is searched, and with a limit
-- few rows are scanned.
abbrev pub MayGoWide : Normal → Window → ℕ → Type 0
MayGoWide n w shards = (1 < shards) × (ancestor_of n.branches ≡ None) × (w.limit ≡ None)
