-- The entries of one commit, each with its shard.
use Rattle.std.specs.Prelude.{◌≡◌, ℕ, ◌<◌}
use Rattle.ds_log.specs.declared.Entry.{Entry}
use Rattle.ds_log.specs.declared.projection.Routed.{Routed}
use Rattle.ds_log.specs.Shards.{shard_of}

abbrev pub entry_of : Routed → Entry
entry_of r = r.entry

-- its shard is that of its group
abbrev pub IsRouted : ℕ → Routed → Type 0
IsRouted shards r = (r.shard ≡ shard_of r.entry.group shards) × (r.shard < shards)
