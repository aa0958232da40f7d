use Rattle.std.proofs.Common.{◌≡◌, ◌++◌, take}
use Rattle.ds_base.specs.Keys.{KeyParts}
use Rattle.ds_history.specs.Versions.{entries_versions, versions_in}
use Rattle.ds_history.proofs.versions.note_entries.Given as goal

-- so far the first entries are noted
abbrev pub invariant-loop-i : goal.invariant-loop-i
invariant-loop-i l = (k : KeyParts)
    → versions_in l.kinds.entries k ≡ versions_in l.initial.kinds.entries k ++ entries_versions l.shard k (take l.i l.entries)
