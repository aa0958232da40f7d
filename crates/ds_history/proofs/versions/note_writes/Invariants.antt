use Rattle.std.proofs.Common.{◌≡◌, ◌++◌, take}
use Rattle.ds_base.specs.Keys.{KeyParts}
use Rattle.ds_history.specs.Versions.{versions_in, writes_versions}
use Rattle.ds_history.proofs.versions.note_writes.Given as goal

-- so far the first writes are noted
abbrev pub invariant-loop-write : goal.invariant-loop-write
invariant-loop-write l = (k : KeyParts)
    → versions_in l.kinds.entries k
    ≡ versions_in l.initial.kinds.entries k ++ writes_versions l.shard l.entry k (take l.write-index l.writes)
