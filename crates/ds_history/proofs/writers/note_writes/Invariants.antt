use Rattle.std.proofs.Common.{◌≡◌, take}
use Rattle.ds_base.specs.Keys.{KeyParts}
use Rattle.ds_log.specs.Conflicts.{writes_group}
use Rattle.ds_history.specs.Writers.{noted_in}
use Rattle.ds_history.proofs.Noting.{once}
use Rattle.ds_history.proofs.writers.note_writes.Given as goal

-- so far the commit is noted for the groups of the first writes
abbrev pub invariant-loop-write : goal.invariant-loop-write
invariant-loop-write l = (g : KeyParts)
    → noted_in l.writers.entries g ≡ once (writes_group g (take l.write-index l.writes)) l.number (noted_in l.initial.writers.entries g)
