use Rattle.std.proofs.Common.{◌≡◌, take}
use Rattle.ds_base.specs.Keys.{KeyParts}
use Rattle.ds_history.specs.Writers.{noted_in, writers_of}
use Rattle.ds_history.proofs.writers.writers_of.Given as goal

-- so far the first commits are noted
abbrev pub invariant-loop-i : goal.invariant-loop-i
invariant-loop-i l = (g : KeyParts) → noted_in l.writers.entries g ≡ writers_of g (take l.i l.journal)
