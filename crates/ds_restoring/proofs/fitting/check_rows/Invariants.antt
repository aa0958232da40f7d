-- The commits so far have no put with too many rows: what is to tell is of the others.
use Rattle.std.proofs.Common.{◌≡◌, ◌+◌, drop}
use Rattle.ds_restoring.specs.Fitting.{too_many_rows}
use Rattle.ds_restoring.proofs.fitting.check_rows.Given as goal

abbrev pub invariant-loop-i : goal.invariant-loop-i
invariant-loop-i l = too_many_rows l.defs (l.i + 1) (drop l.i l.journal) ≡ too_many_rows l.defs 1 l.journal
