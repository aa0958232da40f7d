-- The writes so far have none with too many rows: what is to tell is of the others.
use Rattle.std.proofs.Common.{◌≡◌, drop}
use Rattle.ds_row_limit.specs.ManyRows.{first_too_many}
use Rattle.ds_row_limit.proofs.check_writes.Given as goal

abbrev pub invariant-loop-write : goal.invariant-loop-write
invariant-loop-write l = first_too_many l.defs (drop l.write-index l.writes) ≡ first_too_many l.defs l.writes
