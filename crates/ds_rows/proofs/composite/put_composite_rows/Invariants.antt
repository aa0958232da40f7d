-- The rows so far and those of the definitions that are left are all.
use Rattle.std.proofs.Common.{◌≡◌, ◌++◌, [], drop}
use Rattle.ds_rows.proofs.IndexedRows.{rows_from}
use Rattle.ds_rows.proofs.composite.put_composite_rows.Given as goal

abbrev pub invariant-loop-position : goal.invariant-loop-position
invariant-loop-position l = record {
  begun : l.rows.begun ≡ [];
  so_far : l.rows.rows ++ rows_from l.entity l.position (drop l.position l.defs) ≡ l.initial.rows.rows ++ rows_from l.entity 0 l.defs;
}
