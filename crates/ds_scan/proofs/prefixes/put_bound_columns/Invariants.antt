-- What was put and the values of the columns that are left are all.
use Rattle.std.proofs.Common.{◌≡◌, ◌++◌, drop}
use Rattle.ds_scan.specs.Prefixes.{bound_bytes}
use Rattle.ds_scan.specs.Scans.{AreLawfulBound}
use Rattle.ds_scan.proofs.prefixes.put_bound_columns.Given as goal

abbrev pub invariant-loop-column : goal.invariant-loop-column
invariant-loop-column l = record {
  put : l.prefix.bytes ++ bound_bytes l.pairs (drop l.column-index l.columns) ≡ l.initial.prefix.bytes ++ bound_bytes l.pairs l.columns;
  lawful : AreLawfulBound l.pairs (drop l.column-index l.columns) → AreLawfulBound l.pairs l.columns;
}
