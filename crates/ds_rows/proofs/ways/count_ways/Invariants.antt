-- The ways so far and those of the columns that are left give all.
use Rattle.std.proofs.Common.{◌≡◌, ◌*◌, drop}
use Rattle.ds_rows.specs.Ways.{ways_count, lists_of}
use Rattle.ds_rows.proofs.ways.count_ways.Given as goal

abbrev pub invariant-loop-column : goal.invariant-loop-column
invariant-loop-column l = l.ways * ways_count (lists_of (drop l.column-index l.columns)) ≡ ways_count (lists_of l.columns)
