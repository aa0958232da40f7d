use Rattle.std.proofs.Common.{◌≤◌, length, take}
use Rattle.std.specs.List.{AllByRecursion as Each}
use Rattle.ds_table.specs.Heads.{Shares}
use Rattle.ds_table.proofs.rows.shared_by.Given as goal

abbrev pub invariant-loop-row : goal.invariant-loop-row
invariant-loop-row l = record {
  long : l.shared ≤ length l.first;
  alike : Each (Shares l.shared l.first) (take l.row-index l.rows);
}
