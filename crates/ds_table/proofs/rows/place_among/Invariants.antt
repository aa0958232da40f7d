use Rattle.std.proofs.Common.{◌-◌, ◌≡◌, ◌≤◌, true, false, length, take, drop}
use Rattle.std.specs.List.{AllByRecursion as Each}
use Rattle.ds_table.specs.Places.{row_before}
use Rattle.ds_table.proofs.rows.place_among.Given as goal

abbrev pub invariant-loop-low : goal.invariant-loop-low
invariant-loop-low l = record {
  ordered : l.low ≤ l.high;
  within : l.high ≤ length l.rows;
  before : Each (λ r. row_before l.row l.same_too r ≡ true) (take l.low l.rows);
  after : Each (λ r. row_before l.row l.same_too r ≡ false) (drop l.high l.rows);
}

abbrev pub decreases-loop-low : goal.decreases-loop-low
decreases-loop-low l = l.high - l.low
