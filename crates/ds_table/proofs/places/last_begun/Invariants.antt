use Rattle.std.proofs.Common.{◌-◌, ◌≡◌, ◌<◌, ◌≤◌, true, false, [], length, take, drop, get_or}
use Rattle.std.specs.List.{AllByRecursion as Each}
use Rattle.ds_table.specs.Versions.{RowVersion}
use Rattle.ds_table.specs.Blocks.{joined}
use Rattle.ds_table.specs.Places.{comes_before}
use Rattle.ds_table.proofs.places.last_begun.Given as goal

abbrev pub invariant-loop-high : goal.invariant-loop-high
invariant-loop-high l = record {
  some : l.low < l.high;
  within : l.high ≤ length l.blocks;
  before : Each (λ v. comes_before l.row false v ≡ true) (joined (take l.low l.blocks));
  begun : (d : RowVersion) → comes_before l.row false (get_or (get_or l.blocks l.low []) 0 d) ≡ true;
  after : Each (λ v. comes_before l.row false v ≡ false) (joined (drop l.high l.blocks));
}

abbrev pub decreases-loop-high : goal.decreases-loop-high
decreases-loop-high l = l.high - l.low
