use Rattle.std.proofs.Common.{◌-◌, ◌≡◌, ◌<◌, ◌≤◌, true, false, [], length, take, get_or}
use Rattle.std.specs.List.{AllByRecursion as Each}
use Rattle.ds_table.specs.Versions.{RowVersion}
use Rattle.ds_table.specs.Blocks.{joined}
use Rattle.ds_table.specs.Places.{comes_before}
use Rattle.ds_table.proofs.places.gallop.Given as goal

abbrev pub invariant-loop-low : goal.invariant-loop-low
invariant-loop-low l = record {
  least : l.near ≤ l.low;
  within : l.low < length l.blocks;
  before : Each (λ v. comes_before l.row false v ≡ true) (joined (take l.low l.blocks));
  begun : (d : RowVersion) → comes_before l.row false (get_or (get_or l.blocks l.low []) 0 d) ≡ true;
}

abbrev pub decreases-loop-low : goal.decreases-loop-low
decreases-loop-low l = length l.blocks - l.low
