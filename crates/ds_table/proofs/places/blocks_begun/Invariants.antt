use Rattle.std.proofs.Common.{◌-◌, ◌+◌, ◌≡◌, ℕ, ◌≤◌, true, false, length, take, drop, get_or, []}
use Rattle.std.specs.List.{AllByRecursion as Each}
use Rattle.ds_table.specs.Versions.{RowVersion}
use Rattle.ds_table.specs.Blocks.{joined}
use Rattle.ds_table.specs.Places.{comes_before}
use Rattle.ds_table.proofs.places.blocks_begun.Given as goal

abbrev pub invariant-loop-low : goal.invariant-loop-low
invariant-loop-low l = record {
  ordered : l.low ≤ l.high;
  within : l.high ≤ length l.blocks;
  before : (m : ℕ) → l.low ≡ m + 1 → Each (λ v. comes_before l.row l.same_too v ≡ true) (joined (take m l.blocks));
  begun : (m : ℕ) → l.low ≡ m + 1 → (d : RowVersion) → comes_before l.row l.same_too (get_or (get_or l.blocks m []) 0 d) ≡ true;
  after : Each (λ v. comes_before l.row l.same_too v ≡ false) (joined (drop l.high l.blocks));
}

abbrev pub decreases-loop-low : goal.decreases-loop-low
decreases-loop-low l = l.high - l.low
