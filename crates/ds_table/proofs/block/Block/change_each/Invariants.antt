use Rattle.std.proofs.Common.{◌≡◌, ◌++◌, ◌≤◌, length, take, drop}
use Rattle.ds_table.specs.Changes.{changed}
use Rattle.ds_table.proofs.block.Block.change_each.Given as goal

abbrev pub invariant-loop-i : goal.invariant-loop-i
invariant-loop-i l = record {
  within : l.i ≤ length l.initial.self;
  same : l.self ≡ take l.i l.initial.self ++ changed l.change (drop l.i l.initial.self);
}

abbrev pub decreases-loop-i : goal.decreases-loop-i
decreases-loop-i l = l.i
