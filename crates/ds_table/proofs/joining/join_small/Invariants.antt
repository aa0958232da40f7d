use Rattle.std.proofs.Common.{◌≡◌, ◌-◌, ◌<◌, length, take}
use Rattle.ds_table.specs.Blocks.{joined, IsSpaced}
use Rattle.ds_table.proofs.joining.join_small.Given as goal

abbrev pub invariant-loop-i : goal.invariant-loop-i
invariant-loop-i l = record {
  begun : 0 < l.i;
  same : joined l.blocks.items ≡ joined l.initial.blocks.items;
  spaced : IsSpaced (take l.i l.blocks.items);
}

abbrev pub decreases-loop-i : goal.decreases-loop-i
decreases-loop-i l = length l.blocks.items - l.i
