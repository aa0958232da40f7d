use Rattle.std.proofs.Common.{◌≡◌, ◌++◌, ◌<◌, ◌≤◌, true, length, take, drop}
use Rattle.std.specs.List.{AllByRecursion as Each}
use Rattle.ds_table.specs.Versions.{never}
use Rattle.ds_table.specs.Blocks.{EndFrom, joined, IsSpaced}
use Rattle.ds_table.specs.Changes.{changed}
use Rattle.ds_table.proofs.joining.change_each.Given as goal

abbrev pub invariant-loop-i : goal.invariant-loop-i
invariant-loop-i l = record {
  long : length l.blocks.items ≡ length l.initial.blocks.items;
  same : joined (take l.i l.blocks.items) ++ changed l.change (joined (drop l.i l.blocks.items)) ≡ changed l.change (joined l.initial.blocks.items);
  counted : l.count ≡ length (joined (take l.i l.blocks.items));
  later : EndFrom l.due (joined (take l.i l.blocks.items));
  within : l.due ≤ never;
  spaced : l.apart ≡ true → IsSpaced l.blocks.items;
  filled : l.apart ≡ true → Each (λ b. 0 < length b) l.blocks.items;
}
