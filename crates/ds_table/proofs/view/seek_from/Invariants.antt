use Rattle.std.proofs.Common.{◌≡◌, ◌+◌, drop, find, option_copied}
use Rattle.ds_table.specs.Versions.{in_range, seen_rows, unseen_before, versions_within}
use Rattle.ds_table.specs.Blocks.{joined}
use Rattle.ds_table.proofs.view.seek_from.Given as goal

abbrev pub invariant-loop-i : goal.invariant-loop-i
invariant-loop-i g l = record {
  least : find (in_range l.at_least (option_copied l.below)) (seen_rows l.at (joined l.blocks))
      ≡ find (in_range l.at_least (option_copied l.below)) (seen_rows l.at (joined (drop l.i l.blocks)));
  steps : l.steps + unseen_before l.at (versions_within l.at_least (option_copied l.below) (joined (drop l.i l.blocks)))
      ≡ l.initial.steps + unseen_before l.at (versions_within l.at_least (option_copied l.below) (joined l.blocks));
}
