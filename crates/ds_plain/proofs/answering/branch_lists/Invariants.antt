-- The lists of the branches so far.
use Rattle.std.proofs.Common.{◌≡◌, map, take}
use Rattle.std.specs.Prelude.{All}
use Rattle.ds_pages.specs.Pages.{all_rows}
use Rattle.ds_pages.specs.Places.{IsPlaced}
use Rattle.ds_plain.specs.Answers.{branch_list}
use Rattle.ds_plain.proofs.answering.branch_lists.Given as goal

abbrev pub invariant-loop-branch : goal.invariant-loop-branch
invariant-loop-branch l = record {
  lists : l.lists.items ≡ map (branch_list l.normal.merged (map (λ e. e.now) l.entities)) (take l.branch-index l.normal.branches);
  placed : All (IsPlaced l.normal.merged) (all_rows l.lists.items);
}
