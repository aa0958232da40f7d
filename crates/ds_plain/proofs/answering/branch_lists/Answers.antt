use Rattle.std.proofs.Common.{◌++◌, ◌∷◌, [], ◌<◌, map, length, get_or, sym, ap, subst, ◌∙◌}
use Rattle.std.specs.Prelude.{All}
use Rattle.ds_pages.specs.Pages.{all_rows}
use Rattle.ds_pages.specs.Places.{IsPlaced}
use Rattle.ds_plain.specs.Answers.{branch_list}
use Rattle.ds_plain.proofs.AnswerLaws.{placed_more, seen_more}
use Rattle.ds_plain.proofs.answering.branch_lists.Goals as goal

pub loop-branch-preserved : goal.loop-branch-preserved
loop-branch-preserved c =
    let merged = c.args.normal.now.merged in
    let entities = map (λ e. e.now) c.args.entities.now in
    let before = c.loop-branch.lists.items in
    let list = c.in_ok-list.list in
    let i = c.loop-branch.branch-index in
    record {
      lists = c.in_ok-push.ensures.items ∙ (λ j. c.loop-branch.invariant.lists j ++ c.in_ok-list.ensures.rows j ∷ [])
          ∙ sym (seen_more (branch_list merged entities) c.args.normal.now.branches i c.branch-item.result
          (subst (λ bs. i < length bs) c.as_slice-branch-items.ensures c.loop-branch-test.true)
          (c.branch-item.is ∙ ap (λ bs. get_or bs i c.branch-item.result) c.as_slice-branch-items.ensures));
      placed = subst (λ ls. All (IsPlaced merged) (all_rows ls)) (sym c.in_ok-push.ensures.items)
          (placed_more merged before list c.loop-branch.invariant.placed c.in_ok-list.ensures.placed);
    }
