use Rattle.std.proofs.Common.{◌∙◌, ◌++◌, ◌∷◌, [], sym, subst}
use Rattle.std.specs.Prelude.{All}
use Rattle.std.proofs.lemmas.List.{map_push}
use Rattle.std.proofs.lemmas.List.Elements.{All-push}
use Rattle.ds_pages.specs.Places.{IsPlaced}
use Rattle.ds_branch.specs.Merging.{in_merged}
use Rattle.ds_branch.proofs.extending.extended.Goals as goal

pub loop-row-preserved : goal.loop-row-preserved
loop-row-preserved c =
    let merged = c.args.merged.now in
    let row = c.in_ok-extended_row.field-0 in
    record {
      rows = c.in_ok-push.ensures.items ∙ (λ i. c.loop-row.invariant.rows i ++ c.in_ok-extended_row.ensures.0 i ∷ [])
          ∙ sym (map_push (in_merged merged c.args.branch.now) c.loop-row.yielded c.in-Some.row);
      placed = subst (λ rs. All (IsPlaced merged) rs) (sym c.in_ok-push.ensures.items)
          (All-push (IsPlaced merged) c.loop-row.all.items row c.loop-row.invariant.placed c.in_ok-extended_row.ensures.1);
    }
