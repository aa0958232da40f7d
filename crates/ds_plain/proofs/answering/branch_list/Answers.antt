use Rattle.std.proofs.Common.{◌≡◌, List, ◌∷◌, map, sym, ap, ◌∙◌}
use Rattle.ds_pages.specs.Extended.{extended, extended_values}
use Rattle.ds_query.specs.declared.row.Row.{Row}
use Rattle.ds_pages.specs.Places.{IsPlaced, placed}
use Rattle.ds_plain.specs.Answers.{branch_list}
use Rattle.ds_plain.specs.declared.found.Found.{Found}
use Rattle.ds_plain.specs.FoundRows.{found_parts}
use Rattle.ds_plain.proofs.AnswerLaws.{pushed, all_pushed}
use Rattle.ds_plain.proofs.answering.branch_list.Goals as goal

pub loop-found-preserved : goal.loop-found-preserved
loop-found-preserved c =
    let merged = c.args.merged.now in
    let q = c.args.branch.now in
    let F : List Found → List Row = λ fs. map (placed merged) (map (extended merged q) (map found_parts fs)) in
    let row = c.in_ok-placed.field-0 in
    let stands = c.in_ok-placed.ensures merged c.requires.values c.requires.key in
    let is : row ≡ placed merged (extended merged q (found_parts c.in-Some.found)) =
    stands.0 ∙ ap (λ vs. placed merged (record { values = vs; key = c.in-Some.found.key }))
    (c.in_ok-values.ensures.values ∙ ap (λ ms. extended_values ms q c.in-Some.found.values) c.as_slice.ensures) in
    let rest = c.next.new.self.rest.items in
    record {
      rows = pushed F c.loop-found.rows.items c.push.new.self.items c.loop-found.found-iterator.rest.items rest c.in-Some.found row
          (branch_list merged (map (λ e. e.now) c.args.entities.now) q) c.in-Some.ensures.steps.0 c.in_ok-push.ensures.items
          (ap (λ r. r ∷ F rest) (sym is)) c.loop-found.invariant.rows;
      placed = all_pushed (IsPlaced merged) c.loop-found.rows.items c.push.new.self.items row c.in_ok-push.ensures.items
          c.loop-found.invariant.placed stands.1;
    }
