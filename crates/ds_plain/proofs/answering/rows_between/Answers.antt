use Rattle.std.proofs.Common.{◌&&◌, List, ◌∷◌, map, cond, sym, ap, ◌∙◌}
use Rattle.std.specs.Prelude.{filter}
use Rattle.ds_pages.specs.Columns.{directions, key_descends}
use Rattle.ds_model.specs.Rows.{rows}
use Rattle.ds_model.specs.Results.{is_between, is_after, is_up_to}
use Rattle.ds_query.specs.declared.row.Row.{Row}
use Rattle.ds_pages.specs.Places.{IsPlaced, placed}
use Rattle.ds_plain.specs.declared.found.Found.{Found}
use Rattle.ds_plain.specs.FoundRows.{found_parts, IsLong}
use Rattle.ds_plain.proofs.AnswerLaws.{pushed, skipped, all_pushed, all_left}
use Rattle.ds_plain.proofs.answering.rows_between.Goals as goal

pub loop-found-preserved : goal.loop-found-preserved
loop-found-preserved c =
    let columns = c.args.branch.now.columns in
    let start = c.args.window.now.start in
    let end = c.args.window.now.end in
    let F : List Found → List Row = λ fs. map (placed columns) (filter (is_between columns start end) (map found_parts fs)) in
    let found = c.in-Some.found in
    let rest = c.next.new.self.rest.items in
    let stands = c.in_ok-row.ensures columns (c.in_ok-directions.ensures.values ∙ ap directions c.as_slice.ensures)
    (c.in_ok-directions.ensures.key ∙ ap key_descends c.as_slice.ensures) in
    let tells = ap (λ (r : Row). is_after start r.place.bytes && is_up_to end r.place.bytes) (sym stands.0) ∙ sym c.is_between.ensures in
    record {
      rows = pushed F c.loop-found.rows.items c.push.new.self.items c.loop-found.found-iterator.rest.items rest found c.in_ok-row.row
          (map (placed columns) (filter (is_between columns start end) (rows c.args.branch.now (map (λ e. e.now) c.args.entities.now))))
          c.in-Some.ensures.steps.0 c.in_ok-push.ensures.items
          (ap (λ b. map (placed columns) (cond b (found_parts found ∷ filter (is_between columns start end) (map found_parts rest))
          (filter (is_between columns start end) (map found_parts rest)))) (tells ∙ c.if-not-is_between.false)
          ∙ ap (λ r. r ∷ F rest) (sym stands.0))
          c.loop-found.invariant.rows;
      placed = all_pushed (IsPlaced columns) c.loop-found.rows.items c.push.new.self.items c.in_ok-row.row c.in_ok-push.ensures.items
          c.loop-found.invariant.placed stands.1;
      long = all_left (IsLong columns) c.loop-found.found-iterator.rest.items rest found c.in-Some.ensures.steps.0
          c.loop-found.invariant.long;
    }

pub loop-found-preserved-then-not-is_between : goal.loop-found-preserved-then-not-is_between
loop-found-preserved-then-not-is_between c =
    let columns = c.args.branch.now.columns in
    let start = c.args.window.now.start in
    let end = c.args.window.now.end in
    let F : List Found → List Row = λ fs. map (placed columns) (filter (is_between columns start end) (map found_parts fs)) in
    let found = c.in-Some.found in
    let rest = c.next.new.self.rest.items in
    let stands = c.in_ok-row.ensures columns (c.in_ok-directions.ensures.values ∙ ap directions c.as_slice.ensures)
    (c.in_ok-directions.ensures.key ∙ ap key_descends c.as_slice.ensures) in
    let tells = ap (λ (r : Row). is_after start r.place.bytes && is_up_to end r.place.bytes) (sym stands.0) ∙ sym c.is_between.ensures in
    record {
      rows = skipped F c.loop-found.rows.items c.loop-found.found-iterator.rest.items rest found
          (map (placed columns) (filter (is_between columns start end) (rows c.args.branch.now (map (λ e. e.now) c.args.entities.now))))
          c.in-Some.ensures.steps.0
          (ap (λ b. map (placed columns) (cond b (found_parts found ∷ filter (is_between columns start end) (map found_parts rest))
          (filter (is_between columns start end) (map found_parts rest)))) (tells ∙ c.if-not-is_between.true))
          c.loop-found.invariant.rows;
      placed = c.loop-found.invariant.placed;
      long = all_left (IsLong columns) c.loop-found.found-iterator.rest.items rest found c.in-Some.ensures.steps.0
          c.loop-found.invariant.long;
    }
