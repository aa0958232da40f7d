use Rattle.std.proofs.Common.{◌≡◌, ◌+◌, ◌≤◌, None, ap, arith, length, map, refl, subst, ◌∙◌}
use Rattle.std.proofs.lemmas.List.{length-map}
use Rattle.std.specs.Option.{option_copied}
use Rattle.ds_pages.specs.Places.{parts_of, place_of, placed}
use Rattle.ds_branch.specs.Behind.{ArePlaces}
use Rattle.ds_branch.specs.BoundSums.{bound_at}
use Rattle.ds_model.specs.Bounds.{given}
use Rattle.ds_rows.specs.Versions.{entities_at}
use Rattle.ds_branch.proofs.OkLaws.{on_err}
use Rattle.ds_engine.specs.Searches.{bound_in, given_in, most_of}
use Rattle.ds_engine.proofs.ShardPages.{parts-placed}
use Rattle.ds_engine.proofs.snapshot.ShardSnapshot.places.Goals as goal

pub returns-in_err-found-clause-refused : goal.returns-in_err-found-clause-refused
returns-in_err-found-clause-refused g c =
    let q = c.args.branch.now in
    let w = c.args.query.now.window.now in
    let same : bound_at q (option_copied c.as_ref-start.result) (option_copied c.as_ref-end.result) None
    (record { stamp = c.self.inside.stamp; versions = c.tables-tables.result.versions }) ≡ bound_in w None q c.args.self.now =
    λ i. bound_at q (c.as_ref-start.ensures.value i) (c.as_ref-end.ensures.value i) None
    (record { stamp = (c.self.view_is i).stamp; versions = (c.tables-tables.ensures i).versions }) in
    on_err c.from_residual.result (c.answer_behind.new.steps ≤ c.args.steps.now + bound_in w None q c.args.self.now)
    (subst (λ n. c.answer_behind.new.steps ≤ c.args.steps.now + n) same (c.in_err-found.ensures.steps_when_refused c.requires.plan.lean))

pub returns-clause-places : goal.returns-clause-places
returns-clause-places g c =
    let q = c.args.branch.now in
    let n = c.args.query.now.normal.now in
    let w = c.args.query.now.window.now in
    let rows = given q (option_copied c.as_ref-start.result) (option_copied c.as_ref-end.result) c.most-most.result
    (entities_at c.self.inside.stamp c.tables-tables.result.versions) in
    let same : rows ≡ given_in n w q c.args.self.now =
    λ i. given q (c.as_ref-start.ensures.value i) (c.as_ref-end.ensures.value i) (c.most-most.ensures i)
    (entities_at ((c.self.view_is i).stamp) ((c.tables-tables.ensures i).versions)) in
    subst (λ rs. ArePlaces q.columns rs c.in_ok-found.found.places.items) (parts-placed q.columns rows ∙ same)
    (c.in_ok-found.ensures.rows.places refl)

pub returns-clause-steps : goal.returns-clause-steps
returns-clause-steps g c =
    let q = c.args.branch.now in
    let w = c.args.query.now.window.now in
    let same : bound_at q (option_copied c.as_ref-start.result) (option_copied c.as_ref-end.result) c.most-most.result
    (record { stamp = c.self.inside.stamp; versions = c.tables-tables.result.versions })
    ≡ bound_in w (most_of c.args.query.now.normal.now w) q c.args.self.now =
    λ i. bound_at q (c.as_ref-start.ensures.value i) (c.as_ref-end.ensures.value i) (c.most-most.ensures i)
    (record { stamp = (c.self.view_is i).stamp; versions = (c.tables-tables.ensures i).versions }) in
    subst (λ n. c.answer_behind.new.steps ≤ c.args.steps.now + n) same (c.in_ok-found.ensures.steps_bounded c.requires.plan.lean)

pub returns-clause-a_step_for_each : goal.returns-clause-a_step_for_each
returns-clause-a_step_for_each g c =
    let q = c.args.branch.now in
    let rows = map (placed q.columns) (given q (option_copied c.as_ref-start.result) (option_copied c.as_ref-end.result) c.most-most.result
    (entities_at c.self.inside.stamp c.tables-tables.result.versions)) in
    let found = c.in_ok-found.ensures in
    let many = ap length (found.rows.places refl).are ∙ length-map (map parts_of rows) (place_of q.columns) ∙ length-map rows parts_of in
    let count = found.rows.count in
    let each = found.a_step_for_each in
    omega (arith, many, count, each)
