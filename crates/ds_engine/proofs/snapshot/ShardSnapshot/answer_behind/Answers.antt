use Rattle.std.proofs.Common.{◌≡◌, ◌+◌, ◌≤◌, None, map, subst}
use Rattle.std.specs.Prelude.{IfOk, OnErr, OnOk, false}
use Rattle.std.specs.Option.{option_copied}
use Rattle.ds_pages.specs.Places.{placed}
use Rattle.ds_branch.specs.Behind.{IsCollected}
use Rattle.ds_branch.specs.BoundSums.{bound_at}
use Rattle.ds_model.specs.Bounds.{given}
use Rattle.ds_rows.specs.Versions.{entities_at}
use Rattle.ds_branch.proofs.OkLaws.{from_ok}
use Rattle.ds_engine.specs.Searches.{bound_in, given_in, most_of}
use Rattle.ds_engine.proofs.snapshot.ShardSnapshot.answer_behind.Goals as goal

pub returns-clause-rows : goal.returns-clause-rows
returns-clause-rows g c =
    let q = c.args.branch.now in
    let n = c.args.query.now.normal.now in
    let w = c.args.query.now.window.now in
    let same : given q (option_copied c.as_ref-start.result) (option_copied c.as_ref-end.result) c.most-most.result
    (entities_at c.self.inside.stamp c.tables-tables.result.versions) ≡ given_in n w q c.args.self.now =
    λ i. given q (c.as_ref-start.ensures.value i) (c.as_ref-end.ensures.value i) (c.most-most.ensures i)
    (entities_at ((c.self.view_is i).stamp) ((c.tables-tables.ensures i).versions)) in
    subst (λ rs. IfOk c.answer_behind.result (IsCollected q.columns w.offset false (map (placed q.columns) rs))) same
    c.answer_behind.ensures.rows

pub returns-clause-steps : goal.returns-clause-steps
returns-clause-steps g c =
    let q = c.args.branch.now in
    let w = c.args.query.now.window.now in
    let same : bound_at q (option_copied c.as_ref-start.result) (option_copied c.as_ref-end.result) c.most-most.result
    (record { stamp = c.self.inside.stamp; versions = c.tables-tables.result.versions })
    ≡ bound_in w (most_of c.args.query.now.normal.now w) q c.args.self.now =
    λ i. bound_at q (c.as_ref-start.ensures.value i) (c.as_ref-end.ensures.value i) (c.most-most.ensures i)
    (record { stamp = (c.self.view_is i).stamp; versions = (c.tables-tables.ensures i).versions }) in
    subst (λ n. OnOk c.answer_behind.result (c.answer_behind.new.steps ≤ c.args.steps.now + n)) same
    (from_ok c.answer_behind.result (c.answer_behind.new.steps ≤ c.args.steps.now + bound_at q (option_copied c.as_ref-start.result)
    (option_copied c.as_ref-end.result) c.most-most.result
    (record { stamp = c.self.inside.stamp; versions = c.tables-tables.result.versions }))
    (c.answer_behind.ensures.steps_bounded c.requires.plan.lean))

pub returns-clause-refused : goal.returns-clause-refused
returns-clause-refused g c =
    let q = c.args.branch.now in
    let same : bound_at q (option_copied c.as_ref-start.result) (option_copied c.as_ref-end.result) None
    (record { stamp = c.self.inside.stamp; versions = c.tables-tables.result.versions })
    ≡ bound_in c.args.query.now.window.now None q c.args.self.now =
    λ i. bound_at q (c.as_ref-start.ensures.value i) (c.as_ref-end.ensures.value i) None
    (record { stamp = (c.self.view_is i).stamp; versions = (c.tables-tables.ensures i).versions }) in
    subst (λ n. OnErr c.answer_behind.result (c.answer_behind.new.steps ≤ c.args.steps.now + n)) same
    (c.answer_behind.ensures.steps_when_refused c.requires.plan.lean)
