use Rattle.std.proofs.Common.{◌≡◌, ◌+◌, ◌≤◌, None, ap, get_or, length, subst, ◌∙◌, arith}
use Rattle.ds_query.specs.declared.branch.Branch.{Branch}
use Rattle.ds_engine.specs.Plans.{IsPlanFor}
use Rattle.ds_engine.specs.Searches.{look_ups, most_of, search_bound}
use Rattle.ds_engine.proofs.FewerSteps.{doubled}
use Rattle.ds_engine.proofs.OneShard.{bound_over_shards, is_one, page_of_shards}
use Rattle.ds_engine.proofs.Plans.{as_many, plan_at}
use Rattle.ds_branch.proofs.OkLaws.{all_then, ok_then}
use Rattle.ds_engine.proofs.searching.search_single.Goals as goal

pub bounds-query-0 : goal.bounds-query-0
bounds-query-0 g c =
    let many = as_many c.args.query.now.defs.now c.args.query.now.normal.now.branches c.args.query.now.plans.now c.requires.planned.plans in
    let one = c.requires.planned.lawful.single c.requires.single in
    omega (arith, many, one)

pub page_over_shards-requires-clause-plan : goal.page_over_shards-requires-clause-plan
page_over_shards-requires-clause-plan g c =
    let q = c.index-as_slice-0.result in
    let one = c.requires.planned.lawful.single c.requires.single in
    subst (IsPlanFor c.args.query.now.defs.now q) c.index-query-0.is
    (plan_at c.args.query.now.defs.now c.args.query.now.normal.now.branches c.args.query.now.plans.now 0 q c.index-query-0.result c.requires.planned.plans (omega (arith, one))
    (c.index-as_slice-0.is ∙ ap (λ bs. get_or bs 0 q) c.as_slice.ensures) c.index-query-0.is)

pub returns-clause-found : goal.returns-clause-found
returns-clause-found g c = λ own.
    let n = c.args.query.now.normal.now in
    let w = c.args.query.now.window.now in
    let q = c.index-as_slice-0.result in
    let branches = is_one n.branches q (c.requires.planned.lawful.single c.requires.single)
    (c.index-as_slice-0.is ∙ ap (λ bs. get_or bs 0 q) c.as_slice.ensures) in
    c.told.ensures.found
    (page_of_shards n w q c.args.snapshots.now c.in_ok-page.page c.requires.planned.lawful c.requires.single branches c.in_ok-page.ensures.page own)
    own

pub returns-in_err-page-clause-steps_in_all : goal.returns-in_err-page-clause-steps_in_all
returns-in_err-page-clause-steps_in_all g c =
    let n = c.args.query.now.normal.now in
    let q = c.index-as_slice-0.result in
    let branches = is_one n.branches q (c.requires.planned.lawful.single c.requires.single)
    (c.index-as_slice-0.is ∙ ap (λ bs. get_or bs 0 q) c.as_slice.ensures) in
    let bound = bound_over_shards n c.args.query.now.window.now None q c.args.snapshots.now branches in
    let within = c.in_err-page.ensures.refused in
    omega (arith, within, bound)

pub returns-clause-steps_in_all : goal.returns-clause-steps_in_all
returns-clause-steps_in_all g c =
    let n = c.args.query.now.normal.now in
    let w = c.args.query.now.window.now in
    let q = c.index-as_slice-0.result in
    let branches = is_one n.branches q (c.requires.planned.lawful.single c.requires.single)
    (c.index-as_slice-0.is ∙ ap (λ bs. get_or bs 0 q) c.as_slice.ensures) in
    let bound = bound_over_shards n w (most_of n w) q c.args.snapshots.now branches in
    let within = c.in_ok-page.ensures.steps in
    doubled n w (most_of n w) c.args.snapshots.now c.args.steps.now c.page_over_shards.new.steps (length c.in_ok-page.page.rows)
    c.told.new.steps (omega (arith, within, bound)) c.in_ok-page.ensures.a_step_for_each c.told.ensures.look_ups

pub returns-clause-steps_bounded : goal.returns-clause-steps_bounded
returns-clause-steps_bounded g c =
    let n = c.args.query.now.normal.now in
    let w = c.args.query.now.window.now in
    let q = c.index-as_slice-0.result in
    let branches = is_one n.branches q (c.requires.planned.lawful.single c.requires.single)
    (c.index-as_slice-0.is ∙ ap (λ bs. get_or bs 0 q) c.as_slice.ensures) in
    let bound = bound_over_shards n w (most_of n w) q c.args.snapshots.now branches in
    let within = c.in_ok-page.ensures.steps in
    let total : c.page_over_shards.new.steps ≤ c.args.steps.now + search_bound n w (most_of n w) c.args.snapshots.now =
    omega (arith, within, bound) in
    ok_then c.told.result c.told.ensures.steps (λ found all.
    all_then {P = λ (b : Branch). c.told.new.steps ≡ c.page_over_shards.new.steps + look_ups b.select (length found.results)}
    {Q = λ (b : Branch). c.told.new.steps
    ≤ (c.args.steps.now + search_bound n w (most_of n w) c.args.snapshots.now) + look_ups b.select (length found.results)}
    n.branches all (λ b is. omega (arith, is, total)))
