use Rattle.std.proofs.Common.{◌≡◌, ℕ, ◌+◌, ◌<◌, ◌≤◌, None, ap, get_or, length, length-append, subst, ◌∙◌, arith}
use Rattle.std.specs.Prelude.{sum_by}
use Rattle.ds_query.specs.declared.branch.Branch.{Branch}
use Rattle.ds_branch.specs.BoundSums.{bound_at}
use Rattle.ds_engine.specs.Plans.{IsPlanFor}
use Rattle.ds_engine.specs.Searches.{branch_rows, most_of}
use Rattle.ds_engine.specs.Snapshots.{asked_in, entities_in}
use Rattle.ds_engine.proofs.FewerSteps.{bound-le, steps-last, steps-more}
use Rattle.ds_engine.proofs.Plans.{as_many, plan_at}
use Rattle.ds_branch.proofs.OkLaws.{on_err}
use Rattle.ds_engine.proofs.RowLoops.{placed-more, rows-more}
use Rattle.ds_engine.proofs.rows.put_shard_rows.Goals as goal

pub bounds-query-number : goal.bounds-query-number
bounds-query-number g c =
    let many = as_many c.args.query.now.defs.now c.args.query.now.normal.now.branches c.args.query.now.plans.now c.requires.planned.plans in
    omega (arith, many, ap length c.as_slice-branches.ensures)

pub branch_rows-requires-clause-plan : goal.branch_rows-requires-clause-plan
branch_rows-requires-clause-plan g c =
    let i = c.loop-number.number in
    let q = c.index-branches-number.result in
    subst (IsPlanFor c.args.query.now.defs.now q) c.index-query-number.is
    (plan_at c.args.query.now.defs.now c.args.query.now.normal.now.branches c.args.query.now.plans.now i q c.index-query-number.result c.requires.planned.plans
    (subst (λ bs. i < length bs) c.as_slice-branches.ensures c.loop-number-test.true)
    (c.index-branches-number.is ∙ ap (λ bs. get_or bs i q) c.as_slice-branches.ensures)
    c.index-query-number.is)

pub returns-in_err-list-clause-refused : goal.returns-in_err-list-clause-refused
returns-in_err-list-clause-refused g c =
    let w = c.args.query.now.window.now in
    let asked = asked_in c.args.snapshot.now in
    let i = c.loop-number.number in
    let q = c.index-branches-number.result in
    let most = most_of c.args.query.now.normal.now w in
    let all : Branch → ℕ = λ b. bound_at b w.start w.end None asked in
    on_err c.from_residual.result (c.branch_rows.new.steps ≤ c.args.steps.now + sum_by all c.args.query.now.normal.now.branches)
    (steps-last all c.args.query.now.normal.now.branches i q
    (subst (λ bs. i < length bs) c.as_slice-branches.ensures c.loop-number-test.true)
    (c.index-branches-number.is ∙ ap (λ bs. get_or bs i q) c.as_slice-branches.ensures)
    (λ b. bound_at b w.start w.end most asked) (λ b. bound-le b w.start w.end most asked)
    c.args.steps.now c.loop-number.steps c.branch_rows.new.steps c.loop-number.invariant.steps c.in_err-list.ensures.refused)

pub returns-in_err-put_rows-clause-refused : goal.returns-in_err-put_rows-clause-refused
returns-in_err-put_rows-clause-refused g c =
    let w = c.args.query.now.window.now in
    let asked = asked_in c.args.snapshot.now in
    let i = c.loop-number.number in
    let q = c.index-branches-number.result in
    let most = most_of c.args.query.now.normal.now w in
    let all : Branch → ℕ = λ b. bound_at b w.start w.end None asked in
    let fewer = bound-le q w.start w.end most asked in
    let steps = c.in_ok-list.ensures.steps in
    on_err c.from_residual-in_err-put_rows.result (c.branch_rows.new.steps ≤ c.args.steps.now + sum_by all c.args.query.now.normal.now.branches)
    (steps-last all c.args.query.now.normal.now.branches i q
    (subst (λ bs. i < length bs) c.as_slice-branches.ensures c.loop-number-test.true)
    (c.index-branches-number.is ∙ ap (λ bs. get_or bs i q) c.as_slice-branches.ensures)
    (λ b. bound_at b w.start w.end most asked) (λ b. bound-le b w.start w.end most asked)
    c.args.steps.now c.loop-number.steps c.branch_rows.new.steps c.loop-number.invariant.steps (omega (arith, steps, fewer)))

pub loop-number-preserved : goal.loop-number-preserved
loop-number-preserved g c =
    let n = c.args.query.now.normal.now in
    let w = c.args.query.now.window.now in
    let asked = asked_in c.args.snapshot.now in
    let i = c.loop-number.number in
    let q = c.index-branches-number.result in
    let below : i < length n.branches = subst (λ bs. i < length bs) c.as_slice-branches.ensures c.loop-number-test.true in
    let each = c.in_ok-list.ensures.a_step_for_each in
    let before = c.loop-number.invariant.counted in
    let more = ap length c.in_ok-put_rows.ensures ∙ length-append c.loop-number.rows.items c.in_ok-list.list in
    let is : q ≡ get_or n.branches i q = c.index-branches-number.is ∙ ap (λ bs. get_or bs i q) c.as_slice-branches.ensures in
    record {
      rows = rows-more n.merged (branch_rows n w (entities_in c.args.snapshot.now)) n.branches i q below is c.args.rows.now.items
          c.loop-number.rows.items c.in_ok-list.list c.put_rows.new.rows.items c.loop-number.invariant.rows c.in_ok-list.ensures.rows
          c.in_ok-put_rows.ensures;
      placed = placed-more n.merged c.loop-number.rows.items c.in_ok-list.list c.put_rows.new.rows.items c.loop-number.invariant.placed
          c.in_ok-list.ensures.placed c.in_ok-put_rows.ensures;
      steps = steps-more (λ b. bound_at b w.start w.end (most_of n w) asked) n.branches i q below is c.args.steps.now c.loop-number.steps
          c.branch_rows.new.steps c.loop-number.invariant.steps c.in_ok-list.ensures.steps;
      counted = omega (arith, each, before, more);
    }
