use Rattle.std.proofs.Common.{◌≡◌, ℕ, ◌+◌, ◌≤◌, None, [], ap, length, map, refl, sym, ◌∙◌, arith}
use Rattle.std.specs.Prelude.{sum_by}
use Rattle.std.proofs.lemmas.List.{take_all}
use Rattle.std.proofs.lemmas.List.Folds.{flat_map-map}
use Rattle.ds_query.specs.declared.branch.Branch.{Branch}
use Rattle.ds_pages.specs.Places.{placed}
use Rattle.ds_branch.specs.BoundSums.{bound_at}
use Rattle.ds_engine.specs.Searches.{bound_in, look_ups, most_of, search_bound, shard_rows}
use Rattle.ds_engine.specs.Snapshots.{SnapshotParts, asked_in, entities_in}
use Rattle.ds_engine.proofs.FewerSteps.{bound-le, doubled, once, steps-last, steps-more, sum-le, sums-of-all}
use Rattle.ds_branch.proofs.OkLaws.{all_then, ok_then}
use Rattle.ds_engine.proofs.RowLoops.{rows-all, rows-more}
use Rattle.ds_engine.proofs.searching.search.Goals as goal

pub loop-snapshot-preserved : goal.loop-snapshot-preserved
loop-snapshot-preserved g c =
    let n = c.args.query.now.normal.now in
    let w = c.args.query.now.window.now in
    let i = c.loop-snapshot.snapshot-index in
    let s = c.snapshot-item.result in
    let given = map (placed n.merged) (shard_rows n w (entities_in s)) in
    let each = c.in_ok-put_shard_rows.ensures.a_step_for_each in
    let before = c.loop-snapshot.invariant.counted in
    record {
      rows = rows-more n.merged (λ (x : SnapshotParts). shard_rows n w (entities_in x)) c.args.snapshots.now i s c.loop-snapshot-test.true
          c.snapshot-item.is [] c.loop-snapshot.rows.items given c.put_shard_rows.new.rows.items c.loop-snapshot.invariant.rows refl
          c.in_ok-put_shard_rows.ensures.rows;
      placed = c.in_ok-put_shard_rows.ensures.placed;
      steps = steps-more (λ (x : SnapshotParts). sum_by (λ q. bound_at q w.start w.end (most_of n w) (asked_in x)) n.branches)
          c.args.snapshots.now i s c.loop-snapshot-test.true c.snapshot-item.is c.args.steps.now c.loop-snapshot.steps
          c.put_shard_rows.new.steps c.loop-snapshot.invariant.steps c.in_ok-put_shard_rows.ensures.steps;
      counted = omega (arith, each, before);
    }

pub returns-in_err-put_shard_rows-clause-steps_in_all : goal.returns-in_err-put_shard_rows-clause-steps_in_all
returns-in_err-put_shard_rows-clause-steps_in_all g c =
    let n = c.args.query.now.normal.now in
    let w = c.args.query.now.window.now in
    let ss = c.args.snapshots.now in
    let few : SnapshotParts → ℕ = λ s. sum_by (λ q. bound_in w (most_of n w) q s) n.branches in
    let all : SnapshotParts → ℕ = λ s. sum_by (λ q. bound_in w None q s) n.branches in
    let fewer : (s : SnapshotParts) → few s ≤ all s =
    λ s. sum-le (λ q. bound_in w (most_of n w) q s) (λ q. bound_in w None q s) n.branches
    (λ q. bound-le q w.start w.end (most_of n w) (asked_in s)) in
    let within = steps-last all ss c.loop-snapshot.snapshot-index c.snapshot-item.result c.loop-snapshot-test.true c.snapshot-item.is
    few fewer c.args.steps.now c.loop-snapshot.steps c.put_shard_rows.new.steps c.loop-snapshot.invariant.steps
    c.in_err-put_shard_rows.ensures.refused in
    let sums = sums-of-all asked_in w.start w.end None n.branches ss (c.bounds_add_up.ensures w.start w.end None) in
    once c.args.steps.now c.put_shard_rows.new.steps (search_bound n w None ss) (omega (arith, within, sums))

pub page_of-requires-clause-rows : goal.page_of-requires-clause-rows
page_of-requires-clause-rows g c =
    let n = c.args.query.now.normal.now in
    let w = c.args.query.now.window.now in
    rows-all n.merged (λ (s : SnapshotParts). shard_rows n w (entities_in s)) c.args.snapshots.now c.loop-snapshot.snapshot-index []
    c.loop-snapshot.rows.items c.loop-snapshot-test.false c.loop-snapshot.invariant.rows
    ∙ ap (map (placed n.merged)) (sym (flat_map-map (shard_rows n w) entities_in c.args.snapshots.now))

pub returns-clause-steps_in_all : goal.returns-clause-steps_in_all
returns-clause-steps_in_all g c =
    let n = c.args.query.now.normal.now in
    let w = c.args.query.now.window.now in
    let f : SnapshotParts → ℕ = λ s. sum_by (λ q. bound_at q w.start w.end (most_of n w) (asked_in s)) n.branches in
    let so_far = c.loop-snapshot.invariant.steps in
    let whole = ap (sum_by f) (take_all c.loop-snapshot.snapshot-index c.args.snapshots.now c.loop-snapshot-test.false) in
    let sums = sums-of-all asked_in w.start w.end (most_of n w) n.branches c.args.snapshots.now
    (c.bounds_add_up.ensures w.start w.end (most_of n w)) in
    let total : c.loop-snapshot.steps ≤ c.args.steps.now + search_bound n w (most_of n w) c.args.snapshots.now =
    omega (arith, so_far, whole, sums) in
    doubled n w (most_of n w) c.args.snapshots.now c.args.steps.now c.loop-snapshot.steps (length c.loop-snapshot.rows.items)
    c.page_of.new.steps total c.loop-snapshot.invariant.counted c.page_of.ensures.look_ups

pub returns-clause-steps_bounded : goal.returns-clause-steps_bounded
returns-clause-steps_bounded g c =
    let n = c.args.query.now.normal.now in
    let w = c.args.query.now.window.now in
    let f : SnapshotParts → ℕ = λ s. sum_by (λ q. bound_at q w.start w.end (most_of n w) (asked_in s)) n.branches in
    let so_far = c.loop-snapshot.invariant.steps in
    let whole = ap (sum_by f) (take_all c.loop-snapshot.snapshot-index c.args.snapshots.now c.loop-snapshot-test.false) in
    let sums = sums-of-all asked_in w.start w.end (most_of n w) n.branches c.args.snapshots.now
    (c.bounds_add_up.ensures w.start w.end (most_of n w)) in
    let total : c.loop-snapshot.steps ≤ c.args.steps.now + search_bound n w (most_of n w) c.args.snapshots.now =
    omega (arith, so_far, whole, sums) in
    ok_then c.page_of.result c.page_of.ensures.steps (λ found all.
    all_then {P = λ (q : Branch). c.page_of.new.steps ≡ c.loop-snapshot.steps + look_ups q.select (length found.results)}
    {Q = λ (q : Branch). c.page_of.new.steps
    ≤ (c.args.steps.now + search_bound n w (most_of n w) c.args.snapshots.now) + look_ups q.select (length found.results)}
    n.branches all (λ q is. omega (arith, is, total)))
