use Rattle.std.proofs.Common.{◌+◌, ◌*◌, ◌≤◌, None, List, length, map, subst, sym, ◌∙◌, arith}
use Rattle.std.specs.Prelude.{All}
use Rattle.ds_query.specs.declared.branch.Branch.{Branch}
use Rattle.ds_hub.specs.Holding.{known_in}
use Rattle.ds_engine.specs.Counted.{HasBegun}
use Rattle.ds_engine.specs.Searches.{look_ups, most_of, search_bound}
use Rattle.ds_engine.specs.Snapshots.{SnapshotParts, newest}
use Rattle.ds_store_reads.proofs.QueryLaws.{begun-of, many-origins, placed-origins}
use Rattle.ds_store_reads.proofs.searching.query.Goals as goal

pub query_shards-requires-clause-begun : goal.query_shards-requires-clause-begun
query_shards-requires-clause-begun g c =
    subst (λ n. All (HasBegun n c.args.query.now.defs.now c.args.kept) c.pass.inside.shards.items) (sym c.requires.ledger)
    (begun-of g.J.Names.ledger g.J.Names.definitions c.args.query.now.defs.now g.J.Names.window c.args.kept g.J.Names.shards
    c.pass.inside.shards.items c.requires.definitions c.requires.kept.0 c.pass.invariant.1)

pub query_shards-requires-clause-placed : goal.query_shards-requires-clause-placed
query_shards-requires-clause-placed g c =
    placed-origins g.J.Names.ledger g.J.Names.definitions g.J.Names.window g.J.Names.shards c.pass.inside.shards.items c.pass.invariant.1

pub query_shards-requires-clause-some : goal.query_shards-requires-clause-some
query_shards-requires-clause-some g c =
    let many = many-origins g.J.Names.ledger g.J.Names.definitions g.J.Names.window g.J.Names.shards c.pass.inside.shards.items
    c.pass.invariant.1 in
    let some = c.pass.invariant.5.0 in
    omega (arith, many, some)

pub query_shards-requires-clause-few : goal.query_shards-requires-clause-few
query_shards-requires-clause-few g c =
    let many = many-origins g.J.Names.ledger g.J.Names.definitions g.J.Names.window g.J.Names.shards c.pass.inside.shards.items
    c.pass.invariant.1 in
    let few = c.pass.invariant.5.1 in
    omega (arith, many, few)

pub invariant_of-pass : goal.invariant_of-pass
invariant_of-pass g c =
    let inv = c.pass.invariant in
    (inv.0, c.query_shards.ensures.hubs ∙ inv.1, inv.2, inv.3, inv.4, inv.5, inv.6)

pub returns-clause-steps_bounded : goal.returns-clause-steps_bounded
returns-clause-steps_bounded g c =
    let n = c.args.query.now.normal.now in
    let w = c.args.query.now.window.now in
    subst (λ (snapshots : List SnapshotParts). All (λ (q : Branch). c.query_shards.new.steps
    ≤ (c.args.steps.now + search_bound n w (most_of n w) snapshots) + look_ups q.select (length c.in_ok-answer.answer.results)) n.branches)
    (λ i. newest (c.requires.definitions i) (c.requires.kept.0 i) (map known_in c.query_shards.new.shards.items))
    c.in_ok-answer.ensures.steps_bounded

pub returns-in_err-answer-clause-steps_in_all : goal.returns-in_err-answer-clause-steps_in_all
returns-in_err-answer-clause-steps_in_all g c =
    subst (λ (snapshots : List SnapshotParts). c.query_shards.new.steps ≤ c.args.steps.now
    + 2 * search_bound c.args.query.now.normal.now c.args.query.now.window.now None snapshots)
    (λ i. newest (c.requires.definitions i) (c.requires.kept.0 i) (map known_in c.query_shards.new.shards.items))
    c.query_shards.ensures.steps_in_all

pub returns-clause-steps_in_all : goal.returns-clause-steps_in_all
returns-clause-steps_in_all g c =
    subst (λ (snapshots : List SnapshotParts). c.query_shards.new.steps ≤ c.args.steps.now
    + 2 * search_bound c.args.query.now.normal.now c.args.query.now.window.now None snapshots)
    (λ i. newest (c.requires.definitions i) (c.requires.kept.0 i) (map known_in c.query_shards.new.shards.items))
    c.query_shards.ensures.steps_in_all
