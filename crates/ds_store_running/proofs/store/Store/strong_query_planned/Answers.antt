use Rattle.std.proofs.Common.{◌≡◌, ◌+◌, ◌≤◌, [], ◌∷◌, length, ap, refl, subst, sym, ◌∙◌, arith}
use Rattle.std.specs.Prelude.{All}
use Rattle.ds_base.specs.Keys.{root_of}
use Rattle.ds_log.specs.Shards.{shard_of}
use Rattle.ds_model.specs.Sessions.{list_of}
use Rattle.ds_engine.specs.Groups.{IsGroupFound, look_ups_of}
use Rattle.ds_engine.specs.Searches.{ancestor_of, look_ups, most_of, search_bound}
use Rattle.ds_engine.specs.Snapshots.{SnapshotParts, snapshot_of}
use Rattle.ds_store_passes.specs.Passes.{HasRead, PassParts}
use Rattle.ds_store_running.proofs.Gets.{expired_in, inside_one}
use Rattle.ds_store_passes.proofs.PassReads.{on_err}
use Rattle.ds_store_running.proofs.StrongReads.{bounded_gone, strong_in, within_there}
use Rattle.ds_store_running.proofs.store.Store.strong_query_planned.Goals as goal

pub query_in-requires-clause-shard : goal.query_in-requires-clause-shard
query_in-requires-clause-shard g c = c.in_ok-stand.ensures.stands.there

pub returns-in-There-clause-found : goal.returns-in-There-clause-found
returns-in-There-clause-found g c = λ ancestor is.
    let seen = c.stand.new.pass in
    let stand = c.in_ok-stand.stand in
    let shard = c.args.shard in
    let found = subst (IsGroupFound (list_of seen.lists shard) g.J.Names.window stand.entries c.args.query.now.normal.now c.args.query.now.window.now)
    c.in-There.is
    c.in_ok-found.ensures.found in
    let rooted = c.has_root.ensures ancestor (ap ancestor_of c.as_slice.ensures ∙ is) in
    strong_in c.args.self.now.shards shard c.args.pass.now seen c.query_in.new.pass ancestor c.args.at stand.place stand.entries
    c.args.query.now.normal.now c.args.query.now.window.now c.in-There.found.results c.in-There.found.next
    (c.requires.shard ancestor is) c.query_in.ensures.same rooted is c.in_ok-stand.ensures.stands found

pub returns-in-There-clause-steps_bounded : goal.returns-in-There-clause-steps_bounded
returns-in-There-clause-steps_bounded g c = λ ancestor is.
    let seen = c.stand.new.pass in
    let stand = c.in_ok-stand.stand in
    let shard = c.args.shard in
    let shards = c.args.self.now.shards in
    let n = c.args.query.now.normal.now in
    let w = c.args.query.now.window.now in
    let there : shard ≡ shard_of (root_of ancestor) shards = c.requires.shard ancestor is in
    let bound = subst (λ f. All (λ q. c.query_in.new.steps ≤ (c.args.steps.now + search_bound n w (most_of n w)
    (snapshot_of g.J.Names.definitions g.J.Names.window (list_of seen.lists shard) stand.entries ∷ [])) + look_ups_of q.select f)
    n.branches)
    c.in-There.is c.in_ok-found.ensures.steps_bounded in
    subst (λ (s : SnapshotParts). All (λ q. c.query_in.new.steps ≤ (c.args.steps.now + search_bound n w (most_of n w) (s ∷ []))
    + look_ups q.select (length c.in-There.found.results)) n.branches)
    (λ i. snapshot_of g.J.Names.definitions g.J.Names.window (list_of (sym c.query_in.ensures.same i).lists (there i)) stand.entries) bound

pub returns-in-Gone-clause-expired : goal.returns-in-Gone-clause-expired
returns-in-Gone-clause-expired g c = λ ancestor is.
    let seen = c.stand.new.pass in
    let stand = c.in_ok-stand.stand in
    let shard = c.args.shard in
    let gone = subst (IsGroupFound (list_of seen.lists shard) g.J.Names.window stand.entries c.args.query.now.normal.now c.args.query.now.window.now)
    c.in-Gone.is
    c.in_ok-found.ensures.found in
    expired_in c.args.self.now.shards shard g.J.Names.window c.args.pass.now seen c.query_in.new.pass c.stand-in-Gone.new.self
    ancestor c.args.at stand.place stand.entries stand.entries c.in-Gone.applied c.in-Gone.commit
    (c.requires.shard ancestor is) c.query_in.ensures.same c.in_ok-stand.ensures.stands refl gone.applied_is gone.commit_is gone.gone
    (inside_one c.args.at stand.entries g.J.Names.window (length (list_of seen.lists shard)) c.self.invariant.4.0 c.in_ok-stand.ensures.all
    gone.gone) c.stand-in-Gone.ensures

pub returns-in-Gone-clause-steps_gone : goal.returns-in-Gone-clause-steps_gone
returns-in-Gone-clause-steps_gone g c = λ ancestor is.
    let seen = c.stand.new.pass in
    let stand = c.in_ok-stand.stand in
    let shard = c.args.shard in
    let shards = c.args.self.now.shards in
    let n = c.args.query.now.normal.now in
    let w = c.args.query.now.window.now in
    let there : shard ≡ shard_of (root_of ancestor) shards = c.requires.shard ancestor is in
    let lists : seen.lists ≡ c.stand-in-Gone.new.self.lists =
    ap (λ (p : PassParts). p.lists) (sym c.query_in.ensures.same) ∙ ap (λ (p : PassParts). p.lists) (sym c.stand-in-Gone.ensures) in
    let bound = subst (λ f. All (λ q. c.query_in.new.steps ≤ (c.args.steps.now + search_bound n w (most_of n w)
    (snapshot_of g.J.Names.definitions g.J.Names.window (list_of seen.lists shard) stand.entries ∷ [])) + look_ups_of q.select f)
    n.branches)
    c.in-Gone.is c.in_ok-found.ensures.steps_bounded in
    subst (λ (s : SnapshotParts). c.query_in.new.steps ≤ c.args.steps.now + search_bound n w (most_of n w) (s ∷ []))
    (λ i. snapshot_of g.J.Names.definitions g.J.Names.window (list_of (lists i) (there i)) stand.entries)
    (bounded_gone (c.args.steps.now + search_bound n w (most_of n w)
    (snapshot_of g.J.Names.definitions g.J.Names.window (list_of seen.lists shard) stand.entries ∷ [])) c.query_in.new.steps
    c.in-Gone.applied c.in-Gone.commit n.branches ancestor is bound)

pub returns-in_err-found-clause-read : goal.returns-in_err-found-clause-read
returns-in_err-found-clause-read g c =
    on_err c.from_residual-in_err-found.result (HasRead c.args.pass.now c.query_in.new.pass)
    (subst (HasRead c.args.pass.now) (sym c.query_in.ensures.same) c.in_ok-stand.ensures.stands.read)

pub returns-in_err-stand-clause-steps_in_all : goal.returns-in_err-stand-clause-steps_in_all
returns-in_err-stand-clause-steps_in_all g c = λ ancestor is. (0, omega arith)

pub returns-in_err-found-clause-steps_in_all : goal.returns-in_err-found-clause-steps_in_all
returns-in_err-found-clause-steps_in_all g c = λ ancestor is.
    within_there c.args.query.now.normal.now c.args.query.now.window.now g.J.Names.definitions g.J.Names.window c.args.self.now.shards
    c.args.shard c.stand.new.pass c.query_in.new.pass ancestor c.in_ok-stand.stand.entries c.args.steps.now c.query_in.new.steps
    (c.requires.shard ancestor is) (ap (λ (p : PassParts). p.lists) (sym c.query_in.ensures.same)) c.query_in.ensures.steps_in_all

pub returns-in-There-clause-steps_in_all : goal.returns-in-There-clause-steps_in_all
returns-in-There-clause-steps_in_all g c = λ ancestor is.
    within_there c.args.query.now.normal.now c.args.query.now.window.now g.J.Names.definitions g.J.Names.window c.args.self.now.shards
    c.args.shard c.stand.new.pass c.query_in.new.pass ancestor c.in_ok-stand.stand.entries c.args.steps.now c.query_in.new.steps
    (c.requires.shard ancestor is) (ap (λ (p : PassParts). p.lists) (sym c.query_in.ensures.same)) c.query_in.ensures.steps_in_all

pub returns-in-Gone-clause-steps_in_all : goal.returns-in-Gone-clause-steps_in_all
returns-in-Gone-clause-steps_in_all g c = λ ancestor is.
    within_there c.args.query.now.normal.now c.args.query.now.window.now g.J.Names.definitions g.J.Names.window c.args.self.now.shards
    c.args.shard c.stand.new.pass c.stand-in-Gone.new.self ancestor c.in_ok-stand.stand.entries c.args.steps.now c.query_in.new.steps
    (c.requires.shard ancestor is)
    (ap (λ (p : PassParts). p.lists) (sym c.query_in.ensures.same) ∙ ap (λ (p : PassParts). p.lists) (sym c.stand-in-Gone.ensures))
    c.query_in.ensures.steps_in_all
