use Rattle.std.proofs.Common.{◌≡◌, ◌+◌, ◌*◌, ◌<◌, ◌≤◌, List, [], ◌∷◌, length, None, Some, ap, sym, subst, ◌∙◌, arith}
use Rattle.std.specs.Prelude.{All, IfOk}
use Rattle.std.proofs.lemmas.List.{length-map}
use Rattle.std.proofs.Math.Seq.{map-set_same}
use Rattle.ds_hub.specs.Holding.{hub_in, known_in}
use Rattle.ds_log.specs.declared.Entry.{Entry}
use Rattle.ds_model.specs.Sessions.{list_of}
use Rattle.ds_engine.specs.Groups.{IsGroupFound, look_ups_of}
use Rattle.ds_engine.specs.Searches.{most_of, search_bound}
use Rattle.ds_engine.specs.Snapshots.{SnapshotParts, snapshot_of}
use Rattle.ds_shard.specs.States.{ShardPlace, begun}
use Rattle.ds_store_passes.specs.Passes.{PassParts}
use Rattle.ds_store_passes.proofs.SlotLists.{hubs_stay, list_there, start_there}
use Rattle.ds_store_reads.proofs.group.query_in.Goals as goal

pub query_slot-found-requires-clause-begun : goal.query_slot-found-requires-clause-begun
query_slot-found-requires-clause-begun g c =
    let slots = c.pass.inside.shards.items in
    let lt : c.args.shard < length slots =
    omega (arith, c.requires.shard, ap (λ (p : PassParts). length p.lists) c.pass.view_is, length-map slots known_in) in
    let start = start_there g.J.Names.ledger g.J.Names.definitions g.J.Names.window slots g.J.Names.shards c.args.shard
    c.index_mut-slot.result.now c.pass.invariant.1 lt c.index_mut-slot.ensures.value in
    let place : ShardPlace = record { shards = length g.J.Names.shards; number = c.args.shard } in
    (place, start ∙ (λ i. Some (begun (sym c.requires.ledger i) place (sym c.requires.definitions i) (sym c.requires.kept.0 i))))

pub query_slot-found-requires-clause-stamp : goal.query_slot-found-requires-clause-stamp
query_slot-found-requires-clause-stamp g c =
    let slots = c.pass.inside.shards.items in
    let lt : c.args.shard < length slots =
    omega (arith, c.requires.shard, ap (λ (p : PassParts). length p.lists) c.pass.view_is, length-map slots known_in) in
    let list : list_of c.args.pass.now.lists c.args.shard ≡ c.index_mut-slot.result.now.known =
    ap (λ (p : PassParts). list_of p.lists c.args.shard) (sym c.pass.view_is)
    ∙ list_there slots c.args.shard c.index_mut-slot.result.now lt c.index_mut-slot.ensures.value in
    subst (λ (es : List Entry). c.args.entries ≤ length es) list c.requires.entries

pub invariant_of-pass : goal.invariant_of-pass
invariant_of-pass g c =
    let inv = c.pass.invariant in (
      inv.0,
      hubs_stay c.pass.inside.shards.items c.args.shard c.leave.new.self c.index_mut-slot.result.now (ap hub_in c.leave.ensures)
          c.index_mut-slot.ensures.value ∙ inv.1,
      inv.2,
      inv.3,
      inv.4,
      inv.5,
      inv.6,
    )

pub returns-clause-same : goal.returns-clause-same
returns-clause-same g c =
    let same = map-set_same known_in c.pass.inside.shards.items c.args.shard c.leave.new.self c.index_mut-slot.result.now
    (ap known_in c.leave.ensures ∙ ap known_in c.index_mut-slot.ensures.value) in
    rw (← c.pass.view_is) (cc (same))

pub returns-clause-found : goal.returns-clause-found
returns-clause-found g c =
    let slots = c.pass.inside.shards.items in
    let lt : c.args.shard < length slots =
    omega (arith, c.requires.shard, ap (λ (p : PassParts). length p.lists) c.pass.view_is, length-map slots known_in) in
    let list : list_of c.args.pass.now.lists c.args.shard ≡ c.index_mut-slot.result.now.known =
    ap (λ (p : PassParts). list_of p.lists c.args.shard) (sym c.pass.view_is)
    ∙ list_there slots c.args.shard c.index_mut-slot.result.now lt c.index_mut-slot.ensures.value in
    subst (λ n. IfOk c.query_slot-found.result (IsGroupFound (list_of c.args.pass.now.lists c.args.shard) n c.args.entries
    c.args.query.now.normal.now c.args.query.now.window.now))
    c.requires.kept.0
    (subst (λ es. IfOk c.query_slot-found.result (IsGroupFound es c.args.kept c.args.entries c.args.query.now.normal.now c.args.query.now.window.now))
    (sym list)
    c.query_slot-found.ensures.found)

pub returns-clause-steps_bounded : goal.returns-clause-steps_bounded
returns-clause-steps_bounded g c =
    let slots = c.pass.inside.shards.items in
    let lt : c.args.shard < length slots =
    omega (arith, c.requires.shard, ap (λ (p : PassParts). length p.lists) c.pass.view_is, length-map slots known_in) in
    let list : list_of c.args.pass.now.lists c.args.shard ≡ c.index_mut-slot.result.now.known =
    ap (λ (p : PassParts). list_of p.lists c.args.shard) (sym c.pass.view_is)
    ∙ list_there slots c.args.shard c.index_mut-slot.result.now lt c.index_mut-slot.ensures.value in
    subst (λ (s : SnapshotParts). IfOk c.query_slot-found.result (λ f. All (λ q. c.query_slot-found.new.steps ≤ (c.args.steps.now
    + search_bound c.args.query.now.normal.now c.args.query.now.window.now (most_of c.args.query.now.normal.now c.args.query.now.window.now) (s ∷ []))
    + look_ups_of q.select f) c.args.query.now.normal.now.branches))
    (λ i. snapshot_of (c.requires.definitions i) (c.requires.kept.0 i) (sym list i) c.args.entries)
    c.query_slot-found.ensures.steps_bounded

pub returns-clause-steps_in_all : goal.returns-clause-steps_in_all
returns-clause-steps_in_all g c =
    let slots = c.pass.inside.shards.items in
    let lt : c.args.shard < length slots =
    omega (arith, c.requires.shard, ap (λ (p : PassParts). length p.lists) c.pass.view_is, length-map slots known_in) in
    let list : list_of c.args.pass.now.lists c.args.shard ≡ c.index_mut-slot.result.now.known =
    ap (λ (p : PassParts). list_of p.lists c.args.shard) (sym c.pass.view_is)
    ∙ list_there slots c.args.shard c.index_mut-slot.result.now lt c.index_mut-slot.ensures.value in
    subst (λ (s : SnapshotParts). c.query_slot-found.new.steps ≤ c.args.steps.now
    + 2 * search_bound c.args.query.now.normal.now c.args.query.now.window.now None (s ∷ []))
    (λ i. snapshot_of (c.requires.definitions i) (c.requires.kept.0 i) (sym list i) c.args.entries)
    c.query_slot-found.ensures.steps_in_all
