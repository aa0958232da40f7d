use Rattle.std.proofs.Common.{◌≡◌, ◌<◌, ◌≤◌, List, length, ap, sym, subst, ◌∙◌, arith}
use Rattle.std.specs.Prelude.{IfOk}
use Rattle.std.proofs.lemmas.List.{length-map}
use Rattle.std.proofs.Math.Seq.{map-set_same}
use Rattle.ds_hub.specs.Holding.{hub_in, known_in}
use Rattle.ds_log.specs.declared.Entry.{Entry}
use Rattle.ds_shard.specs.States.{ShardPlace}
use Rattle.ds_model.specs.Sessions.{list_of}
use Rattle.ds_engine.specs.Counted.{HasBegun}
use Rattle.ds_store_reads.specs.Found.{IsFound}
use Rattle.ds_store_passes.specs.Passes.{PassParts}
use Rattle.ds_store_passes.proofs.SlotLists.{hubs_stay, list_there, start_there}
use Rattle.ds_store_reads.proofs.looking_up.look_up.Goals as goal

pub found_in-found-requires-clause-start : goal.found_in-found-requires-clause-start
found_in-found-requires-clause-start g c =
    let slots = c.pass.inside.shards.items in
    let lt : c.args.shard < length slots =
    omega (arith, c.requires.shard, ap (λ (p : PassParts). length p.lists) c.pass.view_is, length-map slots known_in) in
    let place : ShardPlace = record { shards = length g.J.Names.shards; number = c.args.shard } in
    subst (λ n. HasBegun n g.J.Names.definitions g.J.Names.window c.index_mut-slot.result.now) (sym c.requires.ledger) (
      place,
      start_there g.J.Names.ledger g.J.Names.definitions g.J.Names.window slots g.J.Names.shards c.args.shard c.index_mut-slot.result.now
          c.pass.invariant.1 lt c.index_mut-slot.ensures.value,
    )

pub found_in-found-requires-clause-entries : goal.found_in-found-requires-clause-entries
found_in-found-requires-clause-entries g c =
    let slots = c.pass.inside.shards.items in
    let lt : c.args.shard < length slots =
    omega (arith, c.requires.shard, ap (λ (p : PassParts). length p.lists) c.pass.view_is, length-map slots known_in) in
    let list : list_of c.args.pass.now.lists c.args.shard ≡ c.index_mut-slot.result.now.known =
    ap (λ (p : PassParts). list_of p.lists c.args.shard) (sym c.pass.view_is)
    ∙ list_there slots c.args.shard c.index_mut-slot.result.now lt c.index_mut-slot.ensures.value in
    subst (λ (es : List Entry). c.args.entries ≤ length es) list c.requires.entries

pub invariant_of-pass : goal.invariant_of-pass
invariant_of-pass g c =
    let inv = c.pass.invariant in (
      inv.0,
      hubs_stay c.pass.inside.shards.items c.args.shard c.leave.new.self c.index_mut-slot.result.now (ap hub_in c.leave.ensures)
          c.index_mut-slot.ensures.value ∙ inv.1,
      inv.2,
      inv.3,
      inv.4,
      inv.5,
      inv.6,
    )

pub returns-clause-same : goal.returns-clause-same
returns-clause-same g c =
    let same = map-set_same known_in c.pass.inside.shards.items c.args.shard c.leave.new.self c.index_mut-slot.result.now
    (ap known_in c.leave.ensures ∙ ap known_in c.index_mut-slot.ensures.value) in
    rw (← c.pass.view_is) (cc (same))

pub returns-clause-found : goal.returns-clause-found
returns-clause-found g c =
    let slots = c.pass.inside.shards.items in
    let lt : c.args.shard < length slots =
    omega (arith, c.requires.shard, ap (λ (p : PassParts). length p.lists) c.pass.view_is, length-map slots known_in) in
    let list : list_of c.args.pass.now.lists c.args.shard ≡ c.index_mut-slot.result.now.known =
    ap (λ (p : PassParts). list_of p.lists c.args.shard) (sym c.pass.view_is)
    ∙ list_there slots c.args.shard c.index_mut-slot.result.now lt c.index_mut-slot.ensures.value in
    subst (λ es. IfOk c.found_in-found.result (λ found. IsFound es c.args.entries g.J.Names.window c.args.key.now found)) (sym list)
    c.found_in-found.ensures.found
