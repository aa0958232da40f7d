use Rattle.std.proofs.Common.{Some, ap, sym, subst, ◌∙◌, arith}
use Rattle.std.proofs.lemmas.List.{map-set}
use mathlib.Core.List.{IsPrefix}
use Rattle.ds_hub.specs.Holding.{hub_in, known_in}
use Rattle.ds_store_passes.proofs.SlotLists.{hub_there, hubs_stay, lists_grow, list_written, slot_within}
use Rattle.ds_store_passes.proofs.pass.Pass.see_shard.Goals as goal

pub index_mut-requires : goal.index_mut-requires
index_mut-requires g c =
    let within = slot_within g.J.Names.ledger g.J.Names.definitions g.J.Names.window c.self.inside.shards.items g.J.Names.shards c.args.shard
    c.args.writer.now.hub c.self.invariant.1 c.requires.hub in
    omega (arith, within, c.self.inside.shards.ok.0)

pub see_shard_in-requires : goal.see_shard_in-requires
see_shard_in-requires g c =
    let there = hub_there g.J.Names.ledger g.J.Names.definitions g.J.Names.window c.self.inside.shards.items g.J.Names.shards c.args.shard
    c.args.writer.now.hub
    c.index_mut.result.now c.self.invariant.1 c.requires.hub c.index_mut.ensures.value in
    ap (λ o. o.0) there

pub invariant_of-self : goal.invariant_of-self
invariant_of-self g c =
    let inv = c.self.invariant in
    let old = c.index_mut.result.now in
    let new = c.see_shard_in.new.slot in (
      inv.0,
      hubs_stay c.self.inside.shards.items c.args.shard new old (ap hub_in c.see_shard_in.ensures.slot) c.index_mut.ensures.value
          ∙ inv.1,
      inv.2,
      inv.3,
      inv.4,
      inv.5,
      inv.6,
    )

pub returns-clause-grown : goal.returns-clause-grown
returns-clause-grown g c =
    let old = c.index_mut.result.now in
    let new = c.see_shard_in.new.slot in
    let known = ap known_in c.see_shard_in.ensures.slot in
    let longer = lists_grow c.self.inside.shards.items c.args.shard new old (subst (IsPrefix old.known) (sym known)
    c.see_shard_in.ensures.grown)
    c.index_mut.ensures.value in
    rw (← c.self.view_is) longer

pub returns-clause-seen : goal.returns-clause-seen
returns-clause-seen g c =
    let slots = c.self.inside.shards.items in
    let lt = slot_within g.J.Names.ledger g.J.Names.definitions g.J.Names.window slots g.J.Names.shards c.args.shard c.args.writer.now.hub
    c.self.invariant.1 c.requires.hub in
    list_written slots c.args.shard c.see_shard_in.new.slot lt ∙ ap (λ l. Some l) (ap known_in c.see_shard_in.ensures.slot)

pub returns-clause-pass : goal.returns-clause-pass
returns-clause-pass g c =
    let written = map-set known_in c.self.inside.shards.items c.args.shard c.see_shard_in.new.slot in
    let known = ap known_in c.see_shard_in.ensures.slot in
    rw (← c.self.view_is) (cc (written, known))
