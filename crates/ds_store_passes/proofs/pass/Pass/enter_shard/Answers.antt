use Rattle.std.proofs.Common.{◌≡◌, refl, ◌∙◌}
use Rattle.ds_hub.specs.Holding.{hub_in}
use Rattle.ds_store_passes.proofs.PassReads.{read_entries}
use Rattle.ds_store_passes.proofs.SlotLists.{hubs_stay, lists_grow}
use Rattle.ds_store_passes.proofs.pass.Pass.enter_shard.Goals as goal

pub invariant_of-self : goal.invariant_of-self
invariant_of-self g c =
    let inv = c.self.invariant in
    let old = c.index_mut.result.now in
    let new = c.enter.new.self in
    let same : hub_in new ≡ hub_in old = λ i. (c.enter.ensures.hub.0 i, c.enter.ensures.hub.1 i) in (
      inv.0,
      hubs_stay c.self.inside.shards.items c.args.shard new old same c.index_mut.ensures.value
          ∙ inv.1,
      inv.2,
      inv.3,
      inv.4,
      inv.5,
      inv.6,
    )

pub returns-clause-read : goal.returns-clause-read
returns-clause-read g c =
    rw (← c.self.view_is)
    (read_entries _ _ refl (lists_grow c.self.inside.shards.items c.args.shard c.enter.new.self c.index_mut.result.now
    c.enter.ensures.known c.index_mut.ensures.value))
