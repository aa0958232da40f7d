use Rattle.std.proofs.Common.{◌≡◌, length, ap, sym, ◌∙◌}
use Rattle.std.proofs.lemmas.List.{length-map}
use Rattle.ds_hub.specs.Holding.{known_in}
use Rattle.ds_store_passes.specs.Passes.{PassParts}
use Rattle.ds_store_passes.proofs.SlotLists.{slots_many}
use Rattle.ds_store_passes.proofs.pass.Pass.slots.Goals as goal

pub returns : goal.returns
returns g c =
    let slots = c.self.inside.shards.items in
    let many = slots_many g.J.Names.ledger g.J.Names.definitions g.J.Names.window slots g.J.Names.shards c.self.invariant.1 in
    let here : c.len.result ≡ length slots = c.len.ensures ∙ c.self.inside.shards.ok.0 in
    (here ∙ sym (length-map slots known_in) ∙ ap (λ (p : PassParts). length p.lists) c.self.view_is, here ∙ many)
