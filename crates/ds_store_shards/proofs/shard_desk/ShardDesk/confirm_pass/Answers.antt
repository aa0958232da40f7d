use Rattle.std.proofs.Common.{ap, sym, subst, ◌∙◌, arith}
use mathlib.Core.List.{IsPrefix}
use Rattle.ds_store_passes.proofs.SlotLists.{hub_there, list_there, slot_within}
use Rattle.ds_store_shards.proofs.shard_desk.ShardDesk.confirm_pass.Goals as goal

pub index-slot-requires : goal.index-slot-requires
index-slot-requires g c =
    let shard = c.args.self.now in
    let within = slot_within g.J.Names.ledger g.J.Names.definitions g.J.Names.window c.pass.inside.shards.items g.J.Names.shards
    shard.number shard.writer.writer.hub c.pass.invariant.1 shard.of_shard in
    omega (arith, within, c.pass.inside.shards.ok.0)

pub confirm_note-requires : goal.confirm_note-requires
confirm_note-requires g c =
    let shard = c.args.self.now in
    let there = hub_there g.J.Names.ledger g.J.Names.definitions g.J.Names.window c.pass.inside.shards.items g.J.Names.shards shard.number
    shard.writer.writer.hub c.index-slot.result.now c.pass.invariant.1 shard.of_shard c.index-slot.ensures in
    c.tell-note.ensures.0 ∙ ap (λ o. o.0) there

pub returns : goal.returns
returns g c =
    let shard = c.args.self.now in
    let slots = c.pass.inside.shards.items in
    let low = slot_within g.J.Names.ledger g.J.Names.definitions g.J.Names.window slots g.J.Names.shards shard.number
    shard.writer.writer.hub
    c.pass.invariant.1 shard.of_shard in
    let list = list_there slots shard.number c.index-slot.result.now low c.index-slot.ensures in
    rw (← c.pass.view_is)
    (subst (λ xs. IsPrefix xs shard.writer.writer.published) (c.tell-note.ensures.1 ∙ sym list) c.confirm_note.ensures)
