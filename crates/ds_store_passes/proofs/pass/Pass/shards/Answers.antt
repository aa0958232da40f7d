use Rattle.std.proofs.Common.{arith}
use Rattle.ds_store_passes.proofs.SlotLists.{slots_many}
use Rattle.ds_store_passes.proofs.pass.Pass.shards.Goals as goal

pub overflow_cast-result : goal.overflow_cast-result
overflow_cast-result g c =
    let many = slots_many g.J.Names.ledger g.J.Names.definitions g.J.Names.window c.self.inside.shards.items g.J.Names.shards
    c.self.invariant.1 in
    omega (arith, many, c.len.ensures, c.self.inside.shards.ok.0, c.self.invariant.5.1)
