use Rattle.ds_machine.proofs.Words.{arith, subst, IsState}
use Rattle.ds_machine.proofs.ReadPlans.{list_is}
use Rattle.ds_machine.proofs.state.State.has_pending.Goals as goal

pub returns-clause-value : goal.returns-clause-value
returns-clause-value c =
    let is = subst IsState c.self.view_is c.self.invariant in
    let listed = list_is c.args.self.now is c.requires.pulled c.args.shard (omega (arith, c.requires.shard, is.shards)) in
    grind (arith, listed, c.self.view_is)
