use Rattle.ds_paxos.proofs.Reached.{reached_addressed, reached_after, reached_agree}
use Rattle.ds_paxos.proofs.world.World.step.Goals as goal

pub step-requires-clause-messages : goal.step-requires-clause-messages
step-requires-clause-messages c = reached_addressed c.self.inside.cluster c.self.invariant

pub invariant_of-self : goal.invariant_of-self
invariant_of-self c = reached_after c.self.inside.cluster _ c.args.event c.step.result c.self.invariant c.step.ensures.taken c.step.ensures.unchanged

pub returns-clause-agree : goal.returns-clause-agree
returns-clause-agree c = reached_agree _
    (reached_after c.self.inside.cluster _ c.args.event c.step.result c.self.invariant c.step.ensures.taken c.step.ensures.unchanged)
