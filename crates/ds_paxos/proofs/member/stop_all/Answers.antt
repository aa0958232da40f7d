use Rattle.std.proofs.Common.{◌≡◌, [], ◌∙◌, subst, rules, sym}
use Rattle.ds_paxos.specs.Members.{AreListed}
use Rattle.ds_paxos.proofs.Running.{none_runs}
use Rattle.ds_paxos.proofs.member.stop_all.Goals as goal

pub loop-place-preserved : goal.loop-place-preserved
loop-place-preserved c =
    let i = c.loop-place.invariant in
    (c.stop.ensures.same ∙ i.0, c.stop.ensures.listed _ (subst (λ l. AreListed l c.loop-place.instances.entries) c.in-Some.ensures.items i.1))

pub returns-clause-restarted : goal.returns-clause-restarted
returns-clause-restarted c =
    let i = c.loop-place.invariant in
    let none : c.loop-place.running.items ≡ [] = search rules in
    sym (none_runs _ (subst (λ l. AreListed l c.loop-place.instances.entries) none i.1)) ∙ i.0
