use Rattle.std.proofs.Common.{◌∙◌, ap, subst, sym}
use Rattle.ds_paxos.specs.Members.{restarted, AreListed}
use Rattle.ds_paxos.proofs.Running.{absent_listed, stopped_listed, stopped_restarted}
use Rattle.ds_paxos.proofs.member.stop.Goals as goal

pub returns-in-Some-clause-same : goal.returns-in-Some-clause-same
returns-in-Some-clause-same c = ap restarted (c.get_mut.follows.holds _).0 ∙ stopped_restarted _ _ _ c.in-Some.ensures.value

pub returns-in-Some-clause-listed : goal.returns-in-Some-clause-listed
returns-in-Some-clause-listed c places all = subst (λ es. AreListed places es) (sym (c.get_mut.follows.holds _).0)
    (stopped_listed _ places c.args.place c.in-Some.instance.now c.in-Some.ensures.ordered all)

pub returns-in_default-clause-listed : goal.returns-in_default-clause-listed
returns-in_default-clause-listed c places all = subst (λ es. AreListed places es) (ap (λ m. m.entries) (sym c.get_mut.follows.holds-at-none))
    (absent_listed _ places c.args.place c.in_default.ensures.value all)
