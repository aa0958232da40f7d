use Rattle.std.proofs.Common.{◌∙◌, ◌&&◌, List, ap, is_some, not, sym}
use Rattle.ds_paxos.specs.declared.instance.Instance.{Instance}
use Rattle.ds_paxos.specs.declared.message.Place.{Place}
use Rattle.ds_paxos.specs.Members.{instance_in, with_instance}
use Rattle.ds_paxos.proofs.Running.{kept_listed}
use Rattle.ds_paxos.proofs.member.Member.put.Goals as goal

pub invariant_of-self-2 : goal.invariant_of-self-2
invariant_of-self-2 c = rw c.in_ok-insert.ensures.entries (kept_listed _ _ _ c.args.instance c.self.invariant
    (ap (λ (es : List (Place × Instance)). is_some c.args.instance.attempt && not (is_some (instance_in es c.args.place).attempt)) c.self.view_is
    ∙ sym c.begins.ensures ∙ c.if-begins.false))

pub returns-clause-ok : goal.returns-clause-ok
returns-clause-ok c = c.in_ok-insert.ensures.entries ∙ ap (λ es. with_instance es c.args.place c.args.instance) c.self.view_is
