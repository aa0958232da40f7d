use Rattle.std.proofs.Common.{◌≡◌, ◌++◌, [], ◌∷◌, ◌∙◌, ap}
use Rattle.ds_paxos.specs.Members.{with_instance}
use Rattle.ds_paxos.proofs.Running.{begun_listed}
use Rattle.ds_paxos.proofs.member.Member.put_begun.Goals as goal

pub invariant_of-self-2 : goal.invariant_of-self-2
invariant_of-self-2 c =
    let items : c.push.new.self.items ≡ c.self.inside.running.items ++ c.args.place ∷ [] =
    c.in_ok-push.ensures.items ∙ ap (λ l. l ++ c.args.place ∷ []) c.reserve.ensures.items in
    rw (items, c.in_ok-insert.ensures.entries) (begun_listed _ _ _ c.args.instance c.self.invariant)

pub returns-clause-ok : goal.returns-clause-ok
returns-clause-ok c = c.in_ok-insert.ensures.entries ∙ ap (λ es. with_instance es c.args.place c.args.instance) c.self.view_is
