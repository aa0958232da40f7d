use Rattle.ds_core.proofs.Words.{◌≡◌, ◌∙◌, None, arith, subst, sym, IfSome, open_in, parts, session_in, IsSteppable, SteppedTo}
use Rattle.std.proofs.lemmas.List.{get_or_default}
use Rattle.ds_core.proofs.Calls.{ok-three}
use Rattle.ds_core.proofs.Gathers.{step-legal}
use Rattle.ds_core.proofs.Places.{open-steppable}
use Rattle.ds_core.proofs.machine.Machine.gather.Goals as goal

pub step_open-requires : goal.step_open-requires
step_open-requires c =
    subst (λ o. IfSome o (λ p. IsSteppable c.args.self.now.state p.gathered))
    (sym (c.index_mut.ensures.value ∙ get_or_default c.args.self.now.opens.items c.args.client c.index_mut.result.now None (omega arith)))
    (open-steppable c.args.self.now.state c.args.client (session_in (parts c.args.self.now) c.args.client)
    (open_in (parts c.args.self.now) c.args.client) (c.requires.legal.opens c.args.client c.requires.client).1
    c.shards-shards.ensures.counts)

pub returns : goal.returns
returns c =
    let had : c.index_mut.result.now ≡ open_in (parts c.args.self.now) c.args.client = c.index_mut.ensures.value
    ∙ get_or_default c.args.self.now.opens.items c.args.client c.index_mut.result.now None (omega arith) in
    let all = ok-three c.step_open.result (λ is. step-legal (parts c.args.self.now) c.requires.legal c.args.client c.requires.client
    c.shards-shards.ensures.counts c.step_open.new.state c.args.step c.step_open.ensures.grows c.step_open.new.opened
    (subst (λ o. SteppedTo c.args.step c.args.self.now.state o c.step_open.new.state c.step_open.new.opened) had is))
    c.step_open.ensures.stepped in
    record { legal = all.0; same = all.1; counted = c.shards-shards.ensures.counts; stepped = all.2 }
