use Rattle.std.proofs.Common.{sym, subst}
use Rattle.ds_model.specs.Groups.{with_transaction}
use Rattle.ds_session_state.specs.Sessions.{IsWithin}
use Rattle.ds_session.proofs.TellingLaws.{first_within}
use Rattle.ds_session.proofs.session.Session.with_text.Goals as goal

pub invariant_of-result : goal.invariant_of-result
invariant_of-result g c = (
  subst (λ s. IsWithin s c.args.pass) (sym (λ i. with_transaction (c.none.ensures i) (c.requires.seen i)))
      (first_within c.args.pass c.next.ensures.least),
  c.requires.client,
  c.requires.room,
)
