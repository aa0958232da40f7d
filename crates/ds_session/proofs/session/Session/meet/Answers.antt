use Rattle.std.proofs.Common.{◌≡◌, ◌∙◌, ap, arith, length, subst, sym}
use Rattle.ds_model.specs.Groups.{with_transaction}
use Rattle.ds_model.specs.Sessions.{Session}
use Rattle.ds_protocol.specs.Watermarks.{raised_by}
use Rattle.ds_protocol.proofs.Meetings.{greater-length}
use Rattle.ds_store.specs.Answered.{AreAtLeast}
use Rattle.ds_store.specs.Passes.{HasRead, counts_of}
use Rattle.ds_session_state.specs.Sessions.{IsWithin, SessionParts}
use Rattle.ds_session.proofs.MeetingLaws.{within_raised}
use Rattle.ds_session.proofs.session.Session.meet.Goals as goal

pub invariant_of-self : goal.invariant_of-self
invariant_of-self g c =
    let s = c.self.inside.state in
    let q = c.meet.new.pass in
    let seen : with_transaction c.state.inside.transaction.transaction c.raise.new.self ≡ raised_by c.args.greatest.now s.seen =
    ap (λ (w : Session). with_transaction c.state.inside.transaction.transaction w) c.raise.ensures
    ∙ ap (λ (t : SessionParts). raised_by c.args.greatest.now t.seen) c.state.view_is in (
      subst (λ (w : Session). IsWithin w q) (sym seen)
          (within_raised s.seen c.args.greatest.now s.pass q c.self.invariant.0
          (subst (λ (t : SessionParts). HasRead t.pass q) c.state.view_is c.meet.ensures.read)
          (record {
            place = omega (arith, c.place.ensures, c.meet.ensures.place);
            counts = subst (λ counts. AreAtLeast counts (counts_of q)) c.requires.counts c.meet.ensures.counts;
            next = omega (arith, c.next.ensures, c.meet.ensures.next);
          })),
      omega (arith, ap (λ (t : SessionParts). t.client) c.state.view_is, c.self.invariant.1),
      omega (arith, ap (λ (t : SessionParts). t.room) c.state.view_is, c.self.invariant.2),
    )

pub returns-clause-counts : goal.returns-clause-counts
returns-clause-counts g c =
    ap (λ (w : Session). length w.counts) c.raise.ensures
    ∙ greater-length c.state.inside.seen.counts c.args.greatest.now.counts
    ∙ ap (λ (t : SessionParts). length t.seen.counts) c.state.view_is
    ∙ ap (λ (t : SessionParts). length t.seen.counts) c.self.view_is
