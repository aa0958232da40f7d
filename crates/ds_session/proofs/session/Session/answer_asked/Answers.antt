use Rattle.std.proofs.Common.{◌∙◌, ap, arith, length, sym}
use Rattle.std.specs.Prelude.{Err}
use Rattle.ds_asked.specs.AskedLines.{was_read}
use Rattle.ds_session_state.specs.Replying.{request_of}
use Rattle.ds_session_state.specs.Sessions.{SessionParts}
use Rattle.ds_session.proofs.RoomLaws.{longest_no_memory}
use Rattle.ds_session.proofs.StepLaws.{read_refused, read_request, steps_from}
use Rattle.ds_session.proofs.TellingLaws.{answered_as, same_client, same_counts, within_after}
use Rattle.ds_session.proofs.session.Session.answer_asked.Goals as goal

pub answer-requires-clause-room : goal.answer-requires-clause-room
answer-requires-clause-room g c κs within =
    omega (
      arith,
      longest_no_memory c.self.inside.state.client c.args.asked.number c.self.invariant.1 c.requires.answerable.numbered,
      c.self.invariant.2,
      c.requires.room,
      ap (λ (s : SessionParts). s.room) c.self.view_is,
    )

pub refuse_line-requires-clause-room : goal.refuse_line-requires-clause-room
refuse_line-requires-clause-room g c =
    omega (
      arith,
      longest_no_memory c.self.inside.state.client c.args.asked.number c.self.invariant.1 c.requires.answerable.numbered,
      c.self.invariant.2,
      c.requires.room,
      ap (λ (s : SessionParts). s.room) c.self.view_is,
    )

pub invariant_of-self-in-Err : goal.invariant_of-self-in-Err
invariant_of-self-in-Err g c = within_after _ _ _ c.self.inside.state c.refuse_line.new.state _ _ _ c.self.invariant.1
    (c.refuse_line.ensures 0)

pub returns-in-Ok-clause-answered : goal.returns-in-Ok-clause-answered
returns-in-Ok-clause-answered g c = λ line asks.
    answered_as _ _ _ c.self.inside.state c.answer.new.state c.args.self.now _ _ c.self.view_is line c.args.asked
    (request_of c.self.inside.state.client c.in-Ok.request.call) _ c.requires.own
    (read_request c.args.store.now.shards c.args.asked c.in-Ok.request c.self.inside.state.client c.in-Ok.is c.requires.answerable.lawful
    (c.requires.own ∙ ap (λ (s : SessionParts). s.client) (sym c.self.view_is)))
    asks c.answer.ensures.replied

pub returns-in-Ok-clause-counts : goal.returns-in-Ok-clause-counts
returns-in-Ok-clause-counts g c =
    same_counts _ _ _ c.self.inside.state c.answer.new.state _ _ _ c.self.invariant.0 c.answer.ensures.replied
    ∙ ap (λ (s : SessionParts). length s.seen.counts) c.self.view_is

pub returns-in-Ok-clause-steps : goal.returns-in-Ok-clause-steps
returns-in-Ok-clause-steps g c =
    steps_from g.J.Names.definitions g.J.Names.window c.args.store.now.shards c.args.asked.number c.self.inside.state c.answer.new.state _ _
    _ _
    c.args.self.now (request_of c.self.inside.state.client c.in-Ok.request.call) (was_read c.args.asked) c.self.view_is
    (read_request c.args.store.now.shards c.args.asked c.in-Ok.request c.self.inside.state.client c.in-Ok.is c.requires.answerable.lawful
    (c.requires.own ∙ ap (λ (s : SessionParts). s.client) (sym c.self.view_is)))
    c.answer.ensures.steps

pub returns-in-Err-clause-answered : goal.returns-in-Err-clause-answered
returns-in-Err-clause-answered g c = λ line asks.
    answered_as _ _ _ c.self.inside.state c.refuse_line.new.state c.args.self.now _ _ c.self.view_is line c.args.asked
    (Err (c.self.inside.state.client, c.in-Err.body)) _ c.requires.own
    (read_refused c.args.asked c.in-Err.body c.self.inside.state.client c.in-Err.is
    (c.requires.own ∙ ap (λ (s : SessionParts). s.client) (sym c.self.view_is)))
    asks (c.refuse_line.ensures c.args.store.now.shards)

pub returns-in-Err-clause-client : goal.returns-in-Err-clause-client
returns-in-Err-clause-client g c =
    same_client _ _ _ c.self.inside.state c.refuse_line.new.state _ _ _ (c.refuse_line.ensures 0)
    ∙ ap (λ (s : SessionParts). s.client) c.self.view_is

pub returns-in-Err-clause-counts : goal.returns-in-Err-clause-counts
returns-in-Err-clause-counts g c =
    same_counts _ _ _ c.self.inside.state c.refuse_line.new.state _ _ _ c.self.invariant.0 (c.refuse_line.ensures 0)
    ∙ ap (λ (s : SessionParts). length s.seen.counts) c.self.view_is
