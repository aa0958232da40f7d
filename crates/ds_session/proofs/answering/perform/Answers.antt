use Rattle.std.proofs.Common.{◌∙◌, Some, ap, subst}
use Rattle.ds_model.specs.Groups.{with_transaction}
use Rattle.ds_model.specs.Refusals.{refusal_of}
use Rattle.ds_protocol.specs.Operations.{call_of}
use Rattle.ds_protocol.specs.Refused.{IsRefusal}
use Rattle.ds_session_state.specs.Replying.{request_of}
use Rattle.ds_session_state.specs.Sessions.{SessionParts}
use Rattle.ds_session.proofs.AnsweringLaws.{refused_first}
use Rattle.ds_session.proofs.answering.perform.Goals as goal

pub returns-in-Some-clause-replied : goal.returns-in-Some-clause-replied
returns-in-Some-clause-replied g c = λ call is.
    let told = subst (λ o. IsRefusal o (Some c.in-Some.body))
    (ap (λ ds. refusal_of ds (with_transaction c.state.inside.transaction.transaction c.state.inside.seen) (call_of c.args.operation))
    c.requires.definitions
    ∙ ap (λ (s : SessionParts). refusal_of g.J.Names.definitions s.seen (call_of c.args.operation)) c.state.view_is)
    (c.in-Some.ensures.told c.state.inside.seen) in
    c.refuse.ensures (request_of c.args.state.now.client call) c.args.store.now.shards
    (refused_first g.J.Names.definitions c.args.store.now.shards c.args.state.now.client c.args.state.now.seen call c.args.operation
    c.in-Some.body is told c.in-Some.ensures.quiet)
