use Rattle.std.proofs.Common.{◌≡◌, ◌++◌, ap, subst}
use Rattle.ds_protocol.specs.Saying.{no_memory_reply}
use Rattle.ds_reply.specs.Replies.{reply_text}
use Rattle.ds_session_state.specs.Sessions.{SessionParts}
use Rattle.ds_session.proofs.TellingLaws.{replied_of_line}
use Rattle.ds_session.proofs.answering.refuse_line.Goals as goal

pub returns : goal.returns
returns g c = λ shards.
    replied_of_line g.J.Names.definitions shards _ c.args.state.now _ c.args.number c.args.keep c.args.body c.tell.result
    (ap (λ (s : SessionParts). s.client) c.state.view_is) (ap (λ (s : SessionParts). s.seen) c.state.view_is)
    (ap (λ (s : SessionParts). s.pass) c.state.view_is) c.requires.within c.requires.quiet
    (λ told. subst (λ (s : SessionParts). c.tell.new.text.bytes
    ≡ s.text ++ reply_text (record { client = s.client; line = c.args.number; body = c.args.body })) c.state.view_is
    (c.tell.ensures.told told))
    (λ untold. subst (λ (s : SessionParts). c.tell.new.text.bytes ≡ s.text ++ reply_text (no_memory_reply s.client c.args.number))
    c.state.view_is (c.tell.ensures.untold untold))
    c.tell.ensures.kept
