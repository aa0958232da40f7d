use Rattle.std.proofs.Common.{◌≡◌, ◌++◌, inl, inr, refl, subst}
use Rattle.ds_reply.specs.declared.reply.Body.TheVariants as body
use Rattle.ds_reply.specs.Replies.{reply_text}
use Rattle.ds_session_state.proofs.ReplyLaws.{replied_no_memory}
use Rattle.ds_session_state.proofs.StandingLaws.{same_place}
use Rattle.ds_session_reads.proofs.reads.expire.Goals as goal

pub returns-then-not-tell-clause-says : goal.returns-then-not-tell-clause-says
returns-then-not-tell-clause-says g c = rw (← c.state.view_is) (λ m is. inl (c.tell.ensures.untold c.if-not-tell.true))

pub returns-then-not-tell-clause-pass : goal.returns-then-not-tell-clause-pass
returns-then-not-tell-clause-pass g c = rw (← c.state.view_is) (λ m is. refl)

pub returns-then-not-tell-clause-replied : goal.returns-then-not-tell-clause-replied
returns-then-not-tell-clause-replied g c =
    rw (← c.state.view_is) (λ p m shards read within h is commit said.
    replied_no_memory _ shards _ _ _ _ read _ refl refl h within (c.tell.ensures.untold c.if-not-tell.true) c.tell.ensures.kept)

pub returns-clause-says : goal.returns-clause-says
returns-clause-says g c =
    rw (← c.state.view_is) (λ m is.
    inr (subst (λ n. c.tell.new.text.bytes ≡ c.state.inside.text.bytes ++ reply_text (record {
      client = c.state.inside.client;
      line = c.args.number;
      body = body.Expired c.args.expired.applied n c.args.expired.snapshot;
    })) (same_place c.args.at c.touched-place.result m c.touched-place.ensures is) (c.tell.ensures.told c.if-not-tell.false)))

pub returns-clause-pass : goal.returns-clause-pass
returns-clause-pass g c = rw (← c.state.view_is) (λ m is. refl)
