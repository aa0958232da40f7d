use Rattle.std.proofs.Common.{ℕ, List, ◌++◌, ◌∙◌, ap, sym, refl}
use Rattle.ds_request.specs.declared.call.Call.TheVariants as call
use Rattle.ds_model.specs.Groups.{with_transaction}
use Rattle.ds_model.specs.Sessions.{Session, counted_place, saw_counts}
use Rattle.ds_reply.specs.declared.reply.Body.TheVariants as body
use Rattle.ds_reply.specs.Replies.{reply_text}
use Rattle.ds_session_reads.proofs.CountLaws.{settled}
use Rattle.ds_session_state.proofs.StateLaws.{later_from, none_from, told_from, unrefused_parts, within_parts, within_read}
use Rattle.ds_session_reads.proofs.counting.settle.Goals as goal

pub say_no_memory-requires-clause-within : goal.say_no_memory-requires-clause-within
say_no_memory-requires-clause-within g c = within_read _ _ _ c.state.view_is c.requires.within c.in_default.ensures.read

pub say_no_memory-requires-in_default-copy-clause-within : goal.say_no_memory-requires-in_default-copy-clause-within
say_no_memory-requires-in_default-copy-clause-within g c = within_read _ _ _ c.state.view_is c.requires.within c.in-Ok.ensures.settled.read

pub returns-in_default : goal.returns-in_default
returns-in_default g c =
    later_from _ _ _ _ _ _ c.state.view_is _ _ _ _ refl refl refl c.in_default.ensures.read (c.say_no_memory.ensures.replied _ _)

pub returns-in_default-copy : goal.returns-in_default-copy
returns-in_default-copy g c =
    later_from _ _ _ _ _ _ c.state.view_is _ _ _ _ refl refl refl c.in-Ok.ensures.settled.read
    (c.say_no_memory-in_default-copy.ensures.replied _ _)

pub returns-then-not-tell : goal.returns-then-not-tell
returns-then-not-tell g c =
    none_from _ _ _ _ _ _ c.state.view_is _ _ _ c.requires.within refl refl c.in-Ok.ensures.settled.read
    (c.tell.ensures.untold c.if-not-tell.true) c.tell.ensures.kept

pub returns : goal.returns
returns g c =
    let is = c.in-Ok.ensures.settled in
    let lists = c.settle.new.pass.lists in
    told_from _ _ _ _ _ _ c.state.view_is _ _ _ _ _
    (settled _ _ _ _ _ _ _ (within_parts _ _ c.state.view_is c.requires.within) _ _ _
    (unrefused_parts g.J.Names.definitions _ _ call.Settle c.state.view_is c.requires.unrefused) is)
    (ap (λ (s : Session). with_transaction c.state.inside.transaction.transaction s)
    (c.see_counts.ensures.saw lists (is.commit_is ∙ ap (λ (ns : List ℕ). counted_place lists ns) (sym c.as_slice.ensures))
    ∙ ap (λ (ns : List ℕ). saw_counts lists ns c.see_place.new.self) c.as_slice.ensures
    ∙ ap (λ (s : Session). saw_counts lists c.in-Ok.settled.counts s) c.see_place.ensures)) refl
    (c.tell.ensures.told c.if-not-tell.false
    ∙ ap (λ (ns : List ℕ). c.state.inside.text.bytes ++ reply_text (record {
      client = c.state.inside.client;
      line = c.args.number;
      body = body.Settle c.in-Ok.settled.place ns;
    })) c.in-Ok-copy.ensures.copied) c.tell.ensures.kept
