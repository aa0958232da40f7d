use Rattle.std.proofs.Common.{◌≡◌, ◌+◌, ◌++◌, refl, ap, arith, sym, ◌∙◌, subst, true, Some}
use Rattle.ds_base.specs.Keys.{KeyParts, renumbered}
use Rattle.ds_journal.specs.Drafts.{renumbered_commit}
use Rattle.ds_log.specs.declared.Commit.{Commit}
use Rattle.ds_log.specs.Ids.{AreIssued, first_unissued}
use Rattle.ds_model.specs.Sessions.{next_above}
use Rattle.ds_reply.specs.declared.reply.Body.TheVariants as body
use Rattle.ds_reply.specs.declared.reply.WriteAt.TheVariants as at
use Rattle.ds_reply.specs.Replies.{reply_text}
use Rattle.ds_request.specs.declared.call.Call.TheVariants as call
use Rattle.ds_output.specs.Room.{HasRoomToTell}
use Rattle.ds_session_state.specs.Sessions.{SessionParts}
use Rattle.ds_session_writes.proofs.AloneLaws.{new_exhausted, new_issued, wrote_new_replied, wrote_seen}
use Rattle.ds_session_state.proofs.GrowthLaws.{read_itself, read_through}
use Rattle.ds_session_writes.proofs.IdLaws.{put_unissued}
use Rattle.ds_session_state.proofs.StateLaws.{later_from, unrefused_parts, within_parts, within_read}
use Rattle.ds_session_writes.proofs.writes.commit_new_write.Goals as goal

pub say_unissued-requires-clause-within : goal.say_unissued-requires-clause-within
say_unissued-requires-clause-within g c =
    within_read _ _ c.unissued.new.pass c.state.view_is c.requires.within c.unissued.ensures.read

pub returns-in-Some : goal.returns-in-Some
returns-in-Some g c =
    let within = within_parts _ _ c.state.view_is c.requires.within in
    let e = c.args.entity in
    let path : c.as_slice-path.result.now ≡ e.key.elems =
    c.as_slice-path.ensures ∙ c.elems.ensures.value ∙ ap (λ (k : KeyParts). k.elems) c.key.ensures.value in
    later_from _ _ _ _ _ _ c.state.view_is _ _ _ _ refl refl refl (read_itself c.state.inside.pass)
    (c.say_unissued.ensures c.state.inside.pass _ _ within c.unissued.ensures.read
    (put_unissued g.J.Names.definitions c.args.store.now.shards (Some g.J.Names.window) c.args.state.now.client _ c.state.inside.pass
    c.unissued.new.pass within e.key true e.properties c.in-Some.id
    (unrefused_parts g.J.Names.definitions _ _ (call.Put e.key true e.properties) c.state.view_is c.requires.unrefused)
    (ap (first_unissued c.unissued.new.pass.next) (sym path) ∙ sym c.unissued.ensures.first ∙ c.in-Some.is) c.unissued.ensures.read))

pub say_no_memory-requires-clause-within : goal.say_no_memory-requires-clause-within
say_no_memory-requires-clause-within g c =
    within_read _ _ c.unissued.new.pass c.state.view_is c.requires.within c.unissued.ensures.read

pub returns-in_default-prepared : goal.returns-in_default-prepared
returns-in_default-prepared g c =
    later_from _ _ _ _ _ _ c.state.view_is _ _ _ _ refl refl c.prepare_new-prepared.ensures.same c.unissued.ensures.read
    (c.say_no_memory.ensures.replied _ _)

pub commit_new-requires-clause-issued : goal.commit_new-requires-clause-issued
commit_new-requires-clause-issued g c = λ id low.
    let path = c.as_slice-path.ensures ∙ c.elems.ensures.value ∙ ap (λ (k : KeyParts). k.elems) c.key.ensures.value in
    let issued = ap (first_unissued c.unissued.new.pass.next) (sym path) ∙ sym c.unissued.ensures.first ∙ c.in_default.is in
    subst (λ (d : Commit). AreIssued (id + 1) (renumbered_commit d id).writes) (sym c.in-Ok.ensures.draft)
    (new_issued c.state.inside.client c.unissued.new.pass.next c.args.entity issued id low)

pub refuse_new-requires-clause-within : goal.refuse_new-requires-clause-within
refuse_new-requires-clause-within g c =
    within_read _ _ c.commit_new.new.pass c.state.view_is c.requires.within
    (read_through c.state.inside.pass c.unissued.new.pass c.commit_new.new.pass c.unissued.ensures.read c.in-Err.ensures.read)

pub tell_last-requires : goal.tell_last-requires
tell_last-requires g c =
    let id = c.in-Ok-commit_new.new.id in
    let n = c.in-Ok-commit_new.new.commit in
    let key : c.renumber.new.self ≡ renumbered c.args.entity.key id =
    c.renumber.ensures ∙ ap (λ (k : KeyParts). renumbered k id) c.in-Ok.ensures.key in
    subst (λ (k : KeyParts). HasRoomToTell (body.Put k (at.Commit n)) c.args.keep c.prepare_new-prepared.new.text.spare) (sym key)
    (c.in-Ok.ensures.suffices id (at.Commit n) (omega arith) (omega arith))

pub returns-in-Ok-commit_new : goal.returns-in-Ok-commit_new
returns-in-Ok-commit_new g c =
    let e = c.args.entity in
    let id = c.in-Ok-commit_new.new.id in
    let n = c.in-Ok-commit_new.new.commit in
    let ok = c.in-Ok-commit_new.ensures.ok in
    let path = c.as_slice-path.ensures ∙ c.elems.ensures.value ∙ ap (λ (k : KeyParts). k.elems) c.key.ensures.value in
    let issued = ap (first_unissued c.unissued.new.pass.next) (sym path) ∙ sym c.unissued.ensures.first ∙ c.in_default.is in
    let key : c.renumber.new.self ≡ renumbered e.key id = c.renumber.ensures ∙ ap (λ (k : KeyParts). renumbered k id) c.in-Ok.ensures.key in
    rw (← c.state.view_is)
    (wrote_new_replied g.J.Names.definitions c.args.store.now.shards (Some g.J.Names.window) _ _ c.unissued.new.pass c.args.number
    c.args.keep
    (within_parts _ _ c.state.view_is c.requires.within)
    (ap (λ (v : SessionParts). v.seen.transaction) c.state.view_is ∙ c.requires.outside)
    c.unissued.ensures.read e _ n id
    (unrefused_parts g.J.Names.definitions _ _ (call.Put e.key true e.properties) c.state.view_is c.requires.unrefused)
    c.requires.ends_in_id issued ok.0 ok.1 ok.2 c.in-Ok.ensures.draft ok.3 refl
    (wrote_seen c.state.inside.seen c.see_place.new.self c.see_next.new.self c.state.inside.transaction.transaction n c.next_above.result
    (next_above (renumbered e.key id).elems) c.see_place.ensures c.see_next.ensures
    (c.next_above.ensures ∙ ap next_above
    (c.as_slice.ensures ∙ c.elems-in-Ok-commit_new.ensures.value ∙ ap (λ (k : KeyParts). k.elems) key)))
    (c.tell_last.ensures.told
    ∙ ap (λ (k : KeyParts). c.prepare_new-prepared.new.text.bytes
    ++ reply_text (record { client = c.state.inside.client; line = c.args.number; body = body.Put k (at.Commit n) })) key
    ∙ ap (λ t. t ++ reply_text (record {
      client = c.state.inside.client;
      line = c.args.number;
      body = body.Put (renumbered e.key id) (at.Commit n);
    })) c.prepare_new-prepared.ensures.same)
    c.tell_last.ensures.kept)

pub returns-in-Err : goal.returns-in-Err
returns-in-Err g c =
    let within = within_parts _ _ c.state.view_is c.requires.within in
    let e = c.args.entity in
    let path = c.as_slice-path.ensures ∙ c.elems.ensures.value ∙ ap (λ (k : KeyParts). k.elems) c.key.ensures.value in
    let issued = ap (first_unissued c.unissued.new.pass.next) (sym path) ∙ sym c.unissued.ensures.first ∙ c.in_default.is in
    later_from _ _ _ _ _ _ c.state.view_is _ _ _ _ refl refl c.prepare_new-prepared.ensures.same (read_itself c.state.inside.pass)
    (c.refuse_new.ensures c.state.inside.pass _ _ within
    (read_through c.state.inside.pass c.unissued.new.pass c.commit_new.new.pass c.unissued.ensures.read c.in-Err.ensures.read)
    (new_exhausted g.J.Names.definitions c.args.store.now.shards (Some g.J.Names.window) c.args.state.now.client _ c.state.inside.pass
    c.unissued.new.pass c.commit_new.new.pass e within c.unissued.ensures.read c.in-Err.ensures.read
    (unrefused_parts g.J.Names.definitions _ _ (call.Put e.key true e.properties) c.state.view_is c.requires.unrefused) issued
    c.in-Err.refused.cause c.cause_of.result c.cause_of.ensures c.in-Err.ensures.exhausted))
