use Rattle.std.proofs.Common.{◌≡◌, List, ◌++◌, refl, ap, arith, sym, ◌∙◌, subst, Some}
use Rattle.std.specs.Prelude.{IsTrue}
use Rattle.std.specs.List.{list_all}
use Rattle.ds_base.specs.declared.key.Elem.{Elem}
use Rattle.ds_base.specs.Keys.{KeyParts, is_elem}
use Rattle.ds_log.specs.Ids.{first_unissued}
use Rattle.ds_log.specs.Logs.{key_of}
use Rattle.ds_model.specs.Sessions.{next_above}
use Rattle.ds_reply.specs.declared.reply.Body.{Body}
use Rattle.ds_reply.specs.declared.reply.WriteAt.TheVariants as at
use Rattle.ds_reply.specs.Replies.{reply_text}
use Rattle.ds_session_state.specs.Replying.{write_call}
use Rattle.ds_output.specs.Room.{HasRoomToTell}
use Rattle.ds_output.specs.Writes.{written_body}
use Rattle.ds_session_state.specs.Sessions.{SessionParts}
use Rattle.ds_session_writes.proofs.AloneLaws.{lawful_path, write_unissued, wrote_replied, wrote_seen}
use Rattle.ds_session_state.proofs.GrowthLaws.{read_itself, read_through}
use Rattle.ds_session_state.proofs.StateLaws.{later_from, unrefused_parts, within_parts, within_read}
use Rattle.ds_session_writes.proofs.writes.commit_write.Goals as goal

pub next_above-next-requires : goal.next_above-next-requires
next_above-next-requires g c =
    subst (λ (es : List Elem). IsTrue (list_all is_elem es)) (sym (c.as_slice-path.ensures ∙ c.elems.ensures.value))
    (lawful_path c.key.result.now c.elems.ensures.lawful)

pub say_unissued-requires-clause-within : goal.say_unissued-requires-clause-within
say_unissued-requires-clause-within g c =
    within_read _ _ c.unissued.new.pass c.state.view_is c.requires.within c.unissued.ensures.read

pub returns-in-Some : goal.returns-in-Some
returns-in-Some g c =
    let within = within_parts _ _ c.state.view_is c.requires.within in
    let path : c.as_slice-path.result.now ≡ (key_of c.args.write).elems =
    c.as_slice-path.ensures ∙ c.elems.ensures.value ∙ ap (λ (k : KeyParts). k.elems) c.key.ensures in
    later_from _ _ _ _ _ _ c.state.view_is _ _ _ _ refl refl refl (read_itself c.state.inside.pass)
    (c.say_unissued.ensures c.state.inside.pass _ _ within c.unissued.ensures.read
    (write_unissued g.J.Names.definitions c.args.store.now.shards (Some g.J.Names.window) c.args.state.now.client _ c.state.inside.pass
    c.unissued.new.pass within c.args.write c.in-Some.id
    (unrefused_parts g.J.Names.definitions _ _ (write_call c.args.write) c.state.view_is c.requires.unrefused)
    (ap (first_unissued c.unissued.new.pass.next) (sym path) ∙ sym c.unissued.ensures.first ∙ c.in-Some.is) c.unissued.ensures.read))

pub say_no_memory-requires-clause-within : goal.say_no_memory-requires-clause-within
say_no_memory-requires-clause-within g c =
    within_read _ _ c.unissued.new.pass c.state.view_is c.requires.within c.unissued.ensures.read

pub returns-in_default-prepared : goal.returns-in_default-prepared
returns-in_default-prepared g c =
    later_from _ _ _ _ _ _ c.state.view_is _ _ _ _ refl refl c.prepare_commit-prepared.ensures.same c.unissued.ensures.read
    (c.say_no_memory.ensures.replied _ _)

pub tell_last-requires : goal.tell_last-requires
tell_last-requires g c =
    let n = c.in-Ok-commit.commit in
    subst (λ (b : Body). HasRoomToTell b c.args.keep c.prepare_commit-prepared.new.text.spare)
    (sym (c.body_with-body.ensures ∙ c.in-Ok.ensures.body (at.Commit n)))
    (c.in-Ok.ensures.suffices c.args.write (at.Commit n) refl (omega arith))

pub returns-in-Ok-commit : goal.returns-in-Ok-commit
returns-in-Ok-commit g c =
    let path : c.as_slice-path.result.now ≡ (key_of c.args.write).elems =
    c.as_slice-path.ensures ∙ c.elems.ensures.value ∙ ap (λ (k : KeyParts). k.elems) c.key.ensures in
    let issued = ap (first_unissued c.unissued.new.pass.next) (sym path) ∙ sym c.unissued.ensures.first ∙ c.in_default.is in
    let n = c.in-Ok-commit.commit in
    let told = c.body_with-body.ensures ∙ c.in-Ok.ensures.body (at.Commit n) in
    rw (← c.state.view_is)
    (wrote_replied g.J.Names.definitions c.args.store.now.shards (Some g.J.Names.window) _ _ c.unissued.new.pass c.args.number c.args.keep
    (within_parts _ _ c.state.view_is c.requires.within)
    (ap (λ (v : SessionParts). v.seen.transaction) c.state.view_is ∙ c.requires.outside)
    c.unissued.ensures.read c.args.write _ n
    (unrefused_parts g.J.Names.definitions _ _ (write_call c.args.write) c.state.view_is c.requires.unrefused)
    issued c.in-Ok.ensures.draft c.in-Ok-commit.ensures.ok refl
    (wrote_seen c.state.inside.seen c.see_place.new.self c.see_next.new.self c.state.inside.transaction.transaction n
    c.next_above-next.result (next_above (key_of c.args.write).elems) c.see_place.ensures c.see_next.ensures
    (c.next_above-next.ensures ∙ ap next_above path))
    (c.tell_last.ensures.told
    ∙ ap (λ (b : Body). c.prepare_commit-prepared.new.text.bytes
    ++ reply_text (record { client = c.state.inside.client; line = c.args.number; body = b })) told
    ∙ ap (λ t. t ++ reply_text (record {
      client = c.state.inside.client;
      line = c.args.number;
      body = written_body c.args.write (at.Commit n);
    })) c.prepare_commit-prepared.ensures.same)
    c.tell_last.ensures.kept)

pub say_no_memory-requires-in-Err-clause-within : goal.say_no_memory-requires-in-Err-clause-within
say_no_memory-requires-in-Err-clause-within g c =
    within_read _ _ c.commit.new.pass c.state.view_is c.requires.within
    (read_through c.state.inside.pass c.unissued.new.pass c.commit.new.pass c.unissued.ensures.read c.in-Err.ensures.read)

pub returns-in-Err : goal.returns-in-Err
returns-in-Err g c =
    later_from _ _ _ _ _ _ c.state.view_is _ _ _ _ refl refl c.prepare_commit-prepared.ensures.same
    (read_through c.state.inside.pass c.unissued.new.pass c.commit.new.pass c.unissued.ensures.read c.in-Err.ensures.read)
    (c.say_no_memory-in-Err.ensures.replied _ _)
