use Rattle.std.proofs.Common.{◌≡◌, ℕ, List, ◌++◌, refl, ap, arith, sym, ◌∙◌, subst, None}
use Rattle.std.specs.Prelude.{IsTrue, is_some, true, unwrap_or}
use Rattle.ds_base.specs.declared.key.Elem.{Elem}
use Rattle.ds_entity.specs.Entities.{EntityParts}
use Rattle.ds_base.specs.Keys.{KeyParts, renumbered, root_of}
use Rattle.ds_log.specs.declared.Write.TheVariants.{Put}
use Rattle.ds_log.specs.Ids.{first_unissued}
use Rattle.ds_reply.specs.declared.reply.Body.TheVariants as body
use Rattle.ds_reply.specs.declared.reply.WriteAt.TheVariants as at
use Rattle.ds_reply.specs.Replies.{reply_text}
use Rattle.ds_request.specs.declared.call.Call.TheVariants as call
use Rattle.ds_model.specs.Groups.{place_in, with_transaction}
use Rattle.ds_model.specs.Refusals.{refusal_of}
use Rattle.ds_model.specs.Sessions.{next_above}
use Rattle.ds_protocol.specs.Transactions.{MayWrite}
use Rattle.ds_output.specs.Room.{HasRoomToTell}
use Rattle.ds_session_state.specs.Sessions.{SessionParts}
use Rattle.ds_session_state.proofs.GrowthLaws.{read_itself, read_through}
use Rattle.ds_session_writes.proofs.IdLaws.{read_next}
use Rattle.ds_session_writes.proofs.InsideLaws.{may_put_new, put_new_exhausted, put_numbered, saw_taken, taken_seen, under_id}
use Rattle.ds_session_state.proofs.StandingLaws.{within_same}
use Rattle.ds_session_state.proofs.StateLaws.{later_from, told_from, unrefused_parts, within_parts}
use Rattle.ds_session_writes.proofs.writes_inside.take_new.Goals as goal

pub returns-in_default : goal.returns-in_default
returns-in_default g c =
    later_from _ _ _ _ _ _ c.state.view_is _ _ _ _ refl (ap (λ o. with_transaction o c.state.inside.seen) c.prepare_new.ensures.same)
    c.prepare_new.ensures.text (read_itself _) (c.say_no_memory.ensures.replied _ _)

pub write-requires-clause-allowed : goal.write-requires-clause-allowed
write-requires-clause-allowed g c =
    let entity = c.args.entity in
    let id = c.in-Ok-issue.id in
    let named = c.numbered-entity.ensures.group ∙ ap (λ (e : EntityParts). root_of (renumbered e.key id)) c.in-Ok.ensures.entity in
    let unrefused = unrefused_parts g.J.Names.definitions _ _ (call.Put entity.key true entity.properties) c.state.view_is
    c.requires.unrefused in
    let inside = subst (λ (v : SessionParts). IsTrue (is_some v.seen.transaction)) (sym c.state.view_is) c.requires.inside in
    subst (λ o. MayWrite o c.numbered-entity.result.group) (sym c.prepare_new.ensures.same)
    (subst (λ k. MayWrite c.state.inside.transaction.transaction k) (sym named)
    (may_put_new g.J.Names.definitions (with_transaction c.state.inside.transaction.transaction c.state.inside.seen) entity.key
    entity.properties id inside unrefused))

pub say_next-requires-clause-within : goal.say_next-requires-clause-within
say_next-requires-clause-within g c =
    let h = read_through c.state.inside.pass c.touch-looked.new.pass c.issue.new.pass c.touch-looked.ensures.looked.read
    (read_next c.touch-looked.new.pass c.issue.new.pass c.in-Err.refused.next c.in-Err.ensures.exhausted.0) in
    within_same c.state.inside.transaction.transaction c.prepare_new.new.transaction.transaction c.state.inside.seen c.state.inside.pass
    c.issue.new.pass c.prepare_new.ensures.same h (within_parts _ _ c.state.view_is c.requires.within)

pub tell_last-requires : goal.tell_last-requires
tell_last-requires g c =
    let id = c.in-Ok-issue.id in
    let place = c.place_or-place.result in
    let key = c.numbered-entity.ensures.key ∙ ap (λ (e : EntityParts). renumbered e.key id) c.in-Ok.ensures.entity in
    subst (λ (k : KeyParts). HasRoomToTell (body.Put k (at.Place place)) c.args.keep c.prepare_new.new.text.spare) (sym key)
    (c.in-Ok.ensures.suffices id (at.Place place) (omega arith) (omega arith))

pub returns-in-Ok-issue : goal.returns-in-Ok-issue
returns-in-Ok-issue g c =
    let entity = c.args.entity in
    let id = c.in-Ok-issue.id in
    let place = c.place_or-place.result in
    let had = c.state.inside.transaction.transaction in
    let seen = with_transaction had c.state.inside.seen in
    let root = root_of (renumbered entity.key id) in
    let unrefused = unrefused_parts g.J.Names.definitions _ _ (call.Put entity.key true entity.properties) c.state.view_is
    c.requires.unrefused in
    let inside = subst (λ (v : SessionParts). IsTrue (is_some v.seen.transaction)) (sym c.state.view_is) c.requires.inside in
    let issued = subst (λ (v : SessionParts). first_unissued v.pass.next entity.key.elems ≡ None) (sym c.state.view_is)
    c.requires.issued in
    let named = c.numbered-entity.ensures.group ∙ ap (λ (e : EntityParts). root_of (renumbered e.key id)) c.in-Ok.ensures.entity in
    let whole = c.numbered-entity.ensures.entity ∙ ap (λ (e : EntityParts). under_id id e) c.in-Ok.ensures.entity in
    let key = c.numbered-entity.ensures.key ∙ ap (λ (e : EntityParts). renumbered e.key id) c.in-Ok.ensures.entity in
    let stands = c.place_or-place.ensures
    ∙ ap (λ o. unwrap_or (place_in o c.numbered-entity.result.group) c.touch-looked.result) c.prepare_new.ensures.same
    ∙ ap (λ k. unwrap_or (place_in had k) c.touch-looked.result) named in
    let above = c.next_above-next.ensures ∙ ap (λ (es : List Elem). next_above es)
    (c.as_slice.ensures ∙ c.elems.ensures.value ∙ ap (λ (k : KeyParts). k.elems) c.key.ensures.value) in
    told_from _ _ _ _ _ _ c.state.view_is _ _ _ (body.Put (renumbered entity.key id) (at.Place place)) _
    (put_numbered g.J.Names.definitions c.args.store.now.shards _ _ seen c.state.inside.pass c.touch-looked.new.pass c.issue.new.pass
    (within_parts _ _ c.state.view_is c.requires.within) entity.key entity.properties c.touch-looked.result id place inside unrefused
    c.requires.ends_in_id issued c.touch-looked.ensures.looked c.in-Ok-issue.ensures.drawn stands)
    (taken_seen (Put c.numbered-entity.result.entity) c.numbered-entity.result.group place c.next_above-next.result c.state.inside.seen
    c.see_place.new.self c.see_next.new.self had c.prepare_new.new.transaction.transaction c.write.new.self.transaction
    (named ∙ sym (ap (λ (e : EntityParts). root_of e.key) whole)) c.prepare_new.ensures.same c.write.ensures c.see_place.ensures above
    c.see_next.ensures ∙ ap (λ (e : EntityParts). saw_taken (Put e) place seen) whole)
    refl
    (c.tell_last.ensures.told
    ∙ ap (λ (ts : List ℕ). ts ++ reply_text (record {
      client = c.state.inside.client;
      line = c.args.number;
      body = body.Put c.numbered-entity.result.key (at.Place place);
    })) c.prepare_new.ensures.text
    ∙ ap (λ k. c.state.inside.text.bytes ++ reply_text (record {
      client = c.state.inside.client;
      line = c.args.number;
      body = body.Put k (at.Place place);
    })) key) c.tell_last.ensures.kept

pub returns-in-Err : goal.returns-in-Err
returns-in-Err g c =
    let entity = c.args.entity in
    let had = c.state.inside.transaction.transaction in
    let has = c.prepare_new.new.transaction.transaction in
    let same = c.prepare_new.ensures.same in
    let within = within_same had has c.state.inside.seen c.state.inside.pass c.state.inside.pass same (read_itself _)
    (within_parts _ _ c.state.view_is c.requires.within) in
    let h = read_through c.state.inside.pass c.touch-looked.new.pass c.issue.new.pass c.touch-looked.ensures.looked.read
    (read_next c.touch-looked.new.pass c.issue.new.pass c.in-Err.refused.next c.in-Err.ensures.exhausted.0) in
    let unrefused = subst (λ o. refusal_of g.J.Names.definitions (with_transaction o c.state.inside.seen)
    (call.Put entity.key true entity.properties) ≡ None) (sym same)
    (unrefused_parts g.J.Names.definitions _ _ (call.Put entity.key true entity.properties) c.state.view_is c.requires.unrefused) in
    let issued = subst (λ (v : SessionParts). first_unissued v.pass.next entity.key.elems ≡ None) (sym c.state.view_is)
    c.requires.issued in
    later_from _ _ _ _ _ _ c.state.view_is _ _ _ _ refl (ap (λ o. with_transaction o c.state.inside.seen) same)
    c.prepare_new.ensures.text (read_itself _)
    (c.say_next.ensures c.state.inside.pass _ c.args.store.now.shards within h
    (put_new_exhausted g.J.Names.definitions c.args.store.now.shards _ _ (with_transaction has c.state.inside.seen) c.state.inside.pass
    c.touch-looked.new.pass c.issue.new.pass within entity.key entity.properties c.touch-looked.result c.in-Err.refused.next unrefused
    issued c.touch-looked.ensures.looked c.in-Err.ensures.exhausted.0 c.in-Err.ensures.exhausted.1))
