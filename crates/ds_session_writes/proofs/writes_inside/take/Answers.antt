use Rattle.std.proofs.Common.{◌≡◌, List, Option, ◌++◌, refl, ap, sym, ◌∙◌, subst, None}
use Rattle.std.specs.Prelude.{IsTrue, is_some}
use Rattle.ds_base.specs.declared.key.Elem.{Elem}
use Rattle.ds_base.specs.Keys.{KeyParts, root_of}
use Rattle.ds_log.specs.Ids.{first_unissued}
use Rattle.ds_log.specs.Logs.{key_of}
use Rattle.ds_reply.specs.declared.reply.WriteAt.TheVariants as at
use Rattle.ds_reply.specs.Replies.{reply_text}
use Rattle.ds_model.specs.Groups.{with_transaction}
use Rattle.ds_model.specs.Sessions.{Transaction, next_above}
use Rattle.ds_protocol.specs.Transactions.{MayWrite}
use Rattle.ds_session_state.specs.Replying.{write_call}
use Rattle.ds_output.specs.Writes.{written_body}
use Rattle.ds_session_state.specs.Sessions.{SessionParts}
use Rattle.ds_session_state.proofs.GrowthLaws.{read_itself}
use Rattle.ds_session_writes.proofs.InsideLaws.{may_write, stood, taken_seen, write_taken}
use Rattle.ds_session_state.proofs.StandingLaws.{within_same}
use Rattle.ds_session_state.proofs.StateLaws.{later_from, none_from, told_from, unrefused_parts, within_parts}
use Rattle.ds_session_writes.proofs.writes_inside.take.Goals as goal

pub touched-place-requires : goal.touched-place-requires
touched-place-requires g c =
    let inside = subst (λ (v : SessionParts). IsTrue (is_some v.seen.transaction)) (sym c.state.view_is) c.requires.inside in
    c.touch_place-at.ensures.inside ∙ ap (λ (o : Option Transaction). is_some o) c.group_with_room.ensures.same ∙ inside

pub say_no_memory-requires-in_default-body_of-clause-within : goal.say_no_memory-requires-in_default-body_of-clause-within
say_no_memory-requires-in_default-body_of-clause-within g c =
    within_same c.state.inside.transaction.transaction c.group_with_room.new.transaction.transaction c.state.inside.seen c.state.inside.pass
    c.touch_place-at.new.pass c.group_with_room.ensures.same c.touch_place-at.ensures.read
    (within_parts _ _ c.state.view_is c.requires.within)

pub returns-in_default-body_of : goal.returns-in_default-body_of
returns-in_default-body_of g c =
    later_from _ _ _ _ _ _ c.state.view_is _ _ _ _ refl
    (ap (λ o. with_transaction o c.state.inside.seen) c.group_with_room.ensures.same) refl c.touch_place-at.ensures.read
    (c.say_no_memory-in_default-body_of.ensures.replied _ _)

pub returns-then-not-tell : goal.returns-then-not-tell
returns-then-not-tell g c =
    none_from _ _ _ _ _ _ c.state.view_is _ _ _ c.requires.within refl
    (ap (λ o. with_transaction o c.state.inside.seen) c.group_with_room.ensures.same) c.touch_place-at.ensures.read
    (c.tell.ensures.untold c.if-not-tell.true) c.tell.ensures.kept

pub write-requires-clause-allowed : goal.write-requires-clause-allowed
write-requires-clause-allowed g c =
    let named = c.in-Ok.ensures.group ∙ ap (λ (k : KeyParts). root_of k) c.key.ensures in
    let unrefused = unrefused_parts g.J.Names.definitions _ _ (write_call c.args.write) c.state.view_is c.requires.unrefused in
    let inside = subst (λ (v : SessionParts). IsTrue (is_some v.seen.transaction)) (sym c.state.view_is) c.requires.inside in
    subst (λ o. MayWrite o c.in-Ok.group) (sym c.group_with_room.ensures.same)
    (subst (λ k. MayWrite c.state.inside.transaction.transaction k) (sym named)
    (may_write g.J.Names.definitions (with_transaction c.state.inside.transaction.transaction c.state.inside.seen) c.args.write inside
    unrefused))

pub returns : goal.returns
returns g c =
    let seen = with_transaction c.state.inside.transaction.transaction c.state.inside.seen in
    let named = c.in-Ok.ensures.group ∙ ap (λ (k : KeyParts). root_of k) c.key.ensures in
    let within = within_parts _ _ c.state.view_is c.requires.within in
    let unrefused = unrefused_parts g.J.Names.definitions _ _ (write_call c.args.write) c.state.view_is c.requires.unrefused in
    let inside = subst (λ (v : SessionParts). IsTrue (is_some v.seen.transaction)) (sym c.state.view_is) c.requires.inside in
    let issued = subst (λ (v : SessionParts). first_unissued v.pass.next (key_of c.args.write).elems ≡ None) (sym c.state.view_is)
    c.requires.issued in
    let asked = c.touch_place-at.ensures.stands c.state.inside.seen (within_same c.state.inside.transaction.transaction
    c.group_with_room.new.transaction.transaction c.state.inside.seen c.state.inside.pass c.state.inside.pass
    c.group_with_room.ensures.same (read_itself _) within) in
    let may = stood c.touch_place-at.result c.touched-place.result c.state.inside.transaction.transaction
    c.group_with_room.new.transaction.transaction c.state.inside.seen c.touch_place-at.new.pass c.in-Ok.group
    (root_of (key_of c.args.write)) c.touched-place.ensures c.group_with_room.ensures.same named asked in
    let above = c.next_above-next.ensures ∙ ap (λ (es : List Elem). next_above es)
    (c.as_slice.ensures ∙ c.elems.ensures.value ∙ ap (λ (k : KeyParts). k.elems) c.key-2.ensures) in
    told_from _ _ _ _ _ _ c.state.view_is _ _ _ (written_body c.args.write (at.Place c.touched-place.result)) _
    (write_taken g.J.Names.definitions c.args.store.now.shards _ _ seen c.state.inside.pass c.touch_place-at.new.pass c.args.write
    c.touched-place.result inside within unrefused issued c.touch_place-at.ensures.read may)
    (taken_seen c.args.write c.in-Ok.group c.touched-place.result c.next_above-next.result c.state.inside.seen c.see_place.new.self
    c.see_next.new.self c.state.inside.transaction.transaction c.group_with_room.new.transaction.transaction
    c.write.new.self.transaction named c.group_with_room.ensures.same c.write.ensures c.see_place.ensures above c.see_next.ensures)
    refl
    (c.tell.ensures.told c.if-not-tell.false ∙ ap (λ b. c.state.inside.text.bytes ++ reply_text (record {
      client = c.state.inside.client;
      line = c.args.number;
      body = b;
    })) c.in-Ok-body_of.ensures) c.tell.ensures.kept
