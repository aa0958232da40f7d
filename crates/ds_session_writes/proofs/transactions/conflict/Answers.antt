use Rattle.std.proofs.Common.{List, ◌∙◌, ap, sym, subst, refl, Option, None}
use Rattle.std.specs.Prelude.{slice_get}
use Rattle.ds_log.specs.declared.Touch.{Touch}
use Rattle.ds_request.specs.declared.call.Call.TheVariants as call
use Rattle.ds_model.specs.Groups.{with_transaction}
use Rattle.ds_model.specs.Sessions.{Session, Transaction}
use Rattle.ds_store.specs.Answered.{IsConflict}
use Rattle.ds_session_state.specs.Sessions.{SessionParts}
use Rattle.ds_session_state.proofs.LaterReplies.{replied_from}
use Rattle.ds_session_state.proofs.StateLaws.{none_from, told_from, unrefused_parts, within_parts}
use Rattle.ds_session_writes.proofs.TransactionLaws.{has_conflict}
use Rattle.ds_session_writes.proofs.transactions.conflict.Goals as goal

pub returns-in_default : goal.returns-in_default
returns-in_default g c = λ p t shards within inside touched unrefused is.
    replied_from _ _ _ _ _ _ _ _ _ refl refl refl is.looked.read (c.say_no_memory.ensures.replied _ _)

pub returns-then-not-tell : goal.returns-then-not-tell
returns-then-not-tell g c = λ p t shards within inside touched unrefused is.
    let same = ap (λ (v : SessionParts). record v { pass = p }) c.state.view_is in
    let conflicts = subst (λ (v : SessionParts). IsConflict p v.pass t.touched c.args.conflict) (sym c.state.view_is) is in
    none_from _ _ _ _ _ _ same _ _ _ within refl refl conflicts.looked.read (c.tell.ensures.untold c.if-not-tell.true)
    c.tell.ensures.kept

pub returns : goal.returns
returns g c = λ p t shards within inside touched unrefused is.
    let same = ap (λ (v : SessionParts). record v { pass = p }) c.state.view_is in
    let conflicts = subst (λ (v : SessionParts). IsConflict p v.pass t.touched c.args.conflict) (sym c.state.view_is) is in
    told_from _ _ _ _ _ _ same _ _ _ _ _
    (has_conflict _ _ _ _ _ _ _ (within_parts _ _ same within) t c.args.conflict _
    (unrefused_parts g.J.Names.definitions _ _ call.Commit same unrefused)
    (ap (λ (v : SessionParts). v.seen.transaction) same ∙ inside)
    (ap (λ (ts : List Touch). slice_get ts c.args.conflict.group) (sym touched) ∙ c.in-Some.ensures.named) conflicts)
    (ap (λ (o : Option Transaction). with_transaction o c.see_place.new.self) c.end.ensures
    ∙ ap (λ (s : Session). with_transaction None s) c.see_place.ensures) refl
    (c.tell.ensures.told c.if-not-tell.false) c.tell.ensures.kept
