use Rattle.std.proofs.Common.{◌∙◌, ap, sym, subst, refl, [], Option, None}
use Rattle.ds_request.specs.declared.call.Call.TheVariants as call
use Rattle.ds_model.specs.Answers.{commit_of}
use Rattle.ds_model.specs.Groups.{with_transaction}
use Rattle.ds_model.specs.Sessions.{Session, Transaction}
use Rattle.ds_store.specs.Answered.{IsAppended}
use Rattle.ds_output.specs.Room.{HasRoomForCommit}
use Rattle.ds_session_state.specs.Sessions.{SessionParts}
use Rattle.ds_session_state.proofs.StateLaws.{told_from, unrefused_parts, within_parts}
use Rattle.ds_session_writes.proofs.TransactionLaws.{committed}
use Rattle.ds_session_writes.proofs.transactions.tell_commit.Goals as goal

pub tell_last-requires : goal.tell_last-requires
tell_last-requires g c =
    subst (λ (v : SessionParts). HasRoomForCommit c.args.keep v.room) (sym c.state.view_is) c.requires c.args.commit c.ranges.commit.fits

pub returns : goal.returns
returns g c = λ p t shards within inside unrefused done.
    let same = ap (λ (v : SessionParts). record v { pass = p }) c.state.view_is in
    told_from _ _ _ _ _ _ same _ _ _ _ _
    (committed _ _ _ _ _ _ _ (within_parts _ _ same within) t c.args.commit
    (unrefused_parts g.J.Names.definitions _ _ call.Commit same unrefused) (ap (λ (v : SessionParts). v.seen.transaction) same ∙ inside)
    (subst (λ (v : SessionParts). IsAppended p v.pass (commit_of c.args.state.now.client t) c.args.commit []) (sym c.state.view_is) done))
    (ap (λ (o : Option Transaction). with_transaction o c.see_place.new.self) c.end.ensures
    ∙ ap (λ (s : Session). with_transaction None s) c.see_place.ensures) refl c.tell_last.ensures.told c.tell_last.ensures.kept
