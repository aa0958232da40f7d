use Rattle.std.proofs.Common.{ap, refl, Option}
use Rattle.ds_request.specs.declared.call.Call.TheVariants as call
use Rattle.ds_model.specs.Groups.{with_transaction}
use Rattle.ds_model.specs.Sessions.{Transaction}
use Rattle.ds_session_state.proofs.GrowthLaws.{read_itself}
use Rattle.ds_session_state.proofs.StateLaws.{none_from, told_from, unrefused_parts, within_parts}
use Rattle.ds_session_writes.proofs.TransactionLaws.{has_begun}
use Rattle.ds_session_writes.proofs.transactions.begin.Goals as goal

pub returns-then-not-tell : goal.returns-then-not-tell
returns-then-not-tell g c = λ shards.
    none_from _ _ _ _ _ _ c.state.view_is _ _ _ c.requires.within refl refl (read_itself _)
    (c.tell.ensures.untold c.if-not-tell.true) c.tell.ensures.kept

pub returns : goal.returns
returns g c = λ shards.
    told_from _ _ _ _ _ _ c.state.view_is _ _ _ _ _
    (has_begun _ _ _ _ _ _ _ (within_parts _ _ c.state.view_is c.requires.within) c.args.several_groups
    (unrefused_parts g.J.Names.definitions _ _ (call.Begin c.args.several_groups) c.state.view_is c.requires.unrefused) (read_itself _))
    (ap (λ (o : Option Transaction). with_transaction o c.state.inside.seen) c.begin.ensures) refl
    (c.tell.ensures.told c.if-not-tell.false) c.tell.ensures.kept
