use Rattle.std.proofs.Common.{◌≡◌, ◌∙◌, ap, sym, Some, None}
use Rattle.std.specs.Prelude.{slice_get}
use Rattle.ds_log.specs.Conflicts.{conflict_from}
use Rattle.ds_log.specs.ConflictSteps.{conflict_here, conflict_later}
use Rattle.ds_log.specs.Heads.{last_noted}
use Rattle.ds_txn.specs.Transactions.{TxnParts, touches_of}
use Rattle.ds_txn.proofs.Places.{touch_at}
use Rattle.ds_txn.proofs.transaction.Txn.check.Goals as goal

pub returns-in-Some-last_after : goal.returns-in-Some-last_after
returns-in-Some-last_after c =
    let es = c.self.inside.groups.entries in
    let last = last_noted c.args.heads.now in
    let at : Some (c.in-Some.group.now, c.in-Some.place.now) ≡ slice_get es c.loop-group.i = c.in-Some.ensures.entry in
    let told : conflict_from last c.args.heads.now.commits 0 c.args.self.now.touched ≡ Some
    (record { group = c.loop-group.i; commit = c.in-Some-last_after.commit; place = c.args.heads.now.commits }) =
    ap (λ (t : TxnParts). conflict_from last c.args.heads.now.commits 0 t.touched) (sym c.self.view_is)
    ∙ c.loop-group.invariant
    ∙ conflict_here last c.args.heads.now.commits c.loop-group.i (touches_of es) _ c.in-Some-last_after.commit
    (touch_at es c.loop-group.i _ _ at) (sym c.last_after.ensures ∙ c.in-Some-last_after.is) in
    ap (λ place. Some (record { group = c.loop-group.i; commit = c.in-Some-last_after.commit; place = place })) c.length.ensures.value
    ∙ sym told

pub loop-group-preserved : goal.loop-group-preserved
loop-group-preserved c =
    let es = c.self.inside.groups.entries in
    let at : Some (c.in-Some.group.now, c.in-Some.place.now) ≡ slice_get es c.loop-group.i = c.in-Some.ensures.entry in
    let none : c.last_after.result ≡ None = c.in_default-last_after.is in
    c.loop-group.invariant ∙ conflict_later (last_noted c.args.heads.now) c.args.heads.now.commits c.loop-group.i (touches_of es) _
    (touch_at es c.loop-group.i _ _ at) (sym c.last_after.ensures ∙ none)
