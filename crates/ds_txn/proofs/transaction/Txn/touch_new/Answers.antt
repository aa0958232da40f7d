use Rattle.std.proofs.Common.{◌∙◌, ap, ◌++◌, ◌∷◌, []}
use Rattle.ds_log.specs.Touches.{touch_place}
use Rattle.ds_txn.specs.Transactions.{TxnParts, touches_of}
use Rattle.ds_txn.proofs.Places.{insert_untouched}
use Rattle.ds_txn.proofs.transaction.Txn.touch_new.Goals as goal

pub returns-clause-ok : goal.returns-clause-ok
returns-clause-ok c =
    let viewed = ap (λ (t : TxnParts). t.touched) c.self.view_is in
    ap touches_of c.in_ok-insert.ensures.entries
    ∙ insert_untouched c.self.inside.groups.entries c.args.group c.args.place (ap (touch_place c.args.group) viewed ∙ c.requires.untouched)
    ∙ ap (λ ts. ts ++ record { group = c.args.group; place = c.args.place } ∷ []) viewed
