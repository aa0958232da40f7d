use Rattle.std.proofs.Common.{◌∙◌, ap}
use Rattle.ds_txn.specs.Transactions.{TxnParts}
use Rattle.ds_log.specs.Touches.{touch_place}
use Rattle.ds_txn.proofs.Places.{lookup_place}
use Rattle.ds_txn.proofs.transaction.Txn.place.Goals as goal

pub returns : goal.returns
returns c =
    c.copied.ensures ∙ c.get.ensures.value ∙ lookup_place c.args.group.now c.self.inside.groups.entries
    ∙ ap (λ (t : TxnParts). touch_place c.args.group.now t.touched) c.self.view_is
