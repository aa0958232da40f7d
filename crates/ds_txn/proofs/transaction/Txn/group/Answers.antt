use Rattle.std.proofs.Common.{◌∙◌, ap, sym, Some, None}
use Rattle.std.proofs.lemmas.Option.{slice_get-map}
use Rattle.std.specs.Prelude.{slice_get}
use Rattle.std.specs.Option.{option_map}
use Rattle.ds_log.specs.declared.Touch.{Touch}
use Rattle.ds_txn.specs.Transactions.{TxnParts, touch_of}
use Rattle.ds_txn.proofs.Places.{touch_at}
use Rattle.ds_txn.proofs.transaction.Txn.group.Goals as goal

pub returns-in-Some : goal.returns-in-Some
returns-in-Some c =
    ap (option_map (λ (t : Touch). t.group)) (sym (touch_at c.self.inside.groups.entries c.args.i _ _ c.in-Some.ensures.entry))
    ∙ ap (λ (t : TxnParts). option_map (λ (u : Touch). u.group) (slice_get t.touched c.args.i)) c.self.view_is

pub returns-in-None : goal.returns-in-None
returns-in-None c =
    ap (λ o. option_map (λ (t : Touch). t.group) (option_map touch_of o)) c.in-None.ensures.entry
    ∙ ap (option_map (λ (t : Touch). t.group)) (sym (slice_get-map touch_of c.self.inside.groups.entries c.args.i))
    ∙ ap (λ (t : TxnParts). option_map (λ (u : Touch). u.group) (slice_get t.touched c.args.i)) c.self.view_is
