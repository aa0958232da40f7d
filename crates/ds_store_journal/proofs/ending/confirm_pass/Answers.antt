use Rattle.std.proofs.Common.{◌≡◌, length, subst, ◌∙◌}
use Rattle.std.proofs.lemmas.List.{length-map}
use mathlib.Core.List.{IsPrefix}
use Rattle.ds_hub.specs.Holding.{known_in}
use Rattle.ds_store_passes.proofs.SlotLists.{slots_many}
use Rattle.ds_store_journal.proofs.ending.confirm_pass.Goals as goal

pub returns : goal.returns
returns g c =
    let pass = c.pass.inside in
    let slots = pass.shards.items in
    let many = slots_many g.J.Names.ledger g.J.Names.definitions g.J.Names.window slots g.J.Names.shards c.pass.invariant.1 in
    rw (← c.pass.view_is)
    (record {
      begins = subst (IsPrefix pass.journal.known) c.args.desk.now.told.0 c.confirm.ensures;
      own = c.pass.invariant.4.0;
      whole = length-map slots known_in ∙ many;
    })
