use Rattle.std.proofs.Common.{◌∙◌, ap}
use Rattle.ds_shard.specs.States.{StateParts}
use Rattle.ds_engine.proofs.SlotLaws.{fold_is, on_ledger}
use Rattle.ds_engine.proofs.entered.shard_in.Goals as goal

pub tables-requires : goal.tables-requires
tables-requires g c =
    record {
      ledger = on_ledger g.L.Ledger.parts c.args.slot.now.start c.args.slot.now.known c.in-Some.state.now c.requires.ledger
          c.in-Some.ensures.shows.1;
    }

pub returns-in-Some : goal.returns-in-Some
returns-in-Some g c = λ definitions kept begins.
    c.tables.ensures
    ∙ ap (λ (s : StateParts). s.shard)
    (fold_is g.L.Ledger.parts definitions kept c.args.slot.now.start c.args.slot.now.known c.in-Some.state.now begins c.in-Some.ensures.shows.1)
