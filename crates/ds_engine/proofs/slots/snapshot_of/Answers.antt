use Rattle.std.proofs.Common.{◌∙◌, ap, sym}
use Rattle.ds_shard.specs.States.{StateParts}
use Rattle.ds_engine.proofs.SlotLaws.{fold_is, newest_is, window_is}
use Rattle.ds_engine.proofs.slots.snapshot_of.Goals as goal

pub tables-shard-requires : goal.tables-shard-requires
tables-shard-requires g c =
    record {
      ledger = sym (ap (λ (s : StateParts). s.ledger)
          (fold_is g.L.Ledger.parts c.args.defs.now c.args.kept c.args.slot.now.start c.args.slot.now.known c.in-Some.state.now
          c.requires.begun c.in-Some.ensures.shows.1));
    }

pub newest-requires : goal.newest-requires
newest-requires g c =
    let entries = c.args.slot.now.known in
    window_is c.entries_are_kept.ensures c.args.defs.now c.args.kept c.requires.kept entries c.tables-shard.result
    (c.tables-shard.ensures ∙ ap (λ (s : StateParts). s.shard)
    (fold_is g.L.Ledger.parts c.args.defs.now c.args.kept c.args.slot.now.start entries c.in-Some.state.now c.requires.begun
    c.in-Some.ensures.shows.1))

pub returns-clause-snapshot : goal.returns-clause-snapshot
returns-clause-snapshot g c =
    let entries = c.args.slot.now.known in
    c.newest.ensures
    ∙ sym (newest_is c.entries_are_kept.ensures c.args.defs.now c.args.kept c.requires.kept entries c.tables-shard.result
    (c.tables-shard.ensures ∙ ap (λ (s : StateParts). s.shard)
    (fold_is g.L.Ledger.parts c.args.defs.now c.args.kept c.args.slot.now.start entries c.in-Some.state.now c.requires.begun
    c.in-Some.ensures.shows.1)))

pub returns-clause-own : goal.returns-clause-own
returns-clause-own g c = c.in-Some.ensures.belong
