use Rattle.std.proofs.Common.{All, [], ◌∷◌, ◌++◌, ap, arith, get_or, map, subst, sym, take, ◌∙◌}
use Rattle.std.proofs.lemmas.List.{map-append, take_all, take_more}
use Rattle.std.proofs.lemmas.List.Elements.{All-more}
use Rattle.ds_hub.specs.Holding.{known_in}
use Rattle.ds_engine.specs.Counted.{HasBegun, KnowsOwn}
use Rattle.ds_engine.specs.Snapshots.{newest, newest_of}
use Rattle.ds_engine.proofs.slots.snapshots_of.Goals as goal

pub snapshot_of-requires-clause-begun : goal.snapshot_of-requires-clause-begun
snapshot_of-requires-clause-begun g c =
    subst (HasBegun g.L.Ledger.parts c.args.defs.now c.args.kept) (sym c.slot-item.is)
    (c.requires.begun c.loop-slot.slot-index c.slot-item.result c.loop-slot-test.true)

pub loop-slot-preserved : goal.loop-slot-preserved
loop-slot-preserved g c = (
  (let slots = c.args.slots.now in
      let i = c.loop-slot.slot-index in
      let slot = c.slot-item.result in
      let defs = c.args.defs.now in
      let kept = c.args.kept in
      let next = get_or slots i slot in
      c.in_ok-push.ensures.items
      ∙ (λ j. c.loop-slot.invariant.0 j ++ (c.snapshot_of.ensures.snapshot ∙ ap (λ s. newest_of defs kept (known_in s)) c.slot-item.is) j ∷ [])
      ∙ sym (ap (newest defs kept) (ap (map known_in) (take_more slots i slot c.loop-slot-test.true)
      ∙ map-append known_in (take i slots) (next ∷ []))
      ∙ map-append (newest_of defs kept) (map known_in (take i slots)) (known_in next ∷ []))),
  All-more KnowsOwn c.args.slots.now c.loop-slot.slot-index c.slot-item.result c.loop-slot-test.true c.loop-slot.invariant.1
      (subst KnowsOwn c.slot-item.is c.snapshot_of.ensures.own),
)

pub returns-clause-own : goal.returns-clause-own
returns-clause-own g c =
    subst (All KnowsOwn) (take_all c.loop-slot.slot-index c.args.slots.now (omega (arith, c.loop-slot-test.false))) c.loop-slot.invariant.1
