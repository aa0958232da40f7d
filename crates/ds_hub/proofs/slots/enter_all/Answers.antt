use Rattle.std.proofs.Common.{IsTrue, refl, ◌∙◌, arith, rules}
use Rattle.std.proofs.Math.Seq.{map-set_same}
use Rattle.ds_hub.specs.Holding.{hub_in, known_in, is_inside}
use Rattle.ds_hub.proofs.Growing.{longer_itself, longer_set, within_set}
use Rattle.ds_hub.proofs.slots.enter_all.Goals as goal

pub loop-slot-init : goal.loop-slot-init
loop-slot-init g c = (refl, longer_itself _, search rules)

pub loop-slot-preserved : goal.loop-slot-preserved
loop-slot-preserved g c =
    let h = c.loop-slot.invariant in (
      map-set_same hub_in c.loop-slot.slots c.loop-slot.slot-index c.enter.new.self c.slot-item.result (cc (c.enter.ensures.hub.0, c.enter.ensures.hub.1)) ∙ h.0,
      longer_set known_in _ _ _ _ _ h.1 c.enter.ensures.known,
      within_set (λ slot. IsTrue (is_inside slot)) c.loop-slot.slots c.loop-slot.slot-index c.enter.new.self (omega (arith, c.loop-slot-test.true, c.loop-slot.auto.slots)) h.2 (search (rules, c.if-not-enter.false, c.enter.ensures.entered)),
    )

pub returns-then-not-enter-clause-hubs : goal.returns-then-not-enter-clause-hubs
returns-then-not-enter-clause-hubs g c =
    map-set_same hub_in c.loop-slot.slots c.loop-slot.slot-index c.enter.new.self c.slot-item.result (cc (c.enter.ensures.hub.0, c.enter.ensures.hub.1)) ∙ c.loop-slot.invariant.0

pub returns-then-not-enter-clause-known : goal.returns-then-not-enter-clause-known
returns-then-not-enter-clause-known g c = longer_set known_in _ _ _ _ _ c.loop-slot.invariant.1 c.enter.ensures.known
