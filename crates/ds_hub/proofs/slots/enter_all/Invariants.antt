use Rattle.std.proofs.Common.{◌≡◌, IsTrue, map}
use Rattle.std.specs.List.{AllWithin}
use Rattle.ds_hub.specs.Growing.{AreLonger}
use Rattle.ds_hub.specs.Holding.{hub_in, known_in, is_inside}
use Rattle.ds_hub.proofs.slots.enter_all.Given as goal

abbrev pub invariant-loop-slot : goal.invariant-loop-slot
invariant-loop-slot g l =
    (map hub_in l.slots ≡ map hub_in l.initial.slots) × AreLonger (map known_in l.initial.slots) (map known_in l.slots)
    × AllWithin (λ slot. IsTrue (is_inside slot)) l.slots 0 l.slot-index
