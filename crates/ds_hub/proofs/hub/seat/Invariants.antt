use Rattle.std.proofs.Common.{◌≡◌}
use Rattle.ds_hub.proofs.hub.seat.Given as goal

abbrev pub invariant-loop : goal.invariant-loop
invariant-loop g l =
    (goal.iterator-loop g).can_next l.iterator' × (goal.iterator-loop g).is_finite l.iterator'
    × (l.copies.shown ≡ l.initial.copies.shown) × (l.copies.log ≡ l.initial.copies.log) × (l.copies.knows ≡ l.initial.copies.knows)
