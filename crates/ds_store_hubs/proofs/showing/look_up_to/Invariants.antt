use Rattle.std.proofs.Common.{◌≡◌, ◌≤◌}
use Rattle.ds_store_hubs.proofs.showing.look_up_to.Given as goal

abbrev pub invariant-loop : goal.invariant-loop
invariant-loop g l =
    (goal.iterator-loop g).can_next l.iterator' × (goal.iterator-loop g).is_finite l.iterator'
    × (l.seat.word ≡ l.initial.seat.word) × (l.seat.draws ≡ l.initial.seat.draws) × (l.initial.seat.counter ≤ l.seat.counter)
