use Rattle.std.proofs.Common.{◌≡◌}
use Rattle.ds_hub_tests.proofs.draw.draw_many.Given as goal

-- what was collected is what the seat drew
abbrev pub invariant-loop : goal.invariant-loop
invariant-loop g l = (l.seat.word ≡ l.word.name) × (l.seat.draws ≡ l.numbers.items)
