use Rattle.std.proofs.Common.{◌≡◌, ◌≤◌}
use Rattle.ds_draw.proofs.word.Word.draw_at.Given as goal

-- the looks so far have only raised the seat's counter
abbrev pub invariant-loop : goal.invariant-loop
invariant-loop g l = (l.seat.word ≡ l.initial.seat.word) × (l.seat.draws ≡ l.initial.seat.draws) × (l.initial.seat.counter ≤ l.seat.counter)
