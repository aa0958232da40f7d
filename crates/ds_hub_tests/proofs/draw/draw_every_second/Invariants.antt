use Rattle.std.proofs.Common.{◌≡◌}
use Rattle.ds_hub_tests.proofs.draw.draw_every_second.Given as goal

abbrev pub invariant-loop-i : goal.invariant-loop-i
invariant-loop-i g l = l.seat.word ≡ l.word.name
