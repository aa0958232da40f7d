use Rattle.std.proofs.Common.{◌≡◌, ◌+◌}
use Rattle.ds_table.proofs.view.tick_times.Given as goal

abbrev pub invariant-loop-i : goal.invariant-loop-i
invariant-loop-i g l = l.steps ≡ l.initial.steps + l._i
