use Rattle.std.specs.Prelude.{All}
use Rattle.ds_core.specs.Machines.{IsLawfulEvent}
use Rattle.ds_core_tests.proofs.scripts.add_events.Given as goal

-- those so far are lawful
abbrev pub invariant-loop-line : goal.invariant-loop-line
invariant-loop-line l = All (IsLawfulEvent l.shards) l.events
