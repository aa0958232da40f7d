use Rattle.std.specs.Prelude.{All}
use Rattle.ds_core.specs.Machines.{IsLawfulEvent}
use Rattle.ds_core_tests.proofs.scripts.events_of.Given as goal

-- those so far are lawful
abbrev pub invariant-loop-part : goal.invariant-loop-part
invariant-loop-part l = All (IsLawfulEvent l.shards) l.events
