use Rattle.ds_clients.specs.Runs.{IsIdle}
use Rattle.ds_serving.proofs.appliers.apply_all.Given as goal

abbrev pub invariant-loop : goal.invariant-loop
invariant-loop g l = IsIdle l.pass
