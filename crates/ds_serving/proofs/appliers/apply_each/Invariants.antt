use Rattle.ds_clients.specs.Runs.{IsIdle}
use Rattle.ds_serving.proofs.appliers.apply_each.Given as goal

abbrev pub invariant-loop-shard : goal.invariant-loop-shard
invariant-loop-shard g l = IsIdle l.pass
