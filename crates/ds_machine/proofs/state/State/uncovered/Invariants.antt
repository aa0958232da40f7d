use Rattle.ds_machine.proofs.Words.{◌≡◌, first_uncovered, shown, drop}
use Rattle.ds_machine.proofs.state.State.uncovered.Given as goal

-- the shards so far are covered
abbrev pub invariant-loop-shard : goal.invariant-loop-shard
invariant-loop-shard l =
    first_uncovered (shown l.self) l.place l.shard (drop l.shard l.gathered.views)
    ≡ first_uncovered (shown l.self) l.place 0 l.gathered.views
