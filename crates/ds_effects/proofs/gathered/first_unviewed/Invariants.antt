use Rattle.std.proofs.Common.{◌≡◌, drop}
use Rattle.ds_effects.specs.Gathered.{first_unviewed}
use Rattle.ds_effects.proofs.gathered.first_unviewed.Given as goal

-- those so far are there
abbrev pub invariant-loop-shard : goal.invariant-loop-shard
invariant-loop-shard l = first_unviewed l.shard (drop l.shard l.views) ≡ first_unviewed 0 l.views
