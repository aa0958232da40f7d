use Rattle.std.proofs.Common.{◌≡◌, ◌-◌, length}
use Rattle.ds_applied.specs.AppliedLists.{writes_at}
use Rattle.ds_applied.proofs.shard.Shard.apply_one.Given as goal

-- only the begun writes grow
abbrev pub invariant-loop-alloc : goal.invariant-loop-alloc
invariant-loop-alloc l = (l.self.entries ≡ l.initial.self.entries) × (l.self.applied ≡ l.initial.self.applied)

abbrev pub decreases-loop-alloc : goal.decreases-loop-alloc
decreases-loop-alloc l = length (writes_at l.self.entries l.self.applied) - l.self.begun
