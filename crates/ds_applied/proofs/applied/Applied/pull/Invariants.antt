use Rattle.std.proofs.Common.{◌≡◌, ◌-◌, ◌≤◌, length}
use Rattle.ds_applied.specs.AppliedLists.{Follows}
use Rattle.ds_applied.proofs.applied.Applied.pull.Given as goal

-- the lists follow the journal, commit by commit
abbrev pub invariant-loop-self : goal.invariant-loop-self
invariant-loop-self l =
    Follows l.journal l.self × (l.initial.self.commits ≤ l.self.commits) × (l.self.shards ≡ l.initial.self.shards) ×
    (l.self.counts ≡ l.initial.self.counts)

abbrev pub decreases-loop-self : goal.decreases-loop-self
decreases-loop-self l = length l.journal - l.self.commits
