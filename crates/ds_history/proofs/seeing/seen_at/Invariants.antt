use Rattle.std.proofs.Common.{◌≡◌, ◌≤◌, length, take}
use Rattle.ds_history.specs.Versions.{seen_at}
use Rattle.ds_history.proofs.seeing.seen_at.Given as goal

abbrev pub decreases-back : goal.decreases-back
decreases-back l = l.earlier

-- the versions behind aren't counted
abbrev pub invariant-back : goal.invariant-back
invariant-back l = (l.earlier ≤ length l.versions) × (seen_at l.counts l.versions ≡ seen_at l.counts (take l.earlier l.versions))
