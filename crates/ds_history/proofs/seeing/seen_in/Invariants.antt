use Rattle.std.proofs.Common.{◌≡◌, map}
use Rattle.std.specs.Map.Iter.{deref_pair}
use Rattle.ds_history.specs.Versions.{seen_in}
use Rattle.ds_history.proofs.seeing.seen_in.Given as goal

-- so far the entities of the keys that were walked over
abbrev pub invariant-loop-key : goal.invariant-loop-key
invariant-loop-key l = map (λ e. e.now) l.entities.items ≡ seen_in l.kind l.counts (map deref_pair l.yielded)
