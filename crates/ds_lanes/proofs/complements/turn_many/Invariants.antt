use Rattle.std.proofs.Common.{◌≡◌, ℕ, ◌-◌, ◌*◌, ◌<◌, get_or}
use Rattle.ds_lanes.proofs.complements.turn_many.Given as goal

abbrev pub invariant-loop-chunk : goal.invariant-loop-chunk
invariant-loop-chunk l = (k : ℕ) → k < l.chunk * 32 → get_or l.dst k 0 ≡ 255 - get_or l.src k 0
