-- The others so far are taken in.
use Rattle.ds_protocol.proofs.Words.{◌≡◌, take, greater_counts}
use Rattle.ds_protocol.proofs.watermark.raise_all.Given as goal

abbrev pub invariant-loop-i : goal.invariant-loop-i
invariant-loop-i l = l.counts ≡ greater_counts l.fn.counts (take l.i l.others)
