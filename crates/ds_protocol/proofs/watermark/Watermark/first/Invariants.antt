use Rattle.ds_protocol.proofs.Words.{◌≡◌, replicate}
use Rattle.ds_protocol.proofs.watermark.Watermark.first.Given as goal

abbrev pub invariant-loop-shard : goal.invariant-loop-shard
invariant-loop-shard l = l.counts.items ≡ replicate l._shard 0
