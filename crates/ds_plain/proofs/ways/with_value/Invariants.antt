-- The values so far.
use Rattle.std.proofs.Common.{◌≡◌, take}
use Rattle.ds_plain.proofs.ways.with_value.Given as goal

abbrev pub invariant-loop-held : goal.invariant-loop-held
invariant-loop-held l = l.more.items ≡ take l.held-index l.way
