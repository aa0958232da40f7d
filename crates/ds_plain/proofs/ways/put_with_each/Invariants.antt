-- The way with each of the values so far.
use Rattle.std.proofs.Common.{◌≡◌, ◌++◌, take}
use Rattle.ds_plain.specs.Ways.{with_each}
use Rattle.ds_plain.proofs.ways.put_with_each.Given as goal

abbrev pub invariant-loop-value : goal.invariant-loop-value
invariant-loop-value l = l.more.items ≡ l.initial.more.items ++ with_each (take l.value-index l.values) l.way
