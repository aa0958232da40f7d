-- The ways so far, each with each value.
use Rattle.std.proofs.Common.{◌≡◌, take}
use Rattle.std.specs.Prelude.{flat_map}
use Rattle.ds_plain.specs.Ways.{with_each}
use Rattle.ds_plain.proofs.ways.with_values.Given as goal

abbrev pub invariant-loop-way : goal.invariant-loop-way
invariant-loop-way l = l.more.items ≡ flat_map (with_each l.values) (take l.way-index l.ways)
