-- The text so far, escaped, stands before what is left.
use Rattle.std.proofs.Common.{◌≡◌, ◌++◌, length}
use Rattle.std.specs.Prelude.{flat_map}
use Rattle.ds_bytes.specs.Encoding.{directed, escaped_byte}
use Rattle.ds_bytes.proofs.input.read_bytes.Given as goal

abbrev pub invariant-runs : goal.invariant-runs
invariant-runs l = record {
  so_far : directed l.descending l.bytes ≡ flat_map escaped_byte l.text.items ++ directed l.descending l.rest;
  long : l.taken ≡ length (flat_map escaped_byte l.text.items);
}

abbrev pub decreases-runs : goal.decreases-runs
decreases-runs l = length l.rest
