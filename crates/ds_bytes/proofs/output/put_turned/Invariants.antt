-- Where what is left is put, all is.
use Rattle.std.proofs.Common.{◌≡◌, true, length}
use Rattle.ds_bytes.specs.Writing.{Puts}
use Rattle.ds_bytes.proofs.output.put_turned.Given as goal

abbrev pub invariant-loop-rest : goal.invariant-loop-rest
invariant-loop-rest l = record {
  turned : l.output.descending ≡ true;
  whole : (u : _) → Puts l.rest l.output u → Puts l.bytes l.initial.output u;
}

abbrev pub decreases-loop-rest : goal.decreases-loop-rest
decreases-loop-rest l = length l.rest
