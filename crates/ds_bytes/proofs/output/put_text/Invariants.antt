-- Where what is left is put escaped, all is.
use Rattle.std.proofs.Common.{◌≡◌, length}
use Rattle.ds_lanes.specs.Kernels.{first_zero}
use Rattle.ds_bytes.specs.Encoding.{escaped}
use Rattle.ds_bytes.specs.Writing.{Puts}
use Rattle.ds_bytes.proofs.output.put_text.Given as goal

abbrev pub invariant-loop-run : goal.invariant-loop-run
invariant-loop-run l = record {
  first : l.run ≡ first_zero l.rest;
  whole : (u : _) → Puts (escaped l.rest) l.output u → Puts (escaped l.text) l.initial.output u;
}

abbrev pub decreases-loop-run : goal.decreases-loop-run
decreases-loop-run l = length l.rest
