-- The place is left in the texts that are left.
use Rattle.std.proofs.Common.{◌≡◌, drop}
use Rattle.std.specs.Prelude.{slice_get}
use Rattle.ds_output.proofs.TextLaws.{all_bytes}
use Rattle.ds_output.proofs.unsent.byte_in.Given as goal

abbrev pub invariant-loop-text : goal.invariant-loop-text
invariant-loop-text l = slice_get (all_bytes (drop l.text-index l.texts)) l.left ≡ slice_get (all_bytes l.texts) l.place
