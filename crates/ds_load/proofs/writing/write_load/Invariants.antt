-- The lines of the items so far are written.
use Rattle.std.proofs.Common.{◌≡◌}
use Rattle.std.specs.List.{range_with_len}
use Rattle.ds_load.specs.Input.{puts_text}
use Rattle.ds_load.proofs.writing.write_load.Given as goal

abbrev pub invariant-loop-i : goal.invariant-loop-i
invariant-loop-i l = l.text.bytes ≡ puts_text (range_with_len 0 l.i)
