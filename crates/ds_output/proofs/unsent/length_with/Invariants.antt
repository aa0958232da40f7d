-- The lengths so far.
use Rattle.std.proofs.Common.{◌≡◌, ◌+◌, ◌-◌, ◌^◌, length, take}
use Rattle.std.specs.Prelude.{min}
use Rattle.ds_output.proofs.TextLaws.{all_bytes}
use Rattle.ds_output.proofs.unsent.length_with.Given as goal

abbrev pub invariant-loop-text : goal.invariant-loop-text
invariant-loop-text l = l.total ≡ min (l.first + length (all_bytes (take l.text-index l.texts))) (2 ^ 64 - 1)
