use Rattle.std.proofs.Common.{◌≡◌, ◌≤◌, ◌+◌, length}
use Rattle.ds_indexdef.specs.Reading.{yaml_of}
use Rattle.ds_indexdef.proofs.ReadLaws.{left}
use Rattle.ds_indexdef.proofs.read.read_lines.Given as goal

abbrev pub invariant-loop-rest : goal.invariant-loop-rest
invariant-loop-rest l = record { whole : yaml_of l.fn.text ≡ left l.rest l.progress l.n; few : l.n + length l.rest ≤ length l.fn.text + 1 }

abbrev pub decreases-loop-rest : goal.decreases-loop-rest
decreases-loop-rest l = length l.rest
