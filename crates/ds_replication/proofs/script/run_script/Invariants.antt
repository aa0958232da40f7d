use Rattle.std.proofs.Common.{◌≡◌, ◌+◌, ◌≤◌, length}
use Rattle.ds_replication.specs.Lines.{lines_of}
use Rattle.ds_replication.specs.Scripts.{run_lines, run_script}
use Rattle.ds_replication.proofs.script.run_script.Given as goal

abbrev pub decreases-loop-rest : goal.decreases-loop-rest
decreases-loop-rest l = length l.rest

-- what is left runs on as the whole, and each line took a byte at least
abbrev pub invariant-loop-rest : goal.invariant-loop-rest
invariant-loop-rest l =
    (run_lines l.number (lines_of l.rest) l.world ≡ run_script l.fn.members l.fn.text) × (l.number + length l.rest ≤ length l.fn.text + 1)
