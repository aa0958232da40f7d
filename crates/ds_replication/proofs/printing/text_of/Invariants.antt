use Rattle.std.proofs.Common.{◌≡◌, ◌++◌, drop, map}
use Rattle.ds_replication.specs.Printing.{holding_lines}
use Rattle.ds_replication.proofs.Printed.{shown}
use Rattle.ds_replication.proofs.printing.text_of.Given as goal

-- the lines so far, and those of what is left
abbrev pub invariant-loop-entry : goal.invariant-loop-entry
invariant-loop-entry l = l.text.items ++ holding_lines (map shown (drop l.entry-index l.entry-items)) ≡ holding_lines (map shown l.entry-items)
