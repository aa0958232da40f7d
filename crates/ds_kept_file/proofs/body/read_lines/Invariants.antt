-- The lines up to the rest were read, and any commits of the rest that may follow are the text's.
use Rattle.std.proofs.Common.{length}
use Rattle.ds_kept_file.specs.Readings.{kept_in}
use Rattle.ds_kept_file.proofs.Walks.{IsWalk}
use Rattle.ds_kept_file.proofs.body.read_lines.Given as goal

abbrev pub invariant-lines : goal.invariant-lines
invariant-lines l = record { walk : IsWalk (kept_in l.fn.book) l.lines (kept_in l.book) l.rest }

abbrev pub decreases-lines : goal.decreases-lines
decreases-lines l = length l.rest
