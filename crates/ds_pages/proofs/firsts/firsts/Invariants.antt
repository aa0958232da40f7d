-- Of each mark so far the first row, and the marks of these rows.
use Rattle.ds_pages.proofs.FirstLaws.{Kept}
use Rattle.ds_pages.proofs.firsts.firsts.Given as goal

abbrev pub invariant-loop-row : goal.invariant-loop-row
invariant-loop-row l = Kept l.slots l.marks.keys l.kept.items l.yielded
