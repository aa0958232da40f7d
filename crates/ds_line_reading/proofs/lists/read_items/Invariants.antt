use Rattle.std.proofs.Common.{length}
use Rattle.ds_line_reading.proofs.PartLaws.{ListSoFar}
use Rattle.ds_line_reading.proofs.lists.read_items.Given as goal

abbrev pub invariant-items : goal.invariant-items
invariant-items g l = ListSoFar l.depth (g.F.LineForm.reads l.form) l.initial.reader l.reader l.found.items

abbrev pub decreases-items : goal.decreases-items
decreases-items g l = length l.reader
