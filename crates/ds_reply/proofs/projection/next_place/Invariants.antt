use Rattle.ds_reply.proofs.Selection.{Found}
use Rattle.ds_reply.proofs.projection.next_place.Given as goal

abbrev pub invariant-loop-i : goal.invariant-loop-i
invariant-loop-i l = Found l.names l.values l.later l.last l.i l.best l.count
