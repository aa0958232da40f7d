use Rattle.std.proofs.Common.{◌≡◌, ◌++◌, List, [], length}
use Rattle.ds_draw.specs.Draws.{SeatView}
use Rattle.ds_draw.proofs.Gathered.{Gathered}
use Rattle.ds_draw.proofs.word.Word.close.Given as goal

abbrev pub invariant-loop-seat : goal.invariant-loop-seat
invariant-loop-seat l = (taken : List SeatView) × (l.seats ++ taken ≡ l.fn.seats) × Gathered taken l.all.me.0 × (l.all.me.1 ≡ []) × (l.all.table_id ≡ l.self-inside.table.shared.table_id)

abbrev pub decreases-loop-seat : goal.decreases-loop-seat
decreases-loop-seat l = length l.seats
