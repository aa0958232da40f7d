use Rattle.std.proofs.Common.{ℕ, ◌<◌, arith}
use Rattle.std.specs.Prelude.{IsFalse, nat_le}
use Rattle.std.proofs.lemmas.Bool.Decides.{nat_tests}
use Rattle.ds_table.proofs.Columns.{nothing_due}
use Rattle.ds_table.proofs.block.Block.may_change.Goals as goal

above_floor : (floor due : ℕ) → IsFalse (nat_le due floor) → floor < due
above_floor floor due f = grind (arith, nat_tests)

pub returns-in-Trim : goal.returns-in-Trim
returns-in-Trim c f =
    let b = c.self.inside in
    rw (c.in-Trim.is, ← c.self.view_is) (nothing_due c.in-Trim.floor b.due (above_floor c.in-Trim.floor b.due f) b.rows b.froms.items b.tos.items c.self.invariant.not_due)
