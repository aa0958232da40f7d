use Rattle.std.proofs.Common.{◌≤◌, sym, subst}
use Rattle.ds_table.specs.declared.change.Change.TheVariants.{Undo}
use Rattle.ds_table.specs.Blocks.{Tabled, joined}
use Rattle.ds_table.proofs.Lives.{undo_ordered, undo_all_given}
use Rattle.ds_table.proofs.Bytes.{changed_of_bytes}
use Rattle.ds_table.proofs.Due.{undone_later}
use Rattle.ds_table.proofs.table.Table.undo.Goals as goal

pub invariant_of-self : goal.invariant_of-self
invariant_of-self c =
    let vs = joined c.self.inside.blocks.items in
    let inv = c.self.invariant in
    let h : c.self.inside.last ≤ c.args.stamp = subst (λ (t : Tabled). t.last ≤ c.args.stamp) (sym c.self.view_is) c.requires.not_before in
    record {
      ordered = rw c.change_all.ensures.changed (undo_ordered c.args.stamp c.self.inside.last vs h inv.given inv.ordered);
      of_bytes = rw c.change_all.ensures.changed (changed_of_bytes (Undo c.args.stamp) vs inv.of_bytes);
      given = rw c.change_all.ensures.changed (undo_all_given c.args.stamp c.self.inside.last vs h inv.given);
      below_never = c.requires.a_stamp;
      spaced = c.change_all.ensures.spaced;
      filled = c.change_all.ensures.filled;
      counted = c.change_all.ensures.count;
      not_due = rw c.change_all.ensures.changed (undone_later c.self.inside.due c.args.stamp vs inv.due_within inv.not_due);
      due_within = inv.due_within;
    }
