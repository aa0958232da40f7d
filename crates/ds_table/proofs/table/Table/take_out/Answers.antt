use Rattle.std.proofs.Common.{sym, ◌∙◌}
use Rattle.ds_table.specs.declared.change.Change.TheVariants.{Trim}
use Rattle.ds_table.specs.Blocks.{joined}
use Rattle.ds_table.proofs.Lives.{trim_ordered, trim_all_given, trimmed_is}
use Rattle.ds_table.proofs.Due.{none_due}
use Rattle.ds_table.proofs.Bytes.{changed_of_bytes}
use Rattle.ds_table.proofs.table.Table.take_out.Goals as goal

pub invariant_of-self : goal.invariant_of-self
invariant_of-self c =
    let vs = joined c.self.inside.blocks.items in
    let inv = c.self.invariant in
    record {
      ordered = rw c.change_all-left.ensures.changed (trim_ordered c.args.floor c.self.inside.last vs inv.given inv.ordered);
      of_bytes = rw c.change_all-left.ensures.changed (changed_of_bytes (Trim c.args.floor) vs inv.of_bytes);
      given = rw c.change_all-left.ensures.changed (trim_all_given c.args.floor c.self.inside.last vs inv.given);
      below_never = inv.below_never;
      spaced = c.change_all-left.ensures.spaced;
      filled = c.change_all-left.ensures.filled;
      counted = c.change_all-left.ensures.count;
      not_due = c.change_all-left.ensures.due;
      due_within = c.change_all-left.ensures.within;
    }

pub returns-clause-trimmed : goal.returns-clause-trimmed
returns-clause-trimmed c = rw (← c.self.view_is) (c.change_all-left.ensures.changed ∙ trimmed_is c.args.floor (joined c.self.inside.blocks.items))

pub returns-then-floor-self-clause-trimmed : goal.returns-then-floor-self-clause-trimmed
returns-then-floor-self-clause-trimmed c =
    let vs = joined c.self.inside.blocks.items in
    rw (← c.self.view_is) (sym (none_due c.args.floor c.self.inside.due c.if-floor-self.true vs c.self.invariant.not_due) ∙ trimmed_is c.args.floor vs)
