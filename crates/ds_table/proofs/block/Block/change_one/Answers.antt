use Rattle.std.proofs.Common.{get_or, refl, ◌∙◌, add-one}
use Rattle.ds_table.specs.Versions.{ended_at}
use Rattle.ds_table.proofs.Spacing.{set_parts}
use Rattle.ds_table.proofs.block.Block.change_one.Goals as goal

pub returns-in-Some : goal.returns-in-Some
returns-in-Some c d =
    let v = get_or c.args.self.now c.args.i d in
    let e = c.in-Some.ensures d in
    c.close.ensures d ∙ (set_parts c.args.self.now c.args.i (ended_at c.in-Some.to v) c.requires ∙ rw (add-one, ← e) refl)

pub returns-in-None : goal.returns-in-None
returns-in-None c d =
    let e = c.in-None.ensures d in
    c.take_out.ensures ∙ rw (← e) refl
