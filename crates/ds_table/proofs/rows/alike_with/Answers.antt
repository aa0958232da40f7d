use Rattle.std.proofs.Common.{take, ap, sym, ◌∙◌, arith}
use Rattle.std.proofs.lemmas.List.{take-take}
use Rattle.ds_table.proofs.rows.alike_with.Goals as goal

pub returns-else-alike-most-clause-same : goal.returns-else-alike-most-clause-same
returns-else-alike-most-clause-same c =
    let a = c.args.row.now in
    let b = c.args.other.now in
    let n = c.common_prefix-alike.result in
    let m = c.args.most in
    sym (take-take m n a (omega (arith, c.if-alike-most.false))) ∙ (ap (take m) c.common_prefix-alike.ensures.same ∙ take-take m n b (omega (arith, c.if-alike-most.false)))
