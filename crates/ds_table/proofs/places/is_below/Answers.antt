use Rattle.std.proofs.Common.{◌<◌, length, sym, arith}
use Rattle.ds_table.proofs.Alike.{not_below_start, below_longer, bytes_decide}
use Rattle.ds_table.proofs.places.is_below.Goals as goal

pub returns-then-alike-other : goal.returns-then-alike-other
returns-then-alike-other c =
    let p = c.common_prefix-alike in
    sym (not_below_start p.result c.args.row.now c.args.other.now p.ensures.same (omega (arith, c.if-alike-other.true)))

pub returns-then-alike-row : goal.returns-then-alike-row
returns-then-alike-row c =
    let p = c.common_prefix-alike in
    sym (below_longer p.result c.args.row.now c.args.other.now p.ensures.same (omega (arith, c.if-alike-row.true)) (omega (arith, c.if-alike-other.false)))

pub returns : goal.returns
returns c =
    let p = c.common_prefix-alike in
    let l : p.result < length c.args.row.now = omega (arith, c.if-alike-row.false) in
    let k : p.result < length c.args.other.now = omega (arith, c.if-alike-other.false) in
    bytes_decide p.result c.args.row.now c.args.other.now p.ensures.same l k (p.ensures.differ l k)
