use Rattle.std.proofs.Common.{◌≡◌, true, false, [], get_or, arith}
use Rattle.std.proofs.lemmas.List.{get_or_read, drop_all}
use Rattle.ds_table.specs.Versions.{RowVersion}
use Rattle.ds_table.specs.Places.{comes_before}
use Rattle.ds_table.proofs.Placing.{blocks_before, blocks_after}
use Rattle.ds_table.proofs.places.is_begun.Goals as goal

pub returns-then-i-blocks-clause-before : goal.returns-then-i-blocks-clause-before
returns-then-i-blocks-clause-before c t =
    let bs = c.args.blocks.now in
    let d : RowVersion = record { row = []; from = 0; to = 0 } in
    let u : comes_before c.args.row.now false (get_or (get_or bs c.args.i []) 0 d) ≡ true = rw (← get_or_read bs c.args.i c.index-blocks-i.result c.if-i-blocks.true c.index-blocks-i.is [], ← c.row.ensures d, ← c.is_before_row.ensures) t in
    blocks_before c.args.row.now false bs c.args.i d c.requires.ordered c.requires.filled c.if-i-blocks.true u

pub returns-then-i-blocks-clause-begun : goal.returns-then-i-blocks-clause-begun
returns-then-i-blocks-clause-begun c t d =
    let bs = c.args.blocks.now in
    rw (← get_or_read bs c.args.i c.index-blocks-i.result c.if-i-blocks.true c.index-blocks-i.is [], ← c.row.ensures d, ← c.is_before_row.ensures) t

pub returns-then-i-blocks-clause-after : goal.returns-then-i-blocks-clause-after
returns-then-i-blocks-clause-after c f =
    let bs = c.args.blocks.now in
    let d : RowVersion = record { row = []; from = 0; to = 0 } in
    let u : comes_before c.args.row.now false (get_or (get_or bs c.args.i []) 0 d) ≡ false = rw (← get_or_read bs c.args.i c.index-blocks-i.result c.if-i-blocks.true c.index-blocks-i.is [], ← c.row.ensures d, ← c.is_before_row.ensures) f in
    blocks_after c.args.row.now false bs c.args.i d c.requires.ordered c.requires.filled c.if-i-blocks.true u

pub returns-clause-after : goal.returns-clause-after
returns-clause-after c f = rw (drop_all c.args.i c.args.blocks.now (omega (arith, c.if-i-blocks.false))) tt
