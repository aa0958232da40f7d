use Rattle.std.proofs.Common.{length, ap, ◌∙◌, arith}
use Rattle.std.proofs.lemmas.List.{get_or_read}
use Rattle.ds_table.proofs.rows.Rows.row.Goals as goal

pub returns : goal.returns
returns c d =
    let b = c.self.inside in
    rw (← c.self.view_is) (c.bytes.ensures ∙ get_or_read b.rows.items c.args.i c.index.result.now (omega (arith, c.requires, ap length c.self.view_is)) c.index.ensures d)
