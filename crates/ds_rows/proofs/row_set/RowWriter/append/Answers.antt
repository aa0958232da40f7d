use Rattle.ds_rows.proofs.Pieces.{on_ok, put_behind}
use Rattle.ds_rows.proofs.row_set.RowWriter.append.Goals as goal

pub returns : goal.returns
returns c = on_ok c.append.result
    (put_behind c.self.inside.bytes.bytes c.args.piece.now c.append.new.self.bytes c.self.inside.spans.items c.self.inside.begun
    c.args.self.now
    c.self.invariant.0 c.self.invariant.1 c.self.view_is) c.append.ensures.ok
