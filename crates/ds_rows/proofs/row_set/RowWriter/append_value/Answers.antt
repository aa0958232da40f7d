use Rattle.ds_bytes.specs.Encoding.{encoding}
use Rattle.ds_rows.proofs.Pieces.{on_ok, put_behind}
use Rattle.ds_rows.proofs.row_set.RowWriter.append_value.Goals as goal

pub returns-clause-put : goal.returns-clause-put
returns-clause-put c = on_ok c.encode.result
    (put_behind c.self.inside.bytes.bytes (encoding c.args.descending c.args.value.now) c.encode.new.onto.bytes c.self.inside.spans.items
    c.self.inside.begun c.args.self.now c.self.invariant.0 c.self.invariant.1 c.self.view_is) c.encode.ensures.ok
