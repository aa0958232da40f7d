use Rattle.ds_indexdef.proofs.WriteLaws.{def-written}
use Rattle.ds_indexdef.proofs.write.write_def.Goals as goal

pub returns : goal.returns
returns c = def-written c.write_columns.result c.args.text.now c.write_line.new.text c.write_choice.new.text c.write_line-2.new.text c.write_columns.new.text
    c.bytes.result.now c.as_slice.result.now c.args.def.now c.bytes.ensures.value c.as_slice.ensures
    c.in_ok-write_line.ensures c.in_ok-write_choice.ensures c.in_ok-write_line-2.ensures c.write_columns.ensures
