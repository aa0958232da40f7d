use Rattle.ds_line_reading.proofs.KeyLaws.{key_if}
use Rattle.ds_line_reading.proofs.keys.LineKeyFormLineForm.read.Goals as goal

pub returns : goal.returns
returns c = key_if c.args.depth c.args.reader.now c.read_list.new.reader c.in_ok-path.path c.lawful.result c.in_ok-path.ensures c.lawful.ensures
