use Rattle.std.proofs.Common.{◌≡◌, Some, None, arith}
use Rattle.json.specs.Json.{read_key}
use Rattle.ds_line_reading.proofs.ValueLaws.{tagged_read}
use Rattle.ds_line_reading.proofs.values.read_tagged.Goals as goal

pub returns : goal.returns
returns c =
    let name = c.in-Ok-Some.name.now in
    let key : read_key c.args.reader.now ≡ Some (Some name, c.next_key.new.self) = grind arith in
    let over : read_key c.read_tagged_value.new.reader ≡ Some (None, c.next_key-2.new.self) = grind arith in
    tagged_read c.args.depth c.args.reader.now c.next_key.new.self c.read_tagged_value.new.reader c.next_key-2.new.self name c.in_ok-value.value (omega arith) key c.in_ok-value.ensures over
