use Rattle.std.proofs.Common.{◌≡◌, ◌∷◌, arith}
use Rattle.json.specs.Reads.{token_of}
use Rattle.ds_json_reading.specs.Values.{value_of}
use Rattle.ds_line_reading.proofs.PartLaws.{scalar_if}
use Rattle.ds_line_reading.proofs.values.LineValueFormLineForm.read.Goals as goal

pub returns-in_default : goal.returns-in_default
returns-in_default c =
    let t = token_of c.in_ok-token.token in
    let first : c.args.reader.now ≡ t ∷ c.next.new.self = grind arith in
    scalar_if c.args.depth value_of c.args.reader.now c.next.new.self t c.scalar.result first c.scalar.ensures
