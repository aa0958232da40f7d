use Rattle.std.proofs.Common.{◌≡◌, ◌∷◌, refl, arith}
use Rattle.std.specs.Option.{ok_or}
use Rattle.json.specs.Token as token
use Rattle.serde_json.specs.Data.{Data}
use Rattle.ds_base.specs.declared.value.Value.TheVariants as value
use Rattle.ds_json_reading.specs.declared.refusal.Refusal.TheVariants as refusal
use Rattle.ds_json_reading.specs.Reading.{read_as, integer_of}
use Rattle.ds_line_reading.proofs.PartLaws.{number_if, scalar_if}
use Rattle.ds_line_reading.proofs.values.read_date.Goals as goal

pub returns-in-Some-Number : goal.returns-in-Some-Number
returns-in-Some-Number c = λ depth.
    let s = c.in-Some-Number.text.now in
    let first : c.args.reader.now ≡ token.number s ∷ c.next.new.self = grind arith in
    let form = λ (d : Data). read_as value.Date (ok_or (integer_of d) refusal.Value) in
    scalar_if depth form c.args.reader.now c.next.new.self (token.number s) c.date.result first (number_if form (token.number s) s c.date.result refl c.date.ensures)
