use Rattle.std.proofs.Common.{Ok, refl, sym, ap}
use Rattle.json.specs.Reads.{token_of}
use Rattle.serde_json.specs.Data.{null, boolean, string}
use Rattle.ds_base.specs.declared.value.Value.TheVariants as value
use Rattle.ds_json_reading.specs.Values.{value_of}
use Rattle.ds_line_reading.specs.Parts.{data_of}
use Rattle.ds_line_reading.proofs.PartLaws.{number_if}
use Rattle.ds_line_reading.proofs.values.scalar.Goals as goal

pub returns-in-Null : goal.returns-in-Null
returns-in-Null c = (null, ap (λ t. data_of (token_of t)) c.in-Null.is, refl)

pub returns-in-Bool : goal.returns-in-Bool
returns-in-Bool c = (boolean c.in-Bool.b, ap (λ t. data_of (token_of t)) c.in-Bool.is, refl)

pub returns-in-Number : goal.returns-in-Number
returns-in-Number c = number_if value_of (token_of c.args.token) c.in-Number.text.now c.integer.result (ap token_of c.in-Number.is) c.integer.ensures

pub returns-in-Some : goal.returns-in-Some
returns-in-Some c = (string c.in-String.text.now, ap (λ t. data_of (token_of t)) c.in-String.is, ap (λ n. Ok (value.Str n)) (sym c.in-Some.ensures))
