use Rattle.std.proofs.Common.{refl}
use Rattle.std.specs.Option.{ok_or}
use Rattle.serde_json.specs.Data.{string}
use Rattle.serde_json.specs.Find.{as_str}
use Rattle.ds_base.specs.declared.value.Value.TheVariants as value
use Rattle.ds_json_reading.specs.declared.refusal.Refusal.TheVariants as refusal
use Rattle.ds_json_reading.specs.Reading.{read_as}
use Rattle.ds_line_reading.proofs.PartLaws.{scalar_read}
use Rattle.ds_line_reading.proofs.values.read_long_text.Goals as goal

pub returns-in-Some : goal.returns-in-Some
returns-in-Some c = λ depth.
    scalar_read depth (λ d. read_as value.Text (ok_or (as_str d) refusal.Value)) c.args.reader.now (string c.in-Some.text) (value.Text c.in-Some.text) c.read_text.new.reader c.in-Some.ensures refl
