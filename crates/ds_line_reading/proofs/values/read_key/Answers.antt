use Rattle.std.proofs.Common.{ap}
use Rattle.ds_base.specs.declared.value.Value.TheVariants as value
use Rattle.ds_json_reading.specs.Reading.{read_as}
use Rattle.ds_line_reading.proofs.values.read_key.Goals as goal

pub returns-in-Some : goal.returns-in-Some
returns-in-Some c =
    let one = c.in-Some.ensures in
    (one.0, one.1, ap (read_as value.Key) one.2, one.3)
