use Rattle.std.proofs.Common.{◌≡◌, true, false}
use Rattle.ds_json_reading.proofs.ValuesLemmas.{property_values_of-not_one}
use Rattle.ds_json_reading.proofs.values.read_object_values.Goals as goal

pub returns-in-None : goal.returns-in-None
returns-in-None c = λ known. property_values_of-not_one c.args.members.entries (λ h. let k : false ≡ true = c.in-None.ensures.one.1 h in cc)
