use Rattle.std.proofs.Common.{◌≡◌, true, false, sym}
use Rattle.ds_json_reading.proofs.KeysLemmas.{elem_of-not_two}
use Rattle.ds_json_reading.proofs.keys.read_parts.Goals as goal

pub returns-in-None : goal.returns-in-None
returns-in-None c = sym (elem_of-not_two c.args.parts.items (λ h. let k : false ≡ true = c.in-None.ensures.two.1 h in cc))
