use Rattle.ds_member_reading.proofs.ArraysLemmas.{filter_of-not_three}
use Rattle.ds_member_reading.proofs.filters.read_parts.Goals as goal

pub returns-in-None : goal.returns-in-None
returns-in-None c = λ known. filter_of-not_three c.args.parts.items c.in-None.ensures
