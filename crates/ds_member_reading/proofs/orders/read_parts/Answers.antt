use Rattle.std.proofs.Common.{◌≡◌, true, false}
use Rattle.ds_member_reading.proofs.ArraysLemmas.{order_of-not_two}
use Rattle.ds_member_reading.proofs.orders.read_parts.Goals as goal

pub returns-in-None : goal.returns-in-None
returns-in-None c = λ known. order_of-not_two c.args.parts.items (λ h. let k : false ≡ true = c.in-None.ensures.two.1 h in cc)
