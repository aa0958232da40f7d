use Rattle.std.proofs.Common.{rules, arith}
use Rattle.ds_draw.proofs.Steps.{draws}
use Rattle.ds_draw.proofs.word.Word.try_draw.Goals as goal

pub compare_exchange-found-requires : goal.compare_exchange-found-requires
compare_exchange-found-requires c = (search rules, omega arith, draws _ _ _ _ _ _ (omega arith) (omega arith) (omega arith))
