use Rattle.std.proofs.Common.{rules, arith}
use Rattle.ds_draw.proofs.Steps.{looks}
use Rattle.ds_draw.proofs.word.Word.look.Goals as goal

pub load-requires : goal.load-requires
load-requires c = (search rules, omega arith, looks _ _ _ _ 0 (omega arith))
