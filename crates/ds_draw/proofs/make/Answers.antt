use Rattle.std.proofs.Common.{rules, arith}
use Rattle.ds_draw.proofs.Steps.{splits}
use Rattle.ds_draw.proofs.make.Goals as goal

pub split_seat-inner-requires : goal.split_seat-inner-requires
split_seat-inner-requires c =
    let i = c.loop.invariant in
    (search rules, search rules, splits _ _ _ (omega arith))
