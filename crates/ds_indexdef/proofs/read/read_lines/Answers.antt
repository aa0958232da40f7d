use Rattle.std.proofs.Common.{ap, sym, arith}
use Rattle.ds_indexdef.specs.Reading.{yaml_of}
use Rattle.ds_indexdef.proofs.ReadLaws.{left}
use Rattle.ds_indexdef.proofs.read.read_lines.Goals as goal

pub loop-rest-init : goal.loop-rest-init
unfolding yaml_of
loop-rest-init c = record { whole = ap (λ r. left c.args.text.now r 1) (sym c.new-progress.ensures); few = omega arith }
