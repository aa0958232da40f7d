use Rattle.std.proofs.Common.{◌≡◌, ◌++◌, take, drop, true}
use Rattle.ds_indexdef.specs.Lines.{before_comment}
use Rattle.ds_indexdef.proofs.lines.before_comment.Given as goal

abbrev pub invariant-loop-i : goal.invariant-loop-i
invariant-loop-i l = before_comment true l.line ≡ take l.i l.line ++ before_comment l.fresh (drop l.i l.line)
