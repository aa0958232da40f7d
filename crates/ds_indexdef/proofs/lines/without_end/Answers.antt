use Rattle.std.proofs.Common.{arith, sym, ◌∙◌}
use Rattle.ds_indexdef.specs.Lines.{is_space}
use Rattle.ds_indexdef.proofs.LineLaws.{last_dropped, last_kept}
use Rattle.ds_indexdef.proofs.lines.without_end.Goals as goal

pub loop-left-preserved : goal.loop-left-preserved
loop-left-preserved c = c.loop-left.invariant ∙ last_dropped is_space c.loop-left.left.now (omega (arith, c.in-len1-up.len_at_least)) (sym c.is_space.ensures ∙ c.if-not-is_space.false)

pub returns-then-not-is_space : goal.returns-then-not-is_space
returns-then-not-is_space c = sym (c.loop-left.invariant ∙ last_kept is_space c.loop-left.left.now (omega (arith, c.in-len1-up.len_at_least)) (sym c.is_space.ensures ∙ c.if-not-is_space.true))
