use Rattle.std.proofs.Common.{◌≡◌, ◌+◌, ◌<◌, ◌≤◌, get_or, sym, ◌∙◌, arith, refl}
use Rattle.ds_base.specs.Limits.{greatest_id}
use Rattle.ds_told.proofs.Joining.{end-more, end-none, within-more}
use Rattle.ds_told.proofs.ranges.end_from.Goals as goal

near : (c : goal.Else-is_apart) → c.loop-range.end + (get_or c.args.drawn.now c.loop-range.range-index (0, 0)).1 ≤ greatest_id
near c =
    within-more c.loop-range.end greatest_id (get_or c.args.drawn.now c.loop-range.range-index (0, 0)) c.loop-range.invariant.0
    (c.requires.within c.loop-range.range-index (0, 0) c.loop-range-test.true) (sym c.is_apart.ensures ∙ c.if-is_apart.false)

pub loop-range-preserved : goal.loop-range-preserved
loop-range-preserved c = (
  near c,
  end-more c.args.first c.loop-range.end c.loop-range.range-index c.args.drawn.now (get_or c.args.drawn.now c.loop-range.range-index (0, 0))
      c.loop-range-test.true refl c.loop-range.invariant.1 (sym c.is_apart.ensures ∙ c.if-is_apart.false),
)

pub returns-then-is_apart : goal.returns-then-is_apart
returns-then-is_apart c =
    sym (end-none c.args.first c.loop-range.end c.loop-range.range-index c.args.drawn.now (get_or c.args.drawn.now c.loop-range.range-index (0, 0))
    c.loop-range-test.true refl c.loop-range.invariant.1 (sym c.is_apart.ensures ∙ c.if-is_apart.true))

pub overflow_add-end : goal.overflow_add-end
overflow_add-end c = let within = near c in omega (arith, within)
