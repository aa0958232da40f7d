use Rattle.std.proofs.Common.{◌≡◌, ◌+◌, get_or, length, ap, sym, ◌∙◌, arith, rules}
use Rattle.std.specs.List.{range_with_len}
use Rattle.std.proofs.lemmas.List.{take_all}
use Rattle.std.proofs.lemmas.List.FromFn.{get_or-range_with_len, length-range_with_len}
use Rattle.ds_told.proofs.RangeOrder.{take-range}
use Rattle.ds_told.proofs.ranges.is_range.Goals as goal

pub returns-then-numbers-last : goal.returns-then-numbers-last
returns-then-numbers-last c =
    (λ none. cc, λ same. absurd (c.if-numbers-last.true (ap length same ∙ length-range_with_len 1 c.args.last)))

pub returns-then-number-i : goal.returns-then-number-i
returns-then-number-i c = (
  λ none. cc,
  λ same.
      let is : get_or c.args.numbers.now c.loop-i.i 0 ≡ 1 + c.loop-i.i =
      ap (λ ns. get_or ns c.loop-i.i 0) same ∙ get_or-range_with_len 1 c.args.last c.loop-i.i 0 (omega (arith, c.loop-i-test.true, c.if-numbers-last.false)) in
      absurd (omega (arith, is, c.if-number-i.true)),
)

pub loop-i-preserved : goal.loop-i-preserved
loop-i-preserved c =
    take-range c.args.numbers.now c.loop-i.i c.loop-i-test.true c.loop-i.invariant c.if-number-i.false
