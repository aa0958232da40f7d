use Rattle.std.proofs.Common.{◌≡◌, ◌+◌, ◌-◌, ◌<◌, false, length, get_or, sym, ap, ◌∙◌, arith, eq-eqb}
use Rattle.ds_tokens.specs.Tokens.{is_quote}
use Rattle.ds_tokens.proofs.ClosingLemmas.{closing-plain, closing-pair, closing-ends, closing-none, other_byte}
use Rattle.ds_tokens.proofs.lexer.strings.closing.Goals as goal
use Rattle.ds_tokens.proofs.lexer.strings.closing.Goals.{else-at-bytes-via-then-at-bytes+else-bytes-at-eq39}
use Rattle.ds_tokens.proofs.lexer.strings.closing.Goals.{else-at-bytes-via-else-at-bytes}

pub loop-at-preserved-then-bytes-at-ne39 : goal.loop-at-preserved-then-bytes-at-ne39
loop-at-preserved-then-bytes-at-ne39 c =
    let l = c.loop-at in
    (omega arith, sym (closing-plain c.args.bytes.now l.last l.at c.loop-at-test.true (other_byte _ c.if-bytes-at-ne39.true)) ∙ l.invariant.1, l.invariant.2, l.invariant.3, l.invariant.4)

pub loop-at-preserved : goal.loop-at-preserved
loop-at-preserved c =
    let l = c.loop-at in
    let e : l.at ≡ l.at + 1 - 1 = omega arith in (
      omega arith,
      sym (closing-pair c.args.bytes.now l.last l.at c.if-at-bytes.true (eq-eqb _ _ c.if-bytes-at-ne39.false) (eq-eqb _ _ c.if-bytes-at-eq39.true)) ∙ l.invariant.1,
      omega arith,
      omega arith,
      ap (λ k. get_or c.args.bytes.now k 0) (sym e) ∙ c.if-bytes-at-ne39.false,
    )

pub returns-else-at-bytes-clause-value : goal.returns-else-at-bytes-clause-value
returns-else-at-bytes-clause-value c =
    let l = c.loop-at in
    let none : l.at + 1 < length c.args.bytes.now → is_quote (get_or c.args.bytes.now (l.at + 1) 0) ≡ false = elim c.else-at-bytes.branch [
      | else-at-bytes-via-then-at-bytes+else-bytes-at-eq39 w ↦ λ _. other_byte _ w.if-bytes-at-eq39.false
      | else-at-bytes-via-else-at-bytes w ↦ λ within. absurd (omega (arith, w.if-at-bytes.false))
    ] in
    sym (closing-ends c.args.bytes.now l.last l.at c.loop-at-test.true (eq-eqb _ _ c.if-bytes-at-ne39.false) none) ∙ l.invariant.1

pub returns-clause-value : goal.returns-clause-value
returns-clause-value c =
    let l = c.loop-at in
    sym (closing-none c.args.bytes.now l.last l.at c.loop-at-test.false) ∙ l.invariant.1
