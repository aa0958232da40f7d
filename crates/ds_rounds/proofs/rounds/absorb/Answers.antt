use Rattle.std.proofs.Common.{◌≡◌, ℕ, List, true, false, ◌++◌, ◌-◌, ◌+◌, ◌<◌, ◌∙◌, ◌⊎◌, Some, ap, arith, inl, inr, length, length-drop}
use Rattle.std.proofs.Common.{subst, sym, take}
use Rattle.std.specs.Prelude.{◌==◌, ◌&&◌, position}
use Rattle.ds_rounds.specs.Lines.{is_blank}
use Rattle.ds_rounds.specs.Drafts.{Leaves, Stands, number_in}
use Rattle.ds_rounds.proofs.AbsorbLaws.{Broke, IsExtended, at_answer, broke_at, number_same, bytes_over, first_round, next_line}
use Rattle.ds_rounds.proofs.LineLaws.{position-newline, position-no_newline}
use Rattle.ds_rounds.proofs.rounds.absorb.Goals as goal

pub returns-then-branch-clause-rounds : goal.returns-then-branch-clause-rounds
returns-then-branch-clause-rounds c = λ rounds stands.
    let at = c.in-Some.end in
    let extended : IsExtended c.lines.draft c.extend.new.self (take at c.bytes-in-Some.result.now) = record {
      first = c.extend.ensures.first;
      lines = c.extend.ensures.lines;
      kept = c.in_ok-extend.ensures.kept;
      blank = c.in_ok-extend.ensures.blank;
    } in
    let found : position (λ b. b == 10) c.lines.piece ≡ Some at = ap (position (λ b. b == 10)) (sym c.bytes.ensures) ∙ sym c.in-Some.ensures.at in
    let broke : Broke rounds c.extend.new.self c.skip.new.self =
    broke_at rounds c.lines.draft c.extend.new.self c.lines.number c.lines.piece (take at c.bytes-in-Some.result.now) c.skip.new.self at
    (c.lines.invariant.stands rounds stands) found (ap (take at) c.bytes-in-Some.ensures) extended c.skip.ensures
    in
    first_round rounds c.extend.new.self c.end_line.new.self c.lines.number c.skip.new.self broke (c.lines.invariant.counted ∙ number_same c.lines.draft c.extend.new.self c.extend.ensures.first c.extend.ensures.lines)
    (at_answer c.in_ok-end_line.field-0 true c.extend.new.self c.end_line.new.self c.if-branch.true c.in_ok-end_line.ensures.rounds)

-- some bytes are gone, however many were gone before
shorter : {A : Type 0} (now first : List ℕ) (next : ℕ) → (length now < length first) ⊎ ((now ≡ first) × A) → next < length now → next < length first
shorter now first next (inl before) less = omega arith
shorter now first next (inr same) less = omega (arith, ap length same.0)

pub lines-preserved : goal.lines-preserved
lines-preserved c =
    let at = c.in-Some.end in
    let extended : IsExtended c.lines.draft c.extend.new.self (take at c.bytes-in-Some.result.now) = record {
      first = c.extend.ensures.first;
      lines = c.extend.ensures.lines;
      kept = c.in_ok-extend.ensures.kept;
      blank = c.in_ok-extend.ensures.blank;
    } in
    let found : position (λ b. b == 10) c.lines.piece ≡ Some at = ap (position (λ b. b == 10)) (sym c.bytes.ensures) ∙ sym c.in-Some.ensures.at in
    let leaves : Leaves false c.extend.new.self c.end_line.new.self = subst (λ b. Leaves b c.extend.new.self c.end_line.new.self) c.if-branch.false c.in_ok-end_line.ensures.leaves in
    let counted : c.lines.number ≡ number_in c.extend.new.self = c.lines.invariant.counted ∙ number_same c.lines.draft c.extend.new.self c.extend.ensures.first c.extend.ensures.lines in
    let broken = position-newline c.lines.piece at found in
    let rest : length c.skip.new.self ≡ length c.lines.piece - (at + 1) = ap length c.skip.ensures ∙ length-drop (at + 1) c.lines.piece in
    record {
      open_still = leaves.0;
      counted = omega (arith, counted, leaves.1);
      first = omega (arith, leaves.2, c.lines.invariant.first, c.extend.ensures.first);
      risen = omega (arith, c.lines.invariant.risen);
      passed = omega (arith, rest, broken.within, c.lines.invariant.passed);
      stands = λ rounds before.
          let broke : Broke rounds c.extend.new.self c.skip.new.self =
          broke_at rounds c.lines.draft c.extend.new.self c.lines.number c.lines.piece (take at c.bytes-in-Some.result.now) c.skip.new.self at
          (c.lines.invariant.stands rounds before) found (ap (take at) c.bytes-in-Some.ensures) extended c.skip.ensures
          in
          next_line rounds c.extend.new.self c.end_line.new.self c.lines.number c.skip.new.self broke counted leaves
          (at_answer c.in_ok-end_line.field-0 false c.extend.new.self c.end_line.new.self c.if-branch.false c.in_ok-end_line.ensures.rounds);
      room = inl (shorter c.lines.piece c.args.piece.now (length c.skip.new.self) c.lines.invariant.room (omega (arith, rest, broken.within)));
    }

pub returns-clause-rounds : goal.returns-clause-rounds
returns-clause-rounds c = λ rounds stands.
    let extended : IsExtended c.lines.draft c.extend-2.new.self c.lines.piece = record {
      first = c.extend-2.ensures.first;
      lines = c.extend-2.ensures.lines;
      kept = c.in_ok-extend-2.ensures.kept ∙ ap (λ bs. c.lines.draft.kept ++ take (2097153 - length c.lines.draft.kept) bs) c.bytes-2.ensures;
      blank = c.in_ok-extend-2.ensures.blank ∙ ap (λ bs. c.lines.draft.blank && is_blank bs) c.bytes-2.ensures;
    } in
    subst (Stands rounds c.extend-2.new.self c.lines.number) (sym c.clear.ensures) (bytes_over rounds c.lines.draft c.extend-2.new.self c.lines.number c.lines.piece (c.lines.invariant.stands rounds stands) (position-no_newline c.lines.piece (ap (position (λ b. b == 10)) (sym c.bytes.ensures) ∙ sym c.newline.ensures.at ∙ c.in_default.is)) extended)
