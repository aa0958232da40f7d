use Rattle.std.proofs.Common.{◌∙◌, ◌<◌, ap, arith, sym, length}
use Rattle.std.proofs.lemmas.Bool.{eqb-true, eqb-false}
use Rattle.ds_rounds.proofs.DraftLaws.{EndsLine-added, EndsLine-ended, EndsLine-skipped, IsAdded, Leaves-added, nothing}
use Rattle.ds_rounds.proofs.draft.Draft.end_line.Goals as goal

pub returns-then-is_empty-clause-rounds : goal.returns-then-is_empty-clause-rounds
returns-then-is_empty-clause-rounds c = λ line is_line.
    let none = nothing c.args.self.now.lines (ap length (sym c.drop_line.ensures.lines) ∙ eqb-true (length c.drop_line.new.self.lines) 0 (sym c.is_empty.ensures ∙ c.if-is_empty.true)) in
    let before = c.self-then-self.view_is in
    EndsLine-skipped c.args.self.now _ line is_line (sym (ap (λ d. d.blank) c.self.view_is) ∙ c.if-self.true) none
    (ap (λ d. d.lines) before ∙ c.drop_line.ensures.lines ∙ none) (ap (λ d. d.kept) before ∙ c.drop_line.ensures.kept) (ap (λ d. d.blank) before ∙ c.drop_line.ensures.blank)

pub returns-then-self-clause-rounds : goal.returns-then-self-clause-rounds
returns-then-self-clause-rounds c = λ line is_line.
    let some : 0 < length c.args.self.now.lines = omega (arith, ap length c.drop_line.ensures.lines, eqb-false (length c.drop_line.new.self.lines) 0 (sym c.is_empty.ensures ∙ c.if-is_empty.false)) in
    EndsLine-ended c.args.self.now c.drop_line.new.self line is_line (sym (ap (λ d. d.blank) c.self.view_is) ∙ c.if-self.true) some c.drop_line.ensures.first c.drop_line.ensures.lines

pub returns-clause-leaves : goal.returns-clause-leaves
returns-clause-leaves c =
    let added : IsAdded c.args.self.now c.end_chunk.new.self = record {
      first = c.end_chunk.ensures.first ∙ c.add_line.ensures.first;
      lines = c.end_chunk.ensures.lines ∙ c.in_ok-add_line.ensures.lines;
      kept = c.end_chunk.ensures.kept ∙ c.in_ok-add_line.ensures.kept;
      blank = c.end_chunk.ensures.blank ∙ c.in_ok-add_line.ensures.blank;
    } in
    Leaves-added c.args.self.now c.end_chunk.new.self c.requires.open added c.is_full.result c.is_full.ensures

pub returns-clause-rounds : goal.returns-clause-rounds
returns-clause-rounds c = λ line is_line.
    let added : IsAdded c.args.self.now c.end_chunk.new.self = record {
      first = c.end_chunk.ensures.first ∙ c.add_line.ensures.first;
      lines = c.end_chunk.ensures.lines ∙ c.in_ok-add_line.ensures.lines;
      kept = c.end_chunk.ensures.kept ∙ c.in_ok-add_line.ensures.kept;
      blank = c.end_chunk.ensures.blank ∙ c.in_ok-add_line.ensures.blank;
    } in
    EndsLine-added c.args.self.now c.end_chunk.new.self line is_line (sym (ap (λ d. d.blank) c.self.view_is) ∙ c.if-self.false) added c.is_full.result c.is_full.ensures
