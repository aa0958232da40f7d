use Rattle.std.proofs.Common.{◌∙◌, ap, sym}
use Rattle.ds_rounds.proofs.DraftLaws.{EndsInput-added, EndsInput-dropped, IsAdded}
use Rattle.ds_rounds.proofs.draft.Draft.end_input.Goals as goal

pub returns-then-self-clause-rounds : goal.returns-then-self-clause-rounds
returns-then-self-clause-rounds c = λ line is_line. EndsInput-dropped c.args.self.now c.drop_line.new.self line is_line (sym (ap (λ d. d.blank) c.self.view_is) ∙ c.if-self.true) c.drop_line.ensures.first c.drop_line.ensures.lines

pub returns-clause-rounds : goal.returns-clause-rounds
returns-clause-rounds c = λ line is_line.
    let added : IsAdded c.args.self.now c.add_line.new.self = record {
      first = c.add_line.ensures.first;
      lines = c.in_ok-add_line.ensures.lines;
      kept = c.in_ok-add_line.ensures.kept;
      blank = c.in_ok-add_line.ensures.blank;
    } in
    EndsInput-added c.args.self.now c.add_line.new.self line is_line (sym (ap (λ d. d.blank) c.self.view_is) ∙ c.if-self.false) added
