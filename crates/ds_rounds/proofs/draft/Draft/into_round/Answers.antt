use Rattle.std.proofs.Common.{◌∙◌, ◌++◌, ap, sym}
use Rattle.ds_rounds.specs.Lines.{lines_of_chunks}
use Rattle.ds_rounds.proofs.SpanLaws.{contents-front}
use Rattle.ds_rounds.proofs.draft.Draft.into_round.Goals as goal

pub returns-clause-lines : goal.returns-clause-lines
returns-clause-lines c =
    let d = c.self.inside in
    ap (λ ls. lines_of_chunks d.chunks.items ++ ls) (sym (contents-front d.start d.bytes.items d.spans.items c.self.invariant.ordered))
    ∙ ap (λ d. d.lines) c.self.view_is
