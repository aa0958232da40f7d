use Rattle.std.proofs.Common.{◌∙◌, ◌∷◌, ◌+◌, ap, sym, subst, arith, take, drop, length, []}
use Rattle.std.specs.Prelude.{MatchOption}
use Rattle.std.proofs.lemmas.List.{take_rest, drop_all}
use Rattle.ds_indexdef.specs.Lines.{lines_of}
use Rattle.ds_indexdef.proofs.LineLaws.{FirstLine, first_line_is}
use Rattle.ds_indexdef.proofs.lines.first_line.Goals as goal

pub returns-in-Some-clause-line : goal.returns-in-Some-clause-line
returns-in-Some-clause-line c =
    let text = c.args.text.now in
    subst (FirstLine text) (sym c.in-Some.ensures) (first_line_is text c.requires)
    ∙ ap (λ rest. take c.in-Some.i text ∷ lines_of rest) (sym (take_rest text (c.in-Some.i + 1)))

pub returns-in-None-clause-line : goal.returns-in-None-clause-line
returns-in-None-clause-line c =
    let text = c.args.text.now in
    subst (FirstLine text) (sym c.in-None.ensures) (first_line_is text c.requires)
    ∙ ap (λ rest. text ∷ lines_of rest) (sym (take_rest text (length text) ∙ drop_all (length text) text (omega arith)))
