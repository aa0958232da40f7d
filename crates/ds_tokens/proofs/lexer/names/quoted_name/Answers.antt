use Rattle.std.proofs.Common.{◌≡◌, ℕ, List, sym, ap, ◌∙◌, subst, drop, None, ◌+◌}
use Rattle.std.specs.List.{position_or_len}
use Rattle.ds_tokens.specs.Pieces.{name}
use Rattle.ds_tokens.specs.Tokens.{is_double_quote, quoted_name}
use Rattle.ds_tokens.specs.Fronts.{Fronts, Shows}
use Rattle.ds_tokens.proofs.FrontLemmas.{quoted_name-none, quoted_name-empty, quoted_name-some}
use Rattle.ds_tokens.proofs.lexer.names.quoted_name.Goals as goal

pub returns-in-None : goal.returns-in-None
returns-in-None c =
    let none : quoted_name c.skip.result.now ≡ None = quoted_name-none c.skip.result.now c.in-None.ensures in
    let same : quoted_name (drop 1 c.args.text.now) ≡ None = ap quoted_name (sym c.skip.ensures) ∙ none in
    subst (λ f. Fronts f c.args.text.now c.none-in-None.result) (sym same) c.none-in-None.ensures

pub returns-then-is_empty : goal.returns-then-is_empty
returns-then-is_empty c =
    let none : quoted_name c.skip.result.now ≡ None = quoted_name-empty c.skip.result.now c.in-Some.name.now c.in-Some.ensures.0 c.in-Some.ensures.1 (sym c.is_empty.ensures ∙ c.if-is_empty.true) in
    let same : quoted_name (drop 1 c.args.text.now) ≡ None = ap quoted_name (sym c.skip.ensures) ∙ none in
    subst (λ f. Fronts f c.args.text.now c.none.result) (sym same) c.none.ensures

pub returns-else-is_empty : goal.returns-else-is_empty
returns-else-is_empty c =
    let some = quoted_name-some c.skip.result.now c.in-Some.name.now c.in-Some.ensures.0 c.in-Some.ensures.1 (sym c.is_empty.ensures ∙ c.if-is_empty.false) in
    let same = ap quoted_name (sym c.skip.ensures) ∙ some in
    subst (λ f. Shows f c.args.text.now (name c.in-Some.name.now) c.in-Some.rest.now) (sym same)
    (ap name c.in-Some.ensures.1, c.in-Some.ensures.2 ∙ ap (λ (t : List ℕ). drop (position_or_len is_double_quote c.skip.result.now + 1) t) c.skip.ensures)
