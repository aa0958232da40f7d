use Rattle.std.proofs.Common.{◌++◌, is_ok, sym, ap, ◌∙◌, rules}
use Rattle.std.proofs.ResultArms.{chosen}
use Rattle.std.specs.String.{string_bytes}
use Rattle.ds_tokens.specs.Pieces.{without_second}
use Rattle.ds_tokens.proofs.DoublingLemmas.{undoubled-none, undoubled-step}
use Rattle.ds_tokens.proofs.quotes.undoubled.Goals as goal

pub quotes-preserved : goal.quotes-preserved
quotes-preserved c =
    let l = c.quotes in
    let first = chosen _ _ _ _ c.push_str.ensures.bytes (ap is_ok c.in_ok-push_str-in-Some.was) in
    let second = chosen _ _ _ _ c.push_str-in-Some.ensures.bytes (ap is_ok c.in_ok-push_str-in-Some-2.was) in
    let split = c.in-Some.ensures in (
      search rules,
      undoubled-step (string_bytes l.text) _ c.in-Some.piece.now (string_bytes c.push_str-in-Some.new.self) c.args.raw.now l.rest.now c.without_second-rest.result.now l.invariant.1 split.0 split.1 (c.without_second-rest.ensures ∙ ap without_second split.2) first second,
    )

pub returns-in-None : goal.returns-in-None
returns-in-None c =
    let l = c.quotes in
    let whole = chosen _ _ _ _ c.push_str-in-None.ensures.bytes (ap is_ok c.in_ok-push_str-in-None.was) in
    c.from_string.ensures ∙ whole ∙ ap (λ t. string_bytes l.text ++ t) (sym (undoubled-none l.rest.now c.in-None.ensures)) ∙ l.invariant.1
