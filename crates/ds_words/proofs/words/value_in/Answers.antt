use Rattle.std.proofs.Common.{◌∙◌, drop, map, refl, subst, sym}
use Rattle.std.specs.Prelude.{option_map}
use Rattle.std.specs.String.{string_bytes}
use Rattle.std.proofs.lemmas.List.{take_rest}
use Rattle.ds_words.specs.Items.{seen}
use Rattle.ds_words.proofs.ItemLaws.{Passed, passed_here, passed_other, passed_twice, seen_none, seen_some}
use Rattle.ds_words.proofs.words.value_in.Goals as goal
use Rattle.ds_words.proofs.words.value_in.Goals.{then-eq+else-is_some, else-eq}

pub returns-then-is_some-clause-usage : goal.returns-then-is_some-clause-usage
returns-then-is_some-clause-usage c =
    let item = c.in-Some.item in
    let some = seen_some (λ text. text.now) c.items.found (sym c.is_some.ensures ∙ c.if-is_some.true) in
    (refl, passed_twice (map string_bytes (drop item.words c.items.rest.now)) (seen item) some.0 c.items.invariant c.in-Some.ensures.items.2 (sym c.eq.ensures ∙ c.if-eq.true) some.1)

pub items-preserved : goal.items-preserved
items-preserved c =
    let item = c.in-Some.item in
    let next = map string_bytes (drop item.words c.items.rest.now) in
    let words = map string_bytes c.args.words.now in
    let passed : Passed words next c.args.name.now (option_map (λ text. text.now) c.if-eq.found) = elim c.if-eq.branch [
      | then-eq+else-is_some w ↦ subst (λ found. Passed words next c.args.name.now (option_map (λ text. text.now) found)) (sym w.found-is)
          (passed_here next (seen item) c.items.invariant c.in-Some.ensures.items.2 (sym c.eq.ensures ∙ w.if-eq.true) (seen_none (λ text. text.now) c.items.found (sym w.is_some.ensures ∙ w.if-is_some.false)))
      | else-eq w ↦ subst (λ found. Passed words next c.args.name.now (option_map (λ text. text.now) found)) (sym w.found-is)
          (passed_other next (seen item) c.items.invariant c.in-Some.ensures.items.2 (sym c.eq.ensures ∙ w.if-eq.false))
    ] in
    subst (λ rest. Passed words (map string_bytes rest) c.args.name.now (option_map (λ text. text.now) c.if-eq.found)) (sym (take_rest c.items.rest.now item.words)) passed
