-- What a text says can be printed.
use Rattle.std.proofs.Common.{◌≡◌, ℕ, true, cond, List, [], ◌∷◌, ◌++◌, length, Option, Some, None, refl, sym, ap, ◌∙◌, subst, arith}
use Rattle.std.specs.Prelude.{pos, nat_le, option_map, option_and_then, ◌&&◌}
use Rattle.std.specs.List.{list_all}
use Rattle.std.proofs.lemmas.Bool.{and_parts}
use Rattle.std.proofs.lemmas.List.Folds.{list_all-append}
use borrow.Author.Tests.{le-leb}
use Rattle.ds_base.specs.Limits.{most_results, most_name_bytes}
use Rattle.ds_base.specs.declared.value.Value.{Value}
use Rattle.ds_query.specs.Filters.{enough_values, has_operands}
use Rattle.ds_query.specs.declared.query.Op.{Op}
use Rattle.ds_query.specs.declared.query.Op.TheVariants as op
use Rattle.ds_query.specs.declared.query.Filter.{Filter}
use Rattle.ds_gql.specs.declared.statement.Bindings.{Bindings}
use Rattle.ds_gql.specs.declared.statement.Statement.{Statement}
use Rattle.ds_gql.specs.Steps.{count_of, compare_of, key_in, no_ancestor}
use Rattle.ds_gql_printing.specs.PrintLaws.{StatementsCanBePrinted}
use Rattle.ds_gql.specs.Sentences.{What, everything, keys, names, Condition, compare, among, under, Conditions, Limits, none, limit}
use Rattle.ds_gql.specs.Sentences.{limit_offset, pair, offset, Sentence, is_what, select_of, is_kind, operand_value, operand_values}
use Rattle.ds_gql.specs.Sentences.{with_condition, with_conditions, bounds_of, says}
use Rattle.ds_gql_printing.specs.Printing.{can_print, is_short_kind, is_count, is_selection}
use Rattle.ds_gql.proofs.SentenceSteps.{chain_some, map_some, only_if}
use Rattle.ds_gql.proofs.EndLaws.{only_sentences_are_read}
use Rattle.ds_gql.proofs.Choices.{both}
use Rattle.ds_gql_printing.proofs.WrittenNames.{names_are_written}

-- ---- filters

enough_one : (found : Op) → enough_values found 1 ≡ true
enough_one op.Equal = refl
enough_one op.Less = refl
enough_one op.LessEqual = refl
enough_one op.Greater = refl
enough_one op.GreaterEqual = refl
enough_one op.NotEqual = refl
enough_one op.OneOf = refl

pushed : (fs : List Filter) (f : Filter) → list_all has_operands fs ≡ true → has_operands f ≡ true → list_all has_operands (fs ++ f ∷ []) ≡ true
pushed fs f all one_more = list_all-append has_operands fs (f ∷ []) ∙ both _ _ all (both _ _ one_more refl)

module _ (given : Bindings) where
  one_condition : (so_far next : Conditions) (c : Condition) → with_condition given so_far c ≡ Some next → list_all has_operands so_far.0 ≡ true → list_all has_operands next.0 ≡ true
  one_condition so_far next (compare property sign o) e all =
      let found = chain_some (compare_of sign) (λ f. option_map (λ v. (so_far.0 ++ record { property = property; op = f; values = v ∷ [] } ∷ [], so_far.1)) (operand_value given o)) next e in
      let valued = map_some (operand_value given o) (λ v. (so_far.0 ++ record { property = property; op = found.0; values = v ∷ [] } ∷ [], so_far.1)) next found.2 in
      subst (λ (n : Conditions). list_all has_operands n.0 ≡ true) valued.2
      (pushed so_far.0 (record { property = property; op = found.0; values = valued.0 ∷ [] }) all (enough_one found.0))
  one_condition so_far next (among property first more) e all =
      let valued = map_some (operand_values given (first ∷ more)) (λ vs. (so_far.0 ++ record { property = property; op = op.OneOf; values = vs } ∷ [], so_far.1)) next e in
      let x = chain_some (operand_value given first) (λ v. option_map (λ vs. v ∷ vs) (operand_values given more)) valued.0 valued.1 in
      let xs = map_some (operand_values given more) (λ vs. x.0 ∷ vs) valued.0 x.2 in
      let some : nat_le 1 (length valued.0) ≡ true = le-leb 1 (length valued.0) (omega (arith, ap (λ (vs : List Value). length vs) xs.2)) in
      subst (λ (n : Conditions). list_all has_operands n.0 ≡ true) valued.2
      (pushed so_far.0 (record { property = property; op = op.OneOf; values = valued.0 }) all some)
  one_condition so_far next (under o) e all =
      let found = chain_some (option_and_then key_in (operand_value given o)) (λ k. cond (no_ancestor so_far.1) (Some (so_far.0, Some k)) None) next e in
      let parts = only_if (no_ancestor so_far.1) (Some (so_far.0, Some found.0)) next found.2 in
      let same : (so_far.0, Some found.0) ≡ next = let e : Some (so_far.0, Some found.0) ≡ Some next = parts.1 in cc in
      subst (λ (n : Conditions). list_all has_operands n.0 ≡ true) same all

  all_conditions : (cs : List Condition) (so_far next : Conditions) → with_conditions given so_far cs ≡ Some next → list_all has_operands so_far.0 ≡ true → list_all has_operands next.0 ≡ true
  all_conditions [] so_far next e all = let same : so_far ≡ next = cc in subst (λ (n : Conditions). list_all has_operands n.0 ≡ true) same all
  all_conditions (c ∷ cs) so_far next e all =
      let mid = chain_some (with_condition given so_far c) (λ n. with_conditions given n cs) next e in
      all_conditions cs mid.0 next mid.2 (one_condition so_far mid.0 c mid.1 all)

-- ---- the other parts

counted : (n c : ℕ) → count_of (pos n) ≡ Some c → nat_le c most_results ≡ true
counted n c e =
    let parts = only_if (nat_le n most_results) (Some n) c e in
    let same : n ≡ c = let e : Some n ≡ Some c = parts.1 in cc in
    sym (ap (λ m. nat_le m most_results) same) ∙ parts.0

abbrev InBounds : ℕ × Option ℕ → Type 0
InBounds b = (nat_le b.0 most_results ≡ true) × (is_count b.1 ≡ true)

bounded : (l : Limits) (b : ℕ × Option ℕ) → bounds_of l ≡ Some b → InBounds b
bounded none b e = let same : (0, None) ≡ b = cc in subst InBounds same (refl, refl)
bounded (limit n) b e =
    let found = map_some (count_of (pos n)) (λ (c : ℕ). (0, Some c)) b e in
    subst InBounds found.2 (refl, counted n found.0 found.1)
bounded (limit_offset n m) b e =
    let first = chain_some (count_of (pos n)) (λ (c : ℕ). option_map (λ (d : ℕ). (d, Some c)) (count_of (pos m))) b e in
    let second = map_some (count_of (pos m)) (λ (d : ℕ). (d, Some first.0)) b first.2 in
    subst InBounds second.2 (counted m second.0 second.1, counted n first.0 first.1)
bounded (pair m n) b e =
    let first = chain_some (count_of (pos m)) (λ (d : ℕ). option_map (λ (c : ℕ). (d, Some c)) (count_of (pos n))) b e in
    let second = map_some (count_of (pos n)) (λ (c : ℕ). (first.0, Some c)) b first.2 in
    subst InBounds second.2 (counted m first.0 first.1, counted n second.0 second.1)
bounded (offset m) b e =
    let found = map_some (count_of (pos m)) (λ (d : ℕ). (d, None)) b e in
    subst InBounds found.2 (counted m found.0 found.1, refl)

selection : (w : What) → is_what w ≡ true → is_selection (select_of w) ≡ true
selection everything lawful = refl
selection keys lawful = refl
selection (names first more) lawful = lawful

short : (kind : Option (List ℕ)) → is_kind kind ≡ true → is_short_kind kind ≡ true
short None lawful = refl
short (Some text) lawful = (and_parts (nat_le 1 (length text)) (nat_le (length text) most_name_bytes) lawful).1

said_can_print : (given : Bindings) (s : Sentence) (st : Statement) → says given s ≡ Some st → can_print st ≡ true
said_can_print given s st said =
    let lawful = only_if (is_what s.what && is_kind s.kind) _ st said in
    let parts = and_parts (is_what s.what) (is_kind s.kind) lawful.0 in
    let found = chain_some (with_conditions given ([], None) s.conditions) _ st lawful.1 in
    let bounds = map_some (bounds_of s.limits) _ st found.2 in
    let within = bounded s.limits bounds.0 bounds.1 in
    subst (λ (t : Statement). can_print t ≡ true) bounds.2
    (both _ _ (both _ _ (both _ _ (both _ _ (short s.kind parts.1) (all_conditions given s.conditions ([], None) found.0 found.1 refl)) (selection s.what parts.0)) within.0) within.1)

pub statements_can_be_printed : StatementsCanBePrinted
statements_can_be_printed given text st e =
    let d = only_sentences_are_read given text st e in
    (said_can_print given d.sentence st d.said, names_are_written given text st d)
