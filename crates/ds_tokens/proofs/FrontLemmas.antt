-- Names in double quotes, and strings, at the front of a text.
use Rattle.std.proofs.Common.{◌≡◌, ℕ, ◌+◌, ◌<◌, true, false, cond, List, length, take, Some, None, sym, ap, ◌∙◌, arith, eqb-true}
use Rattle.std.proofs.Common.{length-take-le}
use Rattle.std.specs.Prelude.{◌&&◌, ◌==◌, nat_lt}
use Rattle.std.proofs.lemmas.Bool.Decides.{nat_tests}
use Rattle.std.specs.List.{position_or_len, before_first}
use Rattle.ds_tokens.specs.Pieces.{name}
use Rattle.ds_tokens.specs.Tokens.{Front, quoted_name, is_double_quote}

module _ (text : List ℕ) where
  pub quoted_name-none : position_or_len is_double_quote text ≡ length text → quoted_name text ≡ None
  unfolding quoted_name
  quoted_name-none none =
      let never : (nat_lt 0 (position_or_len is_double_quote text) && nat_lt (position_or_len is_double_quote text) (length text)) ≡ false = grind (arith, nat_tests) in
      ap (λ b. cond b (Some (let f : Front = record { piece = name (take (position_or_len is_double_quote text) text); more = position_or_len is_double_quote text + 1 } in f)) None) never

  pub quoted_name-empty : (found : List ℕ) → position_or_len is_double_quote text < length text → found ≡ before_first is_double_quote text → (length found == 0) ≡ true → quoted_name text ≡ None
  unfolding quoted_name
  quoted_name-empty found within is empty =
      let zero : length found ≡ 0 = eqb-true _ _ empty in
      let len : length (take (position_or_len is_double_quote text) text) ≡ position_or_len is_double_quote text = length-take-le _ text (omega (arith, within)) in
      let none : position_or_len is_double_quote text ≡ 0 = sym len ∙ sym (ap length is) ∙ zero in
      let never : (nat_lt 0 (position_or_len is_double_quote text) && nat_lt (position_or_len is_double_quote text) (length text)) ≡ false = grind (arith, nat_tests) in
      ap (λ b. cond b (Some (let f : Front = record { piece = name (take (position_or_len is_double_quote text) text); more = position_or_len is_double_quote text + 1 } in f)) None) never

  pub quoted_name-some : (found : List ℕ) → position_or_len is_double_quote text < length text → found ≡ before_first is_double_quote text → (length found == 0) ≡ false → quoted_name text ≡ Some (record { piece = name (take (position_or_len is_double_quote text) text); more = position_or_len is_double_quote text + 1 })
  unfolding quoted_name
  quoted_name-some found within is some =
      let len : length (take (position_or_len is_double_quote text) text) ≡ position_or_len is_double_quote text = length-take-le _ text (omega (arith, within)) in
      let lengths : length found ≡ position_or_len is_double_quote text = ap length is ∙ len in
      let positive : (position_or_len is_double_quote text == 0) ≡ false = ap (λ k. k == 0) (sym lengths) ∙ some in
      let both : (nat_lt 0 (position_or_len is_double_quote text) && nat_lt (position_or_len is_double_quote text) (length text)) ≡ true = grind (arith, nat_tests) in
      ap (λ b. cond b (Some (let f : Front = record { piece = name (take (position_or_len is_double_quote text) text); more = position_or_len is_double_quote text + 1 } in f)) None) both
