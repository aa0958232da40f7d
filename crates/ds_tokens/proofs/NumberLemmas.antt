-- Digits, and the numbers that they stand for.
use Rattle.std.proofs.Common.{◌≡◌, ℕ, suc, ◌+◌, ◌<◌, ◌^◌, Bool, true, false, cond, List, [], ◌∷◌, length, take, drop, get_or, Option, Some}
use Rattle.std.proofs.Common.{None, Err, refl, ap, ◌∙◌, subst, arith, eqb-true}
use Rattle.std.specs.Prelude.{◌&&◌, ◌||◌, ◌==◌, nat_lt, nat_le, pos, neg_ℤ}
use Rattle.std.specs.Char.{is_ascii_digit}
use Rattle.std.specs.List.{prefix_len}
use Rattle.std.specs.Str.{all_ascii_digits}
use Rattle.std.specs.Str.Parse.{ParsesUnsigned, ParsesSigned, digits_value}
use Rattle.std.proofs.lemmas.Bool.{and_parts}
use Rattle.std.proofs.lemmas.List.Folds.{length-prefix_len}
use Rattle.std.proofs.lemmas.Str.Parse.{IsNumeralModel, numerals_by_value, parse_digits, parse_signed_digits, parse_signed_minus}
use Rattle.std.proofs.lemmas.Str.Parse.{tells_all_ascii_digits}
use borrow.Author.Tests.{ltb-true, leb-true}
use mir.Syntax.{w64}
use Rattle.ds_tokens.specs.Tokens.{is_integer, integer_of, numbered_front}

decimal : IsNumeralModel (λ ds. all_ascii_digits ds ≡ true) (digits_value 10)
decimal = numerals_by_value (λ ds. all_ascii_digits ds ≡ true) tells_all_ascii_digits

not_chosen : {A : Type 0} (b : Bool) (x : Option A) → (b ≡ true → ⊥) → cond b x None ≡ None
not_chosen true x never = absurd (never refl)
not_chosen false x never = refl

-- a run of digits is digits
pub run_digits : (bytes : List ℕ) → all_ascii_digits (take (prefix_len is_ascii_digit bytes) bytes) ≡ true
run_digits [] = refl
run_digits (b ∷ bytes) = by (is_ascii_digit b) refl (run_digits bytes) where
  by : (digit : Bool) → is_ascii_digit b ≡ digit → all_ascii_digits (take (prefix_len is_ascii_digit bytes) bytes) ≡ true → all_ascii_digits (take (cond digit (1 + prefix_len is_ascii_digit bytes) 0) (b ∷ bytes)) ≡ true
  by true is others =
      let e : 1 + prefix_len is_ascii_digit bytes ≡ suc (prefix_len is_ascii_digit bytes) = omega arith in
      ap (λ n. all_ascii_digits (take n (b ∷ bytes))) e ∙ ap (λ d. d && all_ascii_digits (take (prefix_len is_ascii_digit bytes) bytes)) is ∙ others
  by false is others = refl

-- a sign or a digit, and the digits behind it
pub is_integer-run : (text : List ℕ) (n : ℕ) → (is_ascii_digit (get_or text 0 0) || (get_or text 0 0 == 45)) ≡ true → n ≡ prefix_len is_ascii_digit (drop 1 text) → is_integer (take (n + 1) text) ≡ true
is_integer-run [] n begins n_is = absurd (cc)
is_integer-run (b ∷ bytes) n begins n_is =
    let e : n + 1 ≡ suc n = omega arith in
    let digits : all_ascii_digits (take n bytes) ≡ true = ap (λ k. all_ascii_digits (take k bytes)) n_is ∙ run_digits bytes in
    ap (λ k. is_integer (take k (b ∷ bytes))) e ∙ by (b == 45) begins digits where
      by : (minus : Bool) → (is_ascii_digit b || minus) ≡ true → all_ascii_digits (take n bytes) ≡ true → cond minus (all_ascii_digits (take n bytes)) (is_ascii_digit b && all_ascii_digits (take n bytes)) ≡ true
      by true begins digits = digits
      by false begins digits = ap (λ all. is_ascii_digit b && all) digits ∙ last (is_ascii_digit b) begins where
        last : (digit : Bool) → (digit || false) ≡ true → (digit && true) ≡ true
        last true is = refl
        last false is = is

-- what isn't parsed leaves 64 bits
pub integer_of-unparsed : {E : Type 0} (text : List ℕ) (error : E) → ParsesSigned w64 10 text (Err error) → is_integer text ≡ true → integer_of text ≡ None
unfolding integer_of
integer_of-unparsed {E = E} text error parses all = by (get_or text 0 0 == 45) refl all where
  by : (minus : Bool) → (get_or text 0 0 == 45) ≡ minus → cond minus (all_ascii_digits (drop 1 text)) (all_ascii_digits text) ≡ true
      → cond minus (cond (nat_lt 0 (length (drop 1 text)) && nat_le (digits_value 10 (drop 1 text)) (2 ^ 63)) (Some (neg_ℤ (pos (digits_value 10 (drop 1 text))))) None)
      (cond (nat_lt 0 (length text) && nat_lt (digits_value 10 text) (2 ^ 63)) (Some (pos (digits_value 10 text))) None) ≡ None
  by true is all =
      let never = parse_signed_minus decimal {E = E} w64 text (Err error) parses (eqb-true _ _ is) in
      not_chosen _ _ (λ chosen.
      let parts = and_parts (nat_lt 0 (length (drop 1 text))) (nat_le (digits_value 10 (drop 1 text)) (2 ^ 63)) chosen in
      never (all, ltb-true _ _ parts.0, leb-true _ _ parts.1))
  by false is all =
      let never = parse_signed_digits decimal {E = E} w64 text (Err error) parses all in
      not_chosen _ _ (λ chosen.
      let parts = and_parts (nat_lt 0 (length text)) (nat_lt (digits_value 10 text) (2 ^ 63)) chosen in
      never (ltb-true _ _ parts.0, ltb-true _ _ parts.1))

pub numbered_front-unparsed : {E : Type 0} (text digits : List ℕ) (error : E) → ParsesUnsigned 64 10 digits (Err error) → digits ≡ take (prefix_len is_ascii_digit text) text → 0 < prefix_len is_ascii_digit text → numbered_front text ≡ None
unfolding numbered_front
numbered_front-unparsed {E = E} text digits error parses digits_is some =
    let run = subst (λ (d : List ℕ). ParsesUnsigned {E = E} 64 10 d (Err error)) digits_is parses in
    let never = parse_digits decimal {E = E} 64 (take (prefix_len is_ascii_digit text) text) (Err error) run (run_digits text) in
    not_chosen _ _ (λ chosen. never (omega (arith, length-prefix_len is_ascii_digit text), ltb-true _ _ chosen))
