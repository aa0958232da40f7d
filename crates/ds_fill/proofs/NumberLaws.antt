-- Numbers that a text of decimal digits stands for.
use Rattle.std.proofs.Common.{◌≡◌, ℕ, ◌<◌, ◌≤◌, ◌^◌, List, [], ◌∷◌, length, refl, ap, sym, ◌∙◌, arith, true, None, Err}
use Rattle.std.specs.Prelude.{◌&&◌, nat_le}
use Rattle.std.specs.Str.{all_ascii_digits}
use Rattle.std.specs.Str.Parse.{ParsesUnsigned, digits_value}
use Rattle.std.proofs.lemmas.Str.Parse.{IsNumeralModel, digits_value_short, numerals_by_value, parse_digits, tells_all_ascii_digits}
use Rattle.ds_words.specs.Form.{is_digits, number_of}

decimal : IsNumeralModel (λ ds. all_ascii_digits ds ≡ true) (digits_value 10)
decimal = numerals_by_value (λ ds. all_ascii_digits ds ≡ true) tells_all_ascii_digits

-- std's word for digits alone
digits_alone : (text : List ℕ) → is_digits text ≡ all_ascii_digits text
digits_alone [] = refl
digits_alone (b ∷ text) = ap (λ all. (nat_le 48 b && nat_le b 57) && all) (digits_alone text)

-- a text that isn't parsed has no digit
pub number_of-unparsed : {E : Type 0} (digits least greatest : ℕ) (text : List ℕ) (error : E) → ParsesUnsigned 32 10 text (Err error)
    → digits ≤ 6 → length text ≤ digits → is_digits text ≡ true → number_of digits least greatest text ≡ None
number_of-unparsed digits least greatest [] error parses few short all = refl
number_of-unparsed {E = E} digits least greatest (b ∷ text) error parses few short all =
    let all_std : all_ascii_digits (b ∷ text) ≡ true = sym (digits_alone (b ∷ text)) ∙ all in
    let small : digits_value 10 (b ∷ text) < 10 ^ 6 = digits_value_short decimal (b ∷ text) 6 all_std (omega arith) in
    absurd (parse_digits decimal {E = E} 32 (b ∷ text) (Err error) parses all_std (omega arith, omega (arith, small)))
