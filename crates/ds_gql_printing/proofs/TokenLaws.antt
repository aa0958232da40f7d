-- What is written of a token is read as that token.
use Rattle.std.proofs.Common.{◌≡◌, ℕ, suc, ◌+◌, ◌-◌, ◌<◌, ◌≤◌, ◌^◌, Bool, true, false, cond, not, List, [], ◌∷◌, ◌++◌, length, take, get_or}
use Rattle.std.proofs.Common.{Option, Some, None, refl, sym, ap, ◌∙◌, arith, append_assoc, length-append, eqb-true, ℤ, FitsSigned, w64}
use Rattle.std.specs.Prelude.{pos, negsuc, neg_ℤ, nat_lt, nat_le, ◌&&◌, ◌||◌, ◌==◌, option_map, unwrap_or, is_some, decimal, codes}
use Rattle.std.specs.Char.{is_ascii_digit}
use Rattle.std.specs.List.{list_all, list_any, prefix_len, position_or_len}
use Rattle.std.specs.Str.{all_ascii_digits}
use Rattle.std.specs.Str.Parse.{digits_value}
use Rattle.std.proofs.lemmas.Bool.{and_parts}
use Rattle.std.proofs.lemmas.Bool.Decides.{nat_tests}
use Rattle.std.proofs.lemmas.Fmt.{decimal_nonempty, first_decimal, digits_decimal, digits_value-decimal}
use Rattle.std.proofs.lemmas.Str.Parse.{IsNumeralModel, numerals_by_value, tells_all_ascii_digits}
use Rattle.std.proofs.Math.Seq.{take-append_seam}
use borrow.Author.Tests.{lt-ltb, le-leb}
use Rattle.ds_tokens.specs.declared.token.Mark.{Mark}
use Rattle.ds_tokens.specs.declared.token.Mark.TheVariants as mark
use Rattle.ds_tokens.specs.Pieces.{Piece, fixed, name, integer, string, numbered, undoubled, is}
use Rattle.ds_tokens.specs.Tokens.{Front, tokens_from, front, is_blank, begins_word, is_word_byte, is_quote, is_double_quote, lookup}
use Rattle.ds_tokens.specs.Tokens.{keywords}
use Rattle.ds_tokens.specs.Tokens.{word_by, word_of, word, quoted_name, string_by, string_front, closing, integer_of, integer_by}
use Rattle.ds_tokens.specs.Tokens.{integer_front, numbered_front, binding, sign}
use Rattle.ds_gql.specs.GqlLaws.{pieces_of}
use Rattle.ds_gql_printing.specs.Printing.{is_written_name, is_plain, doubled, written, spaced}
use Rattle.ds_gql_printing.specs.Printers.{IsToken, AreTokens}
use Rattle.ds_gql.proofs.Choices.{chosen, passed, both}

-- ---- runs

-- a run that what follows doesn't go on
run_whole : (p : ℕ → Bool) (xs tail : List ℕ) → list_all p xs ≡ true → prefix_len p tail ≡ 0 → prefix_len p (xs ++ tail) ≡ length xs
run_whole p [] tail all none = none
run_whole p (x ∷ xs) tail all none =
    let parts = and_parts (p x) (list_all p xs) all in
    let e : 1 + length xs ≡ suc (length xs) = omega arith in
    ap (λ b. cond b (1 + prefix_len p (xs ++ tail)) 0) parts.0 ∙ ap (λ n. 1 + n) (run_whole p xs tail parts.1 none) ∙ e

take_whole : (b : ℕ) (xs tail : List ℕ) → take (length xs + 1) (b ∷ xs ++ tail) ≡ b ∷ xs
take_whole b xs tail =
    let e : length xs + 1 ≡ suc (length xs) = omega arith in
    ap (λ k. take k (b ∷ xs ++ tail)) e ∙ ap (λ t. b ∷ t) (take-append_seam xs tail)

abbrev found : Piece → ℕ → Option Front
found p n = Some (record { piece = p; more = n })

-- ---- words

word_front : (b : ℕ) (bs tail : List ℕ) → begins_word b ≡ true → list_all is_word_byte bs ≡ true → prefix_len is_word_byte tail ≡ 0 → front (b ∷ bs ++ tail) ≡ found (word_of (b ∷ bs)) (length bs)
unfolding front word
word_front b bs tail begins all none =
    chosen (begins_word b) _ _ begins
    ∙ ap (λ n. found (word_of (take (n + 1) (b ∷ bs ++ tail))) n) (run_whole is_word_byte bs tail all none)
    ∙ ap (λ w. found (word_of w) (length bs)) (take_whole b bs tail)

word_token : (p : Piece) (b : ℕ) (bs : List ℕ) → written p ≡ b ∷ bs → is mark.End p ≡ false → begins_word b ≡ true → list_all is_word_byte bs ≡ true → word_of (b ∷ bs) ≡ p → IsToken p
word_token p b bs spelled not_end begins all same = record {
  first = b;
  others = bs;
  spelled = spelled;
  solid = grind (arith, nat_tests);
  not_end = not_end;
  amid = λ rest. word_front b bs (32 ∷ rest) begins all refl ∙ ap (λ q. found q (length bs)) same;
  last = word_front b bs [] begins all refl ∙ ap (λ q. found q (length bs)) same;
}

pub mark_token : (m : Mark) → is mark.End (fixed m) ≡ false → IsToken (fixed m)
unfolding front word_of sign
mark_token mark.Select not_end = word_token (fixed mark.Select) 83 (codes "ELECT") refl refl refl refl refl
mark_token mark.From not_end = word_token (fixed mark.From) 70 (codes "ROM") refl refl refl refl refl
mark_token mark.Where not_end = word_token (fixed mark.Where) 87 (codes "HERE") refl refl refl refl refl
mark_token mark.And not_end = word_token (fixed mark.And) 65 (codes "ND") refl refl refl refl refl
mark_token mark.Order not_end = word_token (fixed mark.Order) 79 (codes "RDER") refl refl refl refl refl
mark_token mark.By not_end = word_token (fixed mark.By) 66 (codes "Y") refl refl refl refl refl
mark_token mark.Asc not_end = word_token (fixed mark.Asc) 65 (codes "SC") refl refl refl refl refl
mark_token mark.Desc not_end = word_token (fixed mark.Desc) 68 (codes "ESC") refl refl refl refl refl
mark_token mark.Limit not_end = word_token (fixed mark.Limit) 76 (codes "IMIT") refl refl refl refl refl
mark_token mark.Offset not_end = word_token (fixed mark.Offset) 79 (codes "FFSET") refl refl refl refl refl
mark_token mark.In not_end = word_token (fixed mark.In) 73 (codes "N") refl refl refl refl refl
mark_token mark.Is not_end = word_token (fixed mark.Is) 73 (codes "S") refl refl refl refl refl
mark_token mark.Ancestor not_end = word_token (fixed mark.Ancestor) 65 (codes "NCESTOR") refl refl refl refl refl
mark_token mark.True not_end = word_token (fixed mark.True) 84 (codes "RUE") refl refl refl refl refl
mark_token mark.False not_end = word_token (fixed mark.False) 70 (codes "ALSE") refl refl refl refl refl
mark_token mark.Null not_end = word_token (fixed mark.Null) 78 (codes "ULL") refl refl refl refl refl
mark_token mark.Key not_end = word_token (fixed mark.Key) 75 (codes "EY") refl refl refl refl refl
mark_token mark.Star not_end = record { first = 42; others = []; spelled = refl; solid = refl; not_end = refl; amid = λ rest. refl; last = refl }
mark_token mark.Comma not_end = record { first = 44; others = []; spelled = refl; solid = refl; not_end = refl; amid = λ rest. refl; last = refl }
mark_token mark.Open not_end = record { first = 40; others = []; spelled = refl; solid = refl; not_end = refl; amid = λ rest. refl; last = refl }
mark_token mark.Close not_end = record { first = 41; others = []; spelled = refl; solid = refl; not_end = refl; amid = λ rest. refl; last = refl }
mark_token mark.Equal not_end = record { first = 61; others = []; spelled = refl; solid = refl; not_end = refl; amid = λ rest. refl; last = refl }
mark_token mark.Less not_end = record { first = 60; others = []; spelled = refl; solid = refl; not_end = refl; amid = λ rest. refl; last = refl }
mark_token mark.LessEqual not_end = record { first = 60; others = 61 ∷ []; spelled = refl; solid = refl; not_end = refl; amid = λ rest. refl; last = refl }
mark_token mark.Greater not_end = record { first = 62; others = []; spelled = refl; solid = refl; not_end = refl; amid = λ rest. refl; last = refl }
mark_token mark.GreaterEqual not_end = record { first = 62; others = 61 ∷ []; spelled = refl; solid = refl; not_end = refl; amid = λ rest. refl; last = refl }
mark_token mark.NotEqual not_end = record { first = 33; others = 61 ∷ []; spelled = refl; solid = refl; not_end = refl; amid = λ rest. refl; last = refl }
mark_token mark.End not_end = absurd (cc)

-- ---- names

none_found : {A : Type 0} (o : Option A) → not (is_some o) ≡ true → o ≡ None
none_found None e = refl
none_found (Some x) e = absurd (cc)

all_others : (p : ℕ → Bool) (xs : List ℕ) → not (list_any p xs) ≡ true → list_all (λ x. not (p x)) xs ≡ true
all_others p [] none = refl
all_others p (x ∷ xs) none = by (p x) none (all_others p xs) where
  by : (b : Bool) → not (b || list_any p xs) ≡ true → (not (list_any p xs) ≡ true → list_all (λ y. not (p y)) xs ≡ true) → (not b && list_all (λ y. not (p y)) xs) ≡ true
  by true none later = absurd (cc)
  by false none later = later none

abbrev in_quotes : List ℕ → List ℕ
in_quotes text = text ++ 34 ∷ []

quoted_front : (b : ℕ) (bs tail : List ℕ) → not (list_any is_double_quote (b ∷ bs)) ≡ true → front (34 ∷ in_quotes (b ∷ bs) ++ tail) ≡ found (name (b ∷ bs)) (length (in_quotes (b ∷ bs)))
unfolding front quoted_name
quoted_front b bs tail none =
    let text = b ∷ bs in
    let run : position_or_len is_double_quote (text ++ 34 ∷ tail) ≡ length text = run_whole (λ x. not (is_double_quote x)) text (34 ∷ tail) (all_others is_double_quote text none) refl in
    let size : length (text ++ 34 ∷ tail) ≡ length text + suc (length tail) = length-append text (34 ∷ tail) in
    let bounds : (nat_lt 0 (length text) && nat_lt (length text) (length (text ++ 34 ∷ tail))) ≡ true =
    both _ _ (lt-ltb 0 (length text) (omega arith)) (lt-ltb (length text) (length (text ++ 34 ∷ tail)) (omega (arith, size))) in
    ap (λ t. front (34 ∷ t)) (append_assoc text (34 ∷ []) tail)
    ∙ ap (λ n. cond (nat_lt 0 n && nat_lt n (length (text ++ 34 ∷ tail))) (found (name (take n (text ++ 34 ∷ tail))) (n + 1)) None) run
    ∙ chosen _ _ _ bounds
    ∙ ap (λ t. found (name t) (length text + 1)) (take-append_seam text (34 ∷ tail))
    ∙ ap (λ n. found (name text) n) (sym (length-append text (34 ∷ [])))

pub name_token : (text : List ℕ) → is_written_name text ≡ true → IsToken (name text)
unfolding word_of
name_token [] lawful = absurd (cc)
name_token (b ∷ bs) lawful = by (is_plain (b ∷ bs)) refl where
  by : (plain : Bool) → is_plain (b ∷ bs) ≡ plain → IsToken (name (b ∷ bs))
  by true plain =
      let parts = and_parts (begins_word b && list_all is_word_byte (b ∷ bs)) (not (is_some (lookup keywords (b ∷ bs)))) plain in
      let bytes = and_parts (begins_word b) (list_all is_word_byte (b ∷ bs)) parts.0 in
      let others = and_parts (is_word_byte b) (list_all is_word_byte bs) bytes.1 in
      word_token (name (b ∷ bs)) b bs (chosen _ _ _ plain) refl bytes.0 others.1 (ap (λ o. word_by o (b ∷ bs)) (none_found (lookup keywords (b ∷ bs)) parts.1))
  by false plain = record {
    first = 34;
    others = in_quotes (b ∷ bs);
    spelled = passed _ _ _ plain;
    solid = refl;
    not_end = refl;
    amid = λ rest. quoted_front b bs (32 ∷ rest) lawful;
    last = quoted_front b bs [] lawful;
  }

-- ---- strings

closing_other : (b : ℕ) (rest : List ℕ) (n : ℕ) → is_quote b ≡ false → closing rest ≡ Some n → closing (b ∷ rest) ≡ Some (n + 1)
unfolding closing
closing_other b [] n other e = absurd (cc)
closing_other b (c ∷ rest) n other e = passed (is_quote b) _ _ other ∙ ap (option_map (λ k. k + 1)) e

closing_quote : (rest : List ℕ) (n : ℕ) → closing rest ≡ Some n → closing (39 ∷ 39 ∷ rest) ≡ Some (n + 2)
unfolding closing
closing_quote rest n e = ap (λ o. Some (unwrap_or (option_map (λ k. k + 2) o) 1)) e

closing_doubled : (text tail : List ℕ) → closing (39 ∷ tail) ≡ Some 1 → closing (doubled text ++ 39 ∷ tail) ≡ Some (length (doubled text) + 1)
closing_doubled [] tail ends = ends
closing_doubled (b ∷ text) tail ends = by (is_quote b) (closing_doubled text tail ends) refl where
  by : (q : Bool) → closing (doubled text ++ 39 ∷ tail) ≡ Some (length (doubled text) + 1) → is_quote b ≡ q
      → closing ((cond q (39 ∷ 39 ∷ []) (b ∷ []) ++ doubled text) ++ 39 ∷ tail) ≡ Some (length (cond q (39 ∷ 39 ∷ []) (b ∷ []) ++ doubled text) + 1)
  by true later is =
      let e : length (doubled text) + 1 + 2 ≡ suc (suc (length (doubled text))) + 1 = omega arith in
      closing_quote (doubled text ++ 39 ∷ tail) (length (doubled text) + 1) later ∙ ap Some e
  by false later is =
      let e : length (doubled text) + 1 + 1 ≡ suc (length (doubled text)) + 1 = omega arith in
      closing_other b (doubled text ++ 39 ∷ tail) (length (doubled text) + 1) is later ∙ ap Some e

undoubled_other : (b : ℕ) (rest : List ℕ) → is_quote b ≡ false → undoubled (b ∷ rest) ≡ b ∷ undoubled rest
undoubled_other b [] other = refl
undoubled_other b (c ∷ rest) other = ap (λ q. cond (q && (c == 39)) (39 ∷ undoubled rest) (b ∷ undoubled (c ∷ rest))) other

undoubled_doubled : (text : List ℕ) → undoubled (doubled text) ≡ text
undoubled_doubled [] = refl
undoubled_doubled (b ∷ text) = by (is_quote b) (undoubled_doubled text) refl where
  by : (q : Bool) → undoubled (doubled text) ≡ text → is_quote b ≡ q → undoubled (cond q (39 ∷ 39 ∷ []) (b ∷ []) ++ doubled text) ≡ b ∷ text
  by true later is = ap (λ t. 39 ∷ t) later ∙ ap (λ c. c ∷ text) (sym (eqb-true b 39 is))
  by false later is = undoubled_other b (doubled text) is ∙ ap (λ t. b ∷ t) later

string_found : (text tail : List ℕ) → closing (39 ∷ tail) ≡ Some 1 → front (39 ∷ (doubled text ++ 39 ∷ []) ++ tail) ≡ found (string text) (length (doubled text ++ 39 ∷ []))
unfolding front string_front
string_found text tail ends =
    let e : length (doubled text) + 1 - 1 ≡ length (doubled text) = omega arith in
    ap (λ t. front (39 ∷ t)) (append_assoc (doubled text) (39 ∷ []) tail)
    ∙ ap (λ o. string_by o (doubled text ++ 39 ∷ tail)) (closing_doubled text tail ends)
    ∙ ap (λ n. found (string (undoubled (take n (doubled text ++ 39 ∷ tail)))) (length (doubled text) + 1)) e
    ∙ ap (λ t. found (string (undoubled t)) (length (doubled text) + 1)) (take-append_seam (doubled text) (39 ∷ tail))
    ∙ ap (λ t. found (string t) (length (doubled text) + 1)) (undoubled_doubled text)
    ∙ ap (λ n. found (string text) n) (sym (length-append (doubled text) (39 ∷ [])))

pub string_token : (text : List ℕ) → IsToken (string text)
unfolding closing
string_token text = record {
  first = 39;
  others = doubled text ++ 39 ∷ [];
  spelled = refl;
  solid = refl;
  not_end = refl;
  amid = λ rest. string_found text (32 ∷ rest) refl;
  last = string_found text [] refl;
}

-- ---- numbers

own : IsNumeralModel (λ ds. all_ascii_digits ds ≡ true) (digits_value 10)
own = numerals_by_value (λ ds. all_ascii_digits ds ≡ true) tells_all_ascii_digits

digits_all : (ds : List ℕ) → all_ascii_digits ds ≡ true → list_all is_ascii_digit ds ≡ true
digits_all [] all = refl
digits_all (c ∷ cs) all = let parts = and_parts (is_ascii_digit c) (all_ascii_digits cs) all in both _ _ parts.0 (digits_all cs parts.1)

digit_front : (c : ℕ) (text : List ℕ) → is_ascii_digit c ≡ true → front (c ∷ text) ≡ integer_front (c ∷ text)
unfolding front
digit_front c text digit =
    let no_word : begins_word c ≡ false = grind (arith, nat_tests) in
    let no_double : is_double_quote c ≡ false = grind (arith, nat_tests) in
    let no_quote : is_quote c ≡ false = grind (arith, nat_tests) in
    let no_colon : (c == 58) ≡ false = grind (arith, nat_tests) in
    passed _ _ _ no_word ∙ passed _ _ _ no_double ∙ passed _ _ _ no_quote ∙ passed _ _ _ no_colon ∙ chosen _ _ _ (ap (λ b. b || (c == 45)) digit)

-- an integer of a sign or a digit and further digits
integer_read : (c : ℕ) (cs tail : List ℕ) (p : Piece) → list_all is_ascii_digit cs ≡ true → prefix_len is_ascii_digit tail ≡ 0 → integer_by (integer_of (c ∷ cs)) (length cs) ≡ found p (length cs) → integer_front (c ∷ cs ++ tail) ≡ found p (length cs)
unfolding integer_front
integer_read c cs tail p all none value =
    ap (λ n. integer_by (integer_of (take (n + 1) (c ∷ cs ++ tail))) n) (run_whole is_ascii_digit cs tail all none)
    ∙ ap (λ t. integer_by (integer_of t) (length cs)) (take_whole c cs tail) ∙ value

natural_value : (c : ℕ) (cs : List ℕ) (n : ℕ) → is_ascii_digit c ≡ true → digits_value 10 (c ∷ cs) ≡ n → n < 2 ^ 63 → integer_of (c ∷ cs) ≡ Some (pos n)
unfolding integer_of
natural_value c cs n digit value small =
    let no_sign : (c == 45) ≡ false = grind (arith, nat_tests) in
    let bounds : (nat_lt 0 (length (c ∷ cs)) && nat_lt n (2 ^ 63)) ≡ true = both _ _ (lt-ltb 0 (length (c ∷ cs)) (omega arith)) (lt-ltb n (2 ^ 63) small) in
    passed _ _ _ no_sign
    ∙ ap (λ m. cond (nat_lt 0 (length (c ∷ cs)) && nat_lt m (2 ^ 63)) (Some (pos m)) None) value ∙ chosen _ _ _ bounds

negative_value : (ds : List ℕ) (n : ℕ) → 0 < length ds → digits_value 10 ds ≡ suc n → suc n ≤ 2 ^ 63 → integer_of (45 ∷ ds) ≡ Some (negsuc n)
unfolding integer_of
negative_value ds n some value small =
    let bounds : (nat_lt 0 (length ds) && nat_le (suc n) (2 ^ 63)) ≡ true = both _ _ (lt-ltb 0 (length ds) some) (le-leb (suc n) (2 ^ 63) small) in
    ap (λ m. cond (nat_lt 0 (length ds) && nat_le m (2 ^ 63)) (Some (neg_ℤ (pos m))) None) value ∙ chosen _ _ _ bounds

module _ (n : ℕ) (small : n < 2 ^ 64) where
  decimal_digits : list_all is_ascii_digit (decimal n) ≡ true
  decimal_digits = digits_all (decimal n) (digits_decimal own n small)

  decimal_value : digits_value 10 (decimal n) ≡ n
  decimal_value = digits_value-decimal own n small

  -- the digits as a first one and others
  record Digits : Type 0 where
    first : ℕ
    others : List ℕ
    spelled : decimal n ≡ first ∷ others
    digit : is_ascii_digit first ≡ true
    digits : list_all is_ascii_digit others ≡ true
    value : digits_value 10 (first ∷ others) ≡ n

  digits_of : Digits
  digits_of = by (decimal n) refl where
    by : (ds : List ℕ) → decimal n ≡ ds → Digits
    by [] e = absurd (omega (arith, ap length e, decimal_nonempty n small))
    by (c ∷ cs) e =
        let all : list_all is_ascii_digit (c ∷ cs) ≡ true = sym (ap (list_all is_ascii_digit) e) ∙ decimal_digits in
        let parts = and_parts (is_ascii_digit c) (list_all is_ascii_digit cs) all in
        record { first = c; others = cs; spelled = e; digit = parts.0; digits = parts.1; value = sym (ap (digits_value 10) e) ∙ decimal_value }

pub natural_token : (n : ℕ) → n < 2 ^ 63 → IsToken (integer (pos n))
natural_token n small =
    let d = digits_of n (omega (arith, small)) in
    let value = natural_value d.first d.others n d.digit d.value small in
    record {
      first = d.first;
      others = d.others;
      spelled = d.spelled;
      solid = let digit = d.digit in grind (arith, nat_tests);
      not_end = refl;
      amid = λ rest. digit_front d.first (d.others ++ 32 ∷ rest) d.digit ∙ integer_read d.first d.others (32 ∷ rest) (integer (pos n)) d.digits refl (ap (λ o. integer_by o (length d.others)) value);
      last = digit_front d.first (d.others ++ []) d.digit ∙ integer_read d.first d.others [] (integer (pos n)) d.digits refl (ap (λ o. integer_by o (length d.others)) value);
    }

pub negative_token : (n : ℕ) → suc n ≤ 2 ^ 63 → IsToken (integer (negsuc n))
unfolding front
negative_token n small =
    let within : suc n < 2 ^ 64 = omega (arith, small) in
    let digits = decimal_digits (suc n) within in
    let value = negative_value (decimal (suc n)) n (decimal_nonempty (suc n) within) (decimal_value (suc n) within) small in
    record {
      first = 45;
      others = decimal (suc n);
      spelled = refl;
      solid = refl;
      not_end = refl;
      amid = λ rest. integer_read 45 (decimal (suc n)) (32 ∷ rest) (integer (negsuc n)) digits refl (ap (λ o. integer_by o (length (decimal (suc n)))) value);
      last = integer_read 45 (decimal (suc n)) [] (integer (negsuc n)) digits refl (ap (λ o. integer_by o (length (decimal (suc n)))) value);
    }

-- any integer of 64 bits with a sign
pub integer_token : (i : ℤ) → FitsSigned w64 i → IsToken (integer i)
integer_token (pos n) fits = natural_token n (omega (arith, fits))
integer_token (negsuc n) fits = negative_token n (omega (arith, fits))

numbered_read : (n : ℕ) (c : ℕ) (cs tail : List ℕ) → is_ascii_digit c ≡ true → 48 < c → list_all is_ascii_digit cs ≡ true → digits_value 10 (c ∷ cs) ≡ n → n < 2 ^ 64 → prefix_len is_ascii_digit tail ≡ 0 → front (58 ∷ (c ∷ cs) ++ tail) ≡ found (numbered n) (length (c ∷ cs))
unfolding front binding numbered_front
numbered_read n c cs tail digit some digits value small none =
    let no_word : begins_word c ≡ false = grind (arith, nat_tests) in
    let led : (is_ascii_digit c && not (c == 48)) ≡ true = grind (arith, nat_tests) in
    let ds = c ∷ cs in
    passed _ _ _ no_word ∙ chosen _ _ _ led
    ∙ ap (λ k. cond (nat_lt (digits_value 10 (take k (ds ++ tail))) (2 ^ 64)) (found (numbered (digits_value 10 (take k (ds ++ tail)))) k) None) (run_whole is_ascii_digit ds tail (both _ _ digit digits) none)
    ∙ ap (λ t. cond (nat_lt (digits_value 10 t) (2 ^ 64)) (found (numbered (digits_value 10 t)) (length ds)) None) (take-append_seam ds tail)
    ∙ ap (λ m. cond (nat_lt m (2 ^ 64)) (found (numbered m) (length ds)) None) value
    ∙ chosen _ _ _ (lt-ltb n (2 ^ 64) small)

pub numbered_token : (n : ℕ) → 0 < n → n < 2 ^ 64 → IsToken (numbered n)
numbered_token n some small =
    let d = digits_of n small in
    let led : 48 < d.first = omega (arith, ap (λ (ds : List ℕ). get_or ds 0 0) d.spelled, first_decimal n some small) in
    record {
      first = 58;
      others = d.first ∷ d.others;
      spelled = ap (λ ds. 58 ∷ ds) d.spelled;
      solid = refl;
      not_end = refl;
      amid = λ rest. numbered_read n d.first d.others (32 ∷ rest) d.digit led d.digits d.value small refl;
      last = numbered_read n d.first d.others [] d.digit led d.digits d.value small refl;
    }

-- ---- the tokens of a text with one space between tokens

passed_bytes : (bs tail : List ℕ) (place : ℕ) → (q : ℕ) × (tokens_from (length bs) place (bs ++ tail) ≡ tokens_from 0 q tail)
passed_bytes [] tail place = (place, refl)
passed_bytes (c ∷ cs) tail place = passed_bytes cs tail (suc place)

begun_token : (b : ℕ) (text : List ℕ) (place : ℕ) (f : Front) → is_blank b ≡ false → front (b ∷ text) ≡ Some f → tokens_from 0 place (b ∷ text) ≡ record { piece = f.piece; place = place } ∷ tokens_from f.more (suc place) text
begun_token b text place f solid is = rw (solid, is) refl

spaced_more : (p : Piece) (ps : List Piece) → is mark.End p ≡ false → spaced (p ∷ ps) ≡ 32 ∷ written p ++ spaced ps
spaced_more p ps not_end = ap (λ t. t ++ spaced ps) (passed _ _ _ not_end)

alone : (p : Piece) (token : IsToken p) (ps : List Piece) → AreTokens ps → front (token.first ∷ token.others ++ spaced ps) ≡ found p (length token.others)
alone p token [] all = token.last
alone p token (q ∷ qs) all = ap (λ t. front (token.first ∷ token.others ++ t)) (spaced_more q qs all.0.not_end) ∙ token.amid (written q ++ spaced qs)

abbrev ended : List Piece → List Piece
ended ps = ps ++ fixed mark.End ∷ []

one_read : (p : Piece) (ps : List Piece) (place : ℕ) → IsToken p → AreTokens ps → ((start : ℕ) → pieces_of (tokens_from 0 start (spaced ps)) ≡ ended ps) → pieces_of (tokens_from 0 place (written p ++ spaced ps)) ≡ ended (p ∷ ps)
one_read p ps place token all later =
    let behind = passed_bytes token.others (spaced ps) (suc place) in
    ap (λ t. pieces_of (tokens_from 0 place (t ++ spaced ps))) token.spelled
    ∙ ap pieces_of (begun_token token.first (token.others ++ spaced ps) place (record { piece = p; more = length token.others }) token.solid (alone p token ps all))
    ∙ ap (λ ts. p ∷ pieces_of ts) behind.1 ∙ ap (λ qs. p ∷ qs) (later behind.0)

spaced_read : (ps : List Piece) (place : ℕ) → AreTokens ps → pieces_of (tokens_from 0 place (spaced ps)) ≡ ended ps
spaced_read [] place all = refl
spaced_read (p ∷ ps) place all =
    ap (λ t. pieces_of (tokens_from 0 place t)) (spaced_more p ps all.0.not_end)
    ∙ one_read p ps (suc place) all.0 all.1 (λ start. spaced_read ps start all.1)

pub tokens_read : (p : Piece) (ps : List Piece) (place : ℕ) → IsToken p → AreTokens ps → pieces_of (tokens_from 0 place (written p ++ spaced ps)) ≡ ended (p ∷ ps)
tokens_read p ps place token all = one_read p ps place token all (λ start. spaced_read ps start all)
