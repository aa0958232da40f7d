-- Runs of bytes, and where a text may be cut.
use Rattle.std.proofs.Common.{◌≡◌, ℕ, zero, suc, ◌+◌, ◌<◌, Bool, true, false, not, List, [], ◌∷◌, length, get_or, drop, IsUtf8, refl, sym}
use Rattle.std.proofs.Common.{ap, ◌∙◌, subst, inl, inr, arith, add-one, zero-add}
use Rattle.std.proofs.lemmas.Bool.{cases_lt}
use Rattle.std.proofs.lemmas.Bool.Decides.{nat_tests}
use Rattle.std.proofs.lemmas.List.{get_or_past}
use Rattle.std.proofs.lemmas.List.Sums.{prefix_len-le-length, prefix_len_passes, prefix_len_stops}
use Rattle.std.proofs.lemmas.Str.{IsCharBoundary-start, IsCharBoundary-end, IsCharBoundary-before_ascii, IsCharBoundary-after_ascii}
use Rattle.std.proofs.lemmas.Str.{IsCharBoundary-from_rest}
use Rattle.std.proofs.Math.Seq.{drop-nil}
use Rattle.std.specs.Char.{is_ascii_digit}
use Rattle.std.specs.List.{prefix_len}
use Rattle.std.specs.Str.{IsCharBoundary}
use Rattle.ds_tokens.specs.declared.lexer.runs.Class.{Class}
use Rattle.ds_tokens.specs.declared.lexer.runs.Class.TheVariants as class
use Rattle.ds_tokens.specs.Fronts.{class_test}
use Rattle.ds_tokens.specs.Tokens.{is_blank, is_word_byte, is_quote, is_double_quote}

-- a byte that is not 0 was read inside the text
pub within_from_byte : (xs : List ℕ) (i : ℕ) → 0 < get_or xs i 0 → i < length xs
within_from_byte xs i h = elim (cases_lt i (length xs)) [ inl within ↦ within | inr past ↦ absurd (omega (arith, get_or_past xs i 0 past)) ]

after_ascii_run : (p : ℕ → Bool) (bs : List ℕ) (n : ℕ) → prefix_len p bs ≡ n → IsUtf8 bs → ((c : ℕ) → p c ≡ true → c < 128) → IsCharBoundary bs n
after_ascii_run p bs zero e utf8 ascii = IsCharBoundary-start bs utf8
after_ascii_run p bs (suc k) e utf8 ascii =
    rw (← add-one) (IsCharBoundary-after_ascii bs k utf8 (omega (arith, prefix_len-le-length p bs)) (ascii _ (prefix_len_passes p bs k 0 (omega arith))))

-- a run of ASCII bytes ends where a character does
IsCharBoundary-ascii_run : (p : ℕ → Bool) (bs : List ℕ) → IsUtf8 bs → ((c : ℕ) → p c ≡ true → c < 128) → IsCharBoundary bs (prefix_len p bs)
IsCharBoundary-ascii_run p bs = after_ascii_run p bs _ refl

-- and so does a run that only an ASCII byte stops
IsCharBoundary-wide_run : (p : ℕ → Bool) (bs : List ℕ) → ((c : ℕ) → p c ≡ false → c < 128) → IsCharBoundary bs (prefix_len p bs)
IsCharBoundary-wide_run p bs ascii =
    elim (cases_lt (prefix_len p bs) (length bs)) [
      | inl within ↦ IsCharBoundary-before_ascii bs _ within (ascii _ (prefix_len_stops p bs 0 within))
      | inr past ↦ subst (IsCharBoundary bs) (omega (arith, prefix_len-le-length p bs)) (IsCharBoundary-end bs)
    ]

-- a run of any class ends at a boundary
pub IsCharBoundary-run : (class : Class) (bs : List ℕ) → IsUtf8 bs → IsCharBoundary bs (prefix_len (class_test class) bs)
IsCharBoundary-run class.Blank bs utf8 = IsCharBoundary-ascii_run is_blank bs utf8 (λ c e. grind (arith, nat_tests))
IsCharBoundary-run class.Word bs utf8 = IsCharBoundary-ascii_run is_word_byte bs utf8 (λ c e. grind (arith, nat_tests))
IsCharBoundary-run class.Digit bs utf8 = IsCharBoundary-ascii_run is_ascii_digit bs utf8 (λ c e. grind (arith, nat_tests))
IsCharBoundary-run class.Name bs utf8 = IsCharBoundary-wide_run (λ b. not (is_double_quote b)) bs (λ c e. grind (arith, nat_tests))
IsCharBoundary-run class.Plain bs utf8 = IsCharBoundary-wide_run (λ b. not (is_quote b)) bs (λ c e. grind (arith, nat_tests))

-- what is behind a and then b bytes
pub drop_twice : (a b : ℕ) (xs : List ℕ) → drop b (drop a xs) ≡ drop (a + b) xs
drop_twice zero b xs = ap (λ n. drop n xs) (sym (zero-add b))
drop_twice (suc a) b [] = drop-nil b ∙ sym (drop-nil (suc a + b))
drop_twice (suc a) b (x ∷ xs) = let e : suc a + b ≡ suc (a + b) = omega arith in drop_twice a b xs ∙ ap (λ n. drop n (x ∷ xs)) (sym e)

-- behind the first byte, which is ASCII, and a run
pub IsCharBoundary-behind_first : (text rest bytes : List ℕ) (class : Class) (n : ℕ) → 0 < get_or text 0 0 → rest ≡ drop 1 text → IsUtf8 rest → bytes ≡ rest → n ≡ prefix_len (class_test class) bytes → IsCharBoundary text (n + 1)
IsCharBoundary-behind_first text rest bytes class n some rest_is utf8 bytes_is n_is =
    let e : 1 + n ≡ n + 1 = omega arith in
    let within : 0 < length text = within_from_byte text 0 some in
    let at_rest = subst (IsCharBoundary rest) (sym (n_is ∙ ap (prefix_len (class_test class)) bytes_is)) (IsCharBoundary-run class rest utf8) in
    subst (IsCharBoundary text) e (IsCharBoundary-from_rest text 1 n (omega arith) (subst (λ (t : List ℕ). IsCharBoundary t n) rest_is at_rest))
