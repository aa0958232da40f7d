-- The first newline, as a search tells it.
use Rattle.std.proofs.Common.{◌≡◌, ℕ, ◌<◌, ◌≤◌, List, Bool, true, false, cond, Option, Some, None, length, get_or, ◌⊎◌, inl, inr, sym, ap}
use Rattle.std.proofs.Common.{◌∙◌, arith}
use Rattle.std.specs.Prelude.{◌==◌, position}
use Rattle.std.specs.List.{position_or_len}
use Rattle.std.proofs.lemmas.Bool.{cases_lt, lt-ltb, le-ltb}
use Rattle.std.proofs.lemmas.List.Sums.{fails_before_first, passes_at_first}
use Rattle.memchr.specs.Find.{IsFirstByte, is_byte}

-- how many bytes stand in front of it
abbrev front : List ℕ → ℕ
front bytes = position_or_len (λ b. b == 10) bytes

abbrev told : List ℕ → Bool → Option ℕ
told bytes inside = cond inside (Some (front bytes)) None

pub first_newline : (bytes : List ℕ) (found : Option ℕ) → IsFirstByte (is_byte 10) bytes found → found ≡ position (λ b. b == 10) bytes
first_newline bytes None none = by (cases_lt (front bytes) (length bytes)) where
  by : (front bytes < length bytes) ⊎ (length bytes ≤ front bytes) → None ≡ position (λ b. b == 10) bytes
  by (inl inside) = absurd (none (front bytes) (omega arith) inside (passes_at_first (λ b. b == 10) bytes 0 inside))
  by (inr past) = sym (ap (told bytes) (le-ltb (front bytes) (length bytes) past))
first_newline bytes (Some k) first = by (cases_lt (front bytes) k) (cases_lt k (front bytes)) where
  by : (front bytes < k) ⊎ (k ≤ front bytes) → (k < front bytes) ⊎ (front bytes ≤ k) → Some k ≡ position (λ b. b == 10) bytes
  by (inl below) other = absurd (first.0.before (front bytes) (omega arith) below (passes_at_first (λ b. b == 10) bytes 0 (omega (arith, first.0.high))))
  by (inr high) (inl below) = let fails : (get_or bytes k 0 == 10) ≡ false = fails_before_first (λ b. b == 10) bytes k 0 below in let passes : (get_or bytes k 0 == 10) ≡ true = first.1 in cc
  by (inr high) (inr low) =
      let same : k ≡ front bytes = omega arith in
      ap (λ n. Some n) same ∙ sym (ap (told bytes) (lt-ltb (front bytes) (length bytes) (omega (arith, first.0.high))))
