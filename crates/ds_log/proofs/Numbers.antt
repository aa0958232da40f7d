-- Numbers that never fall: one more, and how many of them are no greater than a place.
use Rattle.std.proofs.Common.{◌≡◌, ℕ, zero, suc, ◌-◌, ◌<◌, ◌≤◌, List, [], ◌∷◌, ◌++◌, length, filter, take, get_or, refl, sym, ap, ◌∙◌}
use Rattle.std.proofs.Common.{Bool, true, false, cond, arith}
use Rattle.std.specs.Prelude.{fold}
use Rattle.std.specs.List.{AllWithin}
use Rattle.std.specs.List.Sorted.{IsNonDecreasing}
use Rattle.std.proofs.lemmas.Bool.{true≢false}
use Rattle.std.proofs.lemmas.List.Sorted.{IsNonDecreasingBy-push}
use Rattle.ds_log.specs.UpTo.{last_number}

last_is : (x : ℕ) (xs : List ℕ) (d : ℕ) → get_or (x ∷ xs) (length xs) d ≡ fold (λ m c. c) x xs
last_is x [] d = refl
last_is x (y ∷ xs) d = last_is y xs d

-- one number more, which is no less than the last one
pub pushed : (xs : List ℕ) (y : ℕ) → IsNonDecreasing xs → last_number xs ≤ y → IsNonDecreasing (xs ++ y ∷ [])
pushed [] y up low = IsNonDecreasingBy-push (λ x. x) [] y up (λ d some. absurd (omega (arith, some)))
pushed (x ∷ xs) y up low =
    IsNonDecreasingBy-push (λ z. z) (x ∷ xs) y up
    (λ d some. let e : length (x ∷ xs) - 1 ≡ length xs = omega arith in
    omega (arith, ap (λ n. get_or (x ∷ xs) n d) e, last_is x xs d, low))

module _ {X : Type 0} (p : X → Bool) where
  none : (xs : List X) → AllWithin (λ x. p x ≡ false) xs 0 (length xs) → filter p xs ≡ []
  none [] fail = refl
  none (x ∷ xs) fail =
      ap (λ b. cond b (x ∷ filter p xs) (filter p xs)) (fail 0 x (omega arith) (omega arith))
      ∙ none xs (λ k d low high. fail (suc k) d (omega arith) (omega (arith, high)))

  -- so many pass, where those before a place pass and those from it on fail
  pub counted : (xs : List X) (r : ℕ) → r ≤ length xs → AllWithin (λ x. p x ≡ true) xs 0 r
      → AllWithin (λ x. p x ≡ false) xs r (length xs) → r ≡ length (filter p xs)
  counted [] r within before after = omega (arith, within)
  counted (x ∷ xs) zero within before after = sym (ap (λ (ys : List X). length ys) (none (x ∷ xs) after))
  counted (x ∷ xs) (suc r) within before after =
      ap suc (counted xs r (omega (arith, within)) (λ k d low high. before (suc k) d (omega arith) (omega (arith, high)))
      (λ k d low high. after (suc k) d (omega (arith, low)) (omega (arith, high))))
      ∙ ap (λ b. length (cond b (x ∷ filter p xs) (filter p xs))) (sym (before 0 x (omega arith) (omega arith)))

-- the last of the first n numbers
pub last_taken : (xs : List ℕ) (n : ℕ) → (n ≡ 0 → ⊥) → n ≤ length xs → get_or xs (n - 1) 0 ≡ last_number (take n xs)
last_taken xs zero some within = absurd (some refl)
last_taken xs (suc n) some within =
    ap (λ k. get_or xs k 0) (let e : suc n - 1 ≡ n = omega arith in e) ∙ from n xs 0 (omega (arith, within))
  where
    from : (n : ℕ) (xs : List ℕ) (m : ℕ) → n < length xs → get_or xs n 0 ≡ fold (λ m c. c) m (take (suc n) xs)
    from n [] m below = absurd (omega (arith, below))
    from zero (y ∷ ys) m below = refl
    from (suc n) (y ∷ ys) m below = from n ys y (omega (arith, below))
