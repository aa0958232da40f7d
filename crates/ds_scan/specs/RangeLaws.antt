-- What the rests of a range are: a string is one of them exactly where it is within the bounds and a row has it behind the prefix,
-- and as many of them pass a test as rows of the range whose rests pass it.
use Rattle.std.proofs.Common.{◌≡◌, ℕ, suc, zero, Bool, true, false, cond, List, [], ◌∷◌, ◌++◌, refl, sym, ◌∙◌, ap, subst, ◌⊎◌, inl, inr}
use Rattle.std.proofs.Common.{arith}
use Rattle.std.specs.Prelude.{◌&&◌, ◌==◌, Contains, count_by}
use Rattle.std.proofs.Math.Seq.{drop-append_seam}
use Rattle.std.proofs.lemmas.Bool.Decides.{nat_tests}
use Rattle.std.proofs.lemmas.List.Sums.{sum_by-cons}
use Rattle.ds_table.specs.Versions.{in_range}
use Rattle.ds_scan.specs.Ranges.{Range, begins_with, rest, is_in, rests}

first_true : (a b : Bool) → a && b ≡ true → a ≡ true
first_true true b h = refl
first_true false b h = h

second_true : (a b : Bool) → a && b ≡ true → b ≡ true
second_true true b h = h
second_true false b h = cc

both_true : (a b : Bool) → a ≡ true → b ≡ true → a && b ≡ true
both_true true b h g = g
both_true false b h g = h

same_byte : (b c : ℕ) → (b == c) ≡ true → b ≡ c
same_byte b c e = grind (arith, nat_tests)

itself : (b : ℕ) → (b == b) ≡ true
itself b = grind (arith, nat_tests)

-- a row that begins with a prefix is the prefix and its rest
pub begins-is : (p r : List ℕ) → begins_with p r ≡ true → r ≡ p ++ rest p r
begins-is [] r h = refl
begins-is (b ∷ bs) [] h = cc
begins-is (b ∷ bs) (c ∷ cs) h =
    let same = same_byte b c (first_true (b == c) (begins_with bs cs) h) in
    let more = begins-is bs cs (second_true (b == c) (begins_with bs cs) h) in
    ap (λ n. n ∷ cs) (sym same) ∙ ap (λ l. b ∷ l) more

-- and what stands behind a prefix begins with it
pub begins-behind : (p x : List ℕ) → begins_with p (p ++ x) ≡ true
begins-behind [] x = refl
begins-behind (b ∷ bs) x = both_true (b == b) (begins_with bs (bs ++ x)) (itself b) (begins-behind bs x)

Contains-front : (x : List ℕ) (xs : List (List ℕ)) → Contains (x ∷ xs) x
Contains-front x xs = (0, (omega arith), refl)

Contains-later : (x : List ℕ) (xs : List (List ℕ)) (y : List ℕ) → Contains xs y → Contains (x ∷ xs) y
Contains-later x xs y (k, h, e) = (suc k, (omega arith), e)

Contains-cases : (x : List ℕ) (xs : List (List ℕ)) (y : List ℕ) → Contains (x ∷ xs) y → (x ≡ y) ⊎ Contains xs y
Contains-cases x xs y (zero, h, e) = inl e
Contains-cases x xs y (suc k, h, e) = inr (k, (omega arith), e)

not_Contains-nil : (y : List ℕ) → Contains [] y → ⊥
not_Contains-nil y (k, h, e) = omega arith

module _ (range : Range) where
  -- behind the prefix each rest is a row, and it is within the bounds
  pub row_of_rest : (rows : List (List ℕ)) (x : List ℕ) → Contains (rests range rows) x → Contains rows (range.prefix ++ x)
      × (in_range range.low range.high x ≡ true)
  row_of_rest [] x c = absurd (not_Contains-nil x c)
  row_of_rest (r ∷ rows) x c = by (is_in range r) refl c (row_of_rest rows x) where
    here : is_in range r ≡ true → rest range.prefix r ≡ x → Contains (r ∷ rows) (range.prefix ++ x)
        × (in_range range.low range.high x ≡ true)
    here e q =
        let begins = first_true (begins_with range.prefix r) (in_range range.low range.high (rest range.prefix r)) e in
        let within = second_true (begins_with range.prefix r) (in_range range.low range.high (rest range.prefix r)) e in (
          subst (λ y. Contains (r ∷ rows) y) (begins-is range.prefix r begins ∙ ap (λ y. range.prefix ++ y) q) (Contains-front r rows),
          subst (λ y. in_range range.low range.high y ≡ true) q within,
        )

    there : Contains rows (range.prefix ++ x) × (in_range range.low range.high x ≡ true) → Contains (r ∷ rows) (range.prefix ++ x)
        × (in_range range.low range.high x ≡ true)
    there h = (Contains-later r rows (range.prefix ++ x) h.0, h.1)

    one : is_in range r ≡ true → (rest range.prefix r ≡ x) ⊎ Contains (rests range rows) x
        → (Contains (rests range rows) x → Contains rows (range.prefix ++ x) × (in_range range.low range.high x ≡ true))
        → Contains (r ∷ rows) (range.prefix ++ x) × (in_range range.low range.high x ≡ true)
    one e (inl q) more = here e q
    one e (inr d) more = there (more d)

    by : (b : Bool) → is_in range r ≡ b → Contains (rests range (r ∷ rows)) x
        → (Contains (rests range rows) x → Contains rows (range.prefix ++ x) × (in_range range.low range.high x ≡ true))
        → Contains (r ∷ rows) (range.prefix ++ x) × (in_range range.low range.high x ≡ true)
    by true e c more = let d = rw e at c in one e (Contains-cases (rest range.prefix r) (rests range rows) x d) more
    by false e c more = let d = rw e at c in there (more d)

  -- and each string within the bounds that a row has behind the prefix is a rest
  pub rest_of_row : (rows : List (List ℕ)) (x : List ℕ) → Contains rows (range.prefix ++ x) → in_range range.low range.high x ≡ true
      → Contains (rests range rows) x
  rest_of_row [] x c g = absurd (not_Contains-nil (range.prefix ++ x) c)
  rest_of_row (r ∷ rows) x c g = by (Contains-cases r rows (range.prefix ++ x) c) (λ d. rest_of_row rows x d g) where
    inside : r ≡ range.prefix ++ x → is_in range r ≡ true
    inside q =
        ap (is_in range) q
        ∙ both_true (begins_with range.prefix (range.prefix ++ x)) (in_range range.low range.high (rest range.prefix (range.prefix ++ x)))
        (begins-behind range.prefix x)
        (ap (in_range range.low range.high) (drop-append_seam range.prefix x) ∙ g)

    there : (b : Bool) → is_in range r ≡ b → Contains (rests range rows) x → Contains (rests range (r ∷ rows)) x
    there true e h = rw e (Contains-later (rest range.prefix r) (rests range rows) x h)
    there false e h = rw e h

    by : (r ≡ range.prefix ++ x) ⊎ Contains rows (range.prefix ++ x) → (Contains rows (range.prefix ++ x) → Contains (rests range rows) x)
        → Contains (rests range (r ∷ rows)) x
    by (inl q) more =
        let e = inside q in
        let same : rest range.prefix r ≡ x = ap (rest range.prefix) q ∙ drop-append_seam range.prefix x in
        rw e (subst (λ y. Contains (rest range.prefix r ∷ rests range rows) y) same (Contains-front (rest range.prefix r)
        (rests range rows)))
    by (inr d) more = there (is_in range r) refl (more d)

  -- the rests that pass a test are counted over the rows
  pub count-rests : (test : List ℕ → Bool) (rows : List (List ℕ))
      → count_by test (rests range rows) ≡ count_by (λ row. is_in range row && test (rest range.prefix row)) rows
  count-rests test [] = refl
  count-rests test (r ∷ rows) = by (is_in range r) refl (count-rests test rows) where
    both : List ℕ → Bool
    both row = is_in range row && test (rest range.prefix row)

    by : (b : Bool) → is_in range r ≡ b
        → count_by test (rests range rows) ≡ count_by (λ row. is_in range row && test (rest range.prefix row)) rows
        → count_by test (rests range (r ∷ rows)) ≡ count_by (λ row. is_in range row && test (rest range.prefix row)) (r ∷ rows)
    by true e more =
        let first = sum_by-cons (λ x. cond (test x) 1 0) (rest range.prefix r) (rests range rows) in
        let second = rw e at (sum_by-cons (λ row. cond (is_in range row && test (rest range.prefix row)) 1 0) r rows) in
        rw e (omega (arith, first, second, more))
    by false e more =
        let second = rw e at (sum_by-cons (λ row. cond (is_in range row && test (rest range.prefix row)) 1 0) r rows) in
        rw e (omega (arith, second, more))
