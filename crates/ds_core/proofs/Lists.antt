-- Lists of which one item is set, and what stands in them.
use Rattle.ds_core.proofs.Words.{◌≡◌, ◌⊎◌, inl, inr, ℕ, zero, suc, ◌+◌, ◌<◌, List, [], ◌∷◌, ◌++◌, length, map, refl, ap, ◌∙◌, arith}
use Rattle.ds_core.proofs.Words.{Option, Some, None, get_or, replicate, slice_get, slice_set, range_with_len, count_of}

pub set-again : {A : Type 0} (xs : List A) (i : ℕ) (x y : A) → slice_set (slice_set xs i x) i y ≡ slice_set xs i y
set-again [] i x y = refl
set-again (z ∷ zs) zero x y = refl
set-again (z ∷ zs) (suc i) x y = ap (λ ws. z ∷ ws) (set-again zs i x y)

-- where something stands, the list reaches
pub get-below : {A : Type 0} (xs : List (Option A)) (i : ℕ) (x : A) → get_or xs i None ≡ Some x → i < length xs
get-below [] i x is = cc
get-below (y ∷ ys) zero x is = omega arith
get-below (y ∷ ys) (suc i) x is = let rest = get-below ys i x is in omega arith

-- what stands in a list of which one item is set is that one, or stood there before
pub set-got : {A : Type 0} (xs : List A) (i j : ℕ) (x y : A) → slice_get (slice_set xs i x) j ≡ Some y
    → ((i ≡ j) × (x ≡ y)) ⊎ (slice_get xs j ≡ Some y)
set-got [] i j x y got = inr got
set-got (z ∷ zs) zero zero x y got = inl (refl, cc)
set-got (z ∷ zs) zero (suc j) x y got = inr got
set-got (z ∷ zs) (suc i) zero x y got = inr got
set-got {A = A} (z ∷ zs) (suc i) (suc j) x y got = by (set-got zs i j x y got) where
  by : ((i ≡ j) × (x ≡ y)) ⊎ (slice_get zs j ≡ Some y) → ((suc i ≡ suc j) × (x ≡ y)) ⊎ (slice_get zs j ≡ Some y)
  by (inl both) = inl (ap suc both.0, both.1)
  by (inr rest) = inr rest

-- in a list of the same items no other one stands
pub none-got : (n j k : ℕ) → slice_get (replicate {A = Option ℕ} n None) j ≡ Some (Some k) → ⊥
none-got zero j k got = cc
none-got (suc n) zero k got = cc
none-got (suc n) (suc j) k got = none-got n j k got

pub same-there : {A B : Type 0} (f : A → B) (n i : ℕ) (x d : A) → f x ≡ f d → f (get_or (replicate n x) i d) ≡ f d
same-there f zero i x d same = refl
same-there f (suc n) zero x d same = same
same-there f (suc n) (suc i) x d same = same-there f n i x d same

-- counts that were all viewed
pub viewed-got : (counts : List ℕ) (shard : ℕ) → shard < length counts
    → slice_get (map (λ n. Some n) counts) shard ≡ Some (Some (count_of counts shard))
viewed-got [] shard below = absurd (omega arith)
viewed-got (c ∷ cs) zero below = refl
viewed-got (c ∷ cs) (suc shard) below = viewed-got cs shard (omega arith)

-- numbers and those behind them
pub numbers-append : (first m n next all : ℕ) → next ≡ first + m → all ≡ m + n
    → range_with_len first m ++ range_with_len next n ≡ range_with_len first all
numbers-append first zero n next all behind whole =
    let start : next ≡ first = omega arith in let many : n ≡ all = omega arith in λ i. range_with_len (start i) (many i)
numbers-append first (suc m) n next all behind whole =
    let many : suc (m + n) ≡ all = omega arith in
    ap (λ ns. first ∷ ns) (numbers-append (first + 1) m n next (m + n) (omega arith) refl) ∙ ap (range_with_len first) many
