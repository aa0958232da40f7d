-- Lists with the same numbers, each as often: put in order they are one list.
use Rattle.std.proofs.Common.{◌≡◌, ℕ, zero, suc, ◌+◌, ◌<◌, ◌≤◌, List, [], ◌∷◌, ◌++◌, refl, ap, sym, ◌∙◌, arith, Bool, true, false, cond}
use Rattle.std.proofs.Common.{ne_eqb, append_assoc, append-nil}
use Rattle.std.specs.Prelude.{◌==◌, fold, filter, sum_by, nat_lt, ⊤}
use Rattle.std.specs.List.{AllByRecursion, range_with_len}
use Rattle.std.specs.Ordering.{nat_cmp}
use Rattle.std.specs.List.Sorted.{IsPermutation}
use Rattle.std.proofs.lemmas.Bool.{eqb-true, eq-eqb, le-ltb}
use Rattle.std.proofs.lemmas.List.Sums.{fold-append, sum_by-cons}
use Rattle.std.proofs.lemmas.List.Sorted.{sum_by-IsPermutation}
use Rattle.std.proofs.lemmas.Cmp.{nat_cmp_total}
use Rattle.std.specs.FinMap.{nat_cmp-IsAntisymmetric}
use Rattle.ds_base.specs.Sorting.{insert_by, sorted_by}
use Rattle.ds_model.proofs.SameOrder.{put-turned}

-- how often a number stands in a list
abbrev pub once : ℕ → ℕ → ℕ
once k x = cond (x == k) 1 0

abbrev pub times : ℕ → List ℕ → ℕ
times k [] = 0
times k (x ∷ xs) = once k x + times k xs

abbrev pub SameTimes : List ℕ → List ℕ → Type 0
SameTimes xs ys = (k : ℕ) → times k xs ≡ times k ys

once-self : (k : ℕ) → once k k ≡ 1
once-self k = ap (λ b. cond b 1 0) (eq-eqb k k refl)

times-sum : (k : ℕ) (xs : List ℕ) → times k xs ≡ sum_by (once k) xs
times-sum k [] = refl
times-sum k (x ∷ xs) = ap (λ n. once k x + n) (times-sum k xs) ∙ sym (sum_by-cons (once k) x xs)

pub SameTimes-permutation : (xs ys : List ℕ) → IsPermutation xs ys → SameTimes xs ys
SameTimes-permutation xs ys p k = times-sum k xs ∙ sym (sum_by-IsPermutation (once k) xs ys p) ∙ sym (times-sum k ys)

pub times-append : (k : ℕ) (xs ys : List ℕ) → times k (xs ++ ys) ≡ times k xs + times k ys
times-append k [] ys = omega arith
times-append k (x ∷ xs) ys = omega (arith, times-append k xs ys)

-- a number that stands in a list stands between two parts of it
pub record StandsIn (k : ℕ) (ys : List ℕ) : Type 0 where
  pub front : List ℕ
  pub back : List ℕ
  pub whole : ys ≡ front ++ k ∷ back

found : (k : ℕ) (ys : List ℕ) → 0 < times k ys → StandsIn k ys
found k [] some = absurd (omega arith)
found k (y ∷ ys) some = by (y == k) refl some (found k ys) where
  by : (b : Bool) → (y == k) ≡ b → 0 < cond b 1 0 + times k ys → (0 < times k ys → StandsIn k ys) → StandsIn k (y ∷ ys)
  by true is some more = record { front = []; back = ys; whole = ap (λ z. z ∷ ys) (eqb-true y k is) }
  by false is some more =
      let later = more (omega (arith, some)) in
      record { front = y ∷ later.front; back = later.back; whole = ap (λ zs. y ∷ zs) later.whole }

none_left : (ys : List ℕ) → SameTimes [] ys → ys ≡ []
none_left [] same = refl
none_left (y ∷ ys) same = absurd (omega (arith, same y, once-self y))

none_more : (n m : ℕ) (b : Bool) → n ≡ cond b m 0 → n ≡ cond b (0 + m) 0
none_more n m true same = omega (arith, same)
none_more n m false same = same

-- ---- in order

abbrev pub placed : List ℕ → ℕ → List ℕ
placed = insert_by nat_cmp

all_numbers : (xs : List ℕ) → AllByRecursion (λ (x : ℕ). ⊤) xs
all_numbers [] = tt
all_numbers (x ∷ xs) = (tt, all_numbers xs)

-- a number from amid others can be put first
put_front : (done front back : List ℕ) (k : ℕ) → fold placed done (front ++ k ∷ back) ≡ fold placed (placed done k) (front ++ back)
put_front done front back k =
    ap (fold placed done) (sym (append_assoc front (k ∷ []) back))
    ∙ fold-append placed done (front ++ k ∷ []) back
    ∙ ap (λ d. fold placed d back) (put-turned nat_cmp_total (λ (x : ℕ). ⊤) (λ x y p q. nat_cmp-IsAntisymmetric x y) done front (k ∷ [])
    (all_numbers front) (tt, tt))
    ∙ sym (fold-append placed (placed done k) front back)

-- the same numbers put among others give one list
pub put_same : (xs ys done : List ℕ) → SameTimes xs ys → fold placed done xs ≡ fold placed done ys
put_same [] ys done same = ap (fold placed done) (sym (none_left ys same))
put_same (x ∷ xs) ys done same =
    let at = found x ys (omega (arith, same x, once-self x)) in
    let less : SameTimes xs (at.front ++ at.back) = λ k. omega (
      arith,
      same k,
      ap (times k) at.whole,
      times-append k at.front
          (x ∷ at.back),
      times-append k at.front at.back,
    ) in
    put_same xs (at.front ++ at.back) (placed done x) less
    ∙ sym (put_front done at.front at.back x)
    ∙ ap (fold placed done) (sym at.whole)

-- ---- numbers that pass a test

pub times-filter : (p : ℕ → Bool) (k : ℕ) (xs : List ℕ) → times k (filter p xs) ≡ cond (p k) (times k xs) 0
times-filter p k [] = by (p k) where
  by : (b : Bool) → times k [] ≡ cond b (times k []) 0
  by true = refl
  by false = refl
times-filter p k (x ∷ xs) = by (x == k) refl (p x) refl (times-filter p k xs) where
  by : (b : Bool) → (x == k) ≡ b → (c : Bool) → p x ≡ c → times k (filter p xs) ≡ cond (p k) (times k xs) 0
      → times k (cond c (x ∷ filter p xs) (filter p xs)) ≡ cond (p k) (cond b 1 0 + times k xs) 0
  by true is true passes later =
      let here : p k ≡ true = ap p (sym (eqb-true x k is)) ∙ passes in
      rw (here, is) (omega (arith, later ∙ ap (λ c. cond c (times k xs) 0) here))
  by true is false fails later =
      let here : p k ≡ false = ap p (sym (eqb-true x k is)) ∙ fails in
      rw here (later ∙ ap (λ c. cond c (times k xs) 0) here)
  by false is true passes later = let here : once k x ≡ 0 = ap (λ b. cond b 1 0) is in omega (arith, here, none_more _ _ (p k) later)
  by false is false fails later = none_more _ _ (p k) later

-- ---- numbers that rise

-- all of them are below this one
abbrev pub AreBelow : ℕ → List ℕ → Type 0
AreBelow a [] = ⊤
AreBelow a (x ∷ xs) = (x < a) × AreBelow a xs

-- each is above the one before it, and the first isn't below this one
abbrev pub RiseFrom : ℕ → List ℕ → Type 0
RiseFrom a [] = ⊤
RiseFrom a (x ∷ xs) = (a ≤ x) × RiseFrom (x + 1) xs

pub below_more : (a b : ℕ) (done : List ℕ) → a ≤ b → AreBelow a done → AreBelow b done
below_more a b [] le below = tt
below_more a b (x ∷ done) le below = (omega (arith, below.0), below_more a b done le below.1)

pub below_push : (a x : ℕ) (done : List ℕ) → x < a → AreBelow a done → AreBelow a (done ++ x ∷ [])
below_push a x [] less below = (less, tt)
below_push a x (y ∷ done) less below = (below.0, below_push a x done less below.1)

rise_more : (a b : ℕ) (xs : List ℕ) → a ≤ b → RiseFrom b xs → RiseFrom a xs
rise_more a b [] le rise = tt
rise_more a b (x ∷ xs) le rise = (omega (arith, rise.0), rise.1)

pub range_rises : (a n : ℕ) → RiseFrom a (range_with_len a n)
range_rises a zero = tt
range_rises a (suc n) = (omega arith, range_rises (a + 1) n)

pub filter_rises : (p : ℕ → Bool) (a : ℕ) (xs : List ℕ) → RiseFrom a xs → RiseFrom a (filter p xs)
filter_rises p a [] rise = tt
filter_rises p a (x ∷ xs) rise = by (p x) (filter_rises p (x + 1) xs rise.1) where
  by : (b : Bool) → RiseFrom (x + 1) (filter p xs) → RiseFrom a (cond b (x ∷ filter p xs) (filter p xs))
  by true later = (rise.0, later)
  by false later = rise_more a (x + 1) (filter p xs) (omega (arith, rise.0)) later

placed_last : (x : ℕ) (done : List ℕ) → AreBelow x done → placed done x ≡ done ++ x ∷ []
placed_last x [] below = refl
placed_last x (y ∷ done) below =
    let not_less : nat_lt x y ≡ false = le-ltb x y (omega (arith, below.0)) in
    let not_same : (x == y) ≡ false = ne_eqb x y (λ e. omega (arith, below.0)) in
    rw (not_less, not_same) (ap (λ zs. y ∷ zs) (placed_last x done below.1))

-- numbers that rise above the others are put behind them
pub risen : (a : ℕ) (xs done : List ℕ) → AreBelow a done → RiseFrom a xs → fold placed done xs ≡ done ++ xs
risen a [] done below rise = sym (append-nil done)
risen a (x ∷ xs) done below rise =
    let under : AreBelow x done = below_more a x done rise.0 below in
    ap (λ d. fold placed d xs) (placed_last x done under)
    ∙ risen (x + 1) xs (done ++ x ∷ []) (below_push (x + 1) x done (omega arith) (below_more x (x + 1) done (omega arith) under)) rise.1
    ∙ append_assoc done (x ∷ []) xs

-- of numbers that are those from 0 on, each once, the ones that pass a test come out in order
pub in_order : (p : ℕ → Bool) (n : ℕ) (xs : List ℕ) → SameTimes xs (range_with_len 0 n)
    → sorted_by nat_cmp (filter p xs) ≡ filter p (range_with_len 0 n)
in_order p n xs same =
    put_same (filter p xs) (filter p (range_with_len 0 n)) [] (λ k. times-filter p k xs ∙ ap (λ m. cond (p k) m 0) (same k)
    ∙ sym (times-filter p k (range_with_len 0 n)))
    ∙ risen 0 (filter p (range_with_len 0 n)) [] tt (filter_rises p 0 (range_with_len 0 n) (range_rises 0 n))

-- a number stands at most once among numbers that rise
passed_by : (k a : ℕ) (xs : List ℕ) → k < a → RiseFrom a xs → times k xs ≡ 0
passed_by k a [] less rise = refl
passed_by k a (x ∷ xs) less rise =
    let other : once k x ≡ 0 = ap (λ b. cond b 1 0) (ne_eqb x k (λ e. omega (arith, less, rise.0))) in
    omega (arith, other, passed_by k (x + 1) xs (omega (arith, less, rise.0)) rise.1)

pub rise-once : (k a : ℕ) (xs : List ℕ) → RiseFrom a xs → times k xs ≤ 1
rise-once k a [] rise = omega arith
rise-once k a (x ∷ xs) rise = by (x == k) refl (rise-once k (x + 1) xs rise.1) where
  by : (b : Bool) → (x == k) ≡ b → times k xs ≤ 1 → cond b 1 0 + times k xs ≤ 1
  by false is later = omega (arith, later)
  by true is later = omega (arith, passed_by k (x + 1) xs (omega (arith, eqb-true x k is)) rise.1)
