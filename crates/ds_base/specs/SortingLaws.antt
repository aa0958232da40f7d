-- The laws of putting in order, for any total order: the result is sorted and has the items that were given; where only equal
-- items tie, no other list is and has. Then the same of std's `insert_key`, for distinct keys.
use Rattle.std.specs.Prelude.{⊤, filter, fold, sum_by, Bool, ◌||◌}
use Rattle.std.proofs.Common.{◌≡◌, ℕ, zero, suc, ◌+◌, ◌<◌, List, [], ◌∷◌, ◌++◌, length, get_or, true, false, cond, refl, sym, ap}
use Rattle.std.proofs.Common.{subst, ◌∙◌, append-nil, arith}
use Rattle.std.proofs.lemmas.Bool.{true≢false}
use Rattle.std.proofs.lemmas.List.Sums.{fold-append, sum_by-cons}
use Rattle.std.proofs.lemmas.List.Sorted.{IsPermutation-refl, IsPermutation-cons, IsPermutation-sym, IsPermutation-trans}
use Rattle.std.proofs.lemmas.List.Sorted.{IsPermutation-middle, IsPermutation-append_right, sum_by-IsPermutation}
use Rattle.std.specs.Cmp.{IsTotalOrder, upto, alike_right, tied_itself}
use Rattle.std.specs.FinMap.{IsAntisymmetric}
use Rattle.std.specs.List.{AllByRecursion, list_any}
use Rattle.std.specs.List.Sorted.{IsSorted, IsPermutation, IsStrictlySortedBy}
use Rattle.std.specs.BTreeSet.{insert_key}
use Rattle.std.specs.declared.cmp.Ordering.{Ordering}
use Rattle.std.specs.declared.cmp.Ordering.TheVariants.{Less, Equal, Greater}
use Rattle.std.specs.Ordering.{is_eq, is_gt, is_lt, ordering_reverse, match_ordering, eq_by_cmp}
use Rattle.ds_base.specs.Sorting.{insert_by, sorted_by}

-- no item of the list comes before x
abbrev pub NoneBefore : {X : Type 0} → (X → X → Ordering) → X → List X → Type 0
NoneBefore R x = AllByRecursion (λ y. is_gt (R x y) ≡ false)

-- no item comes before one that precedes it: std's `IsSorted`, as a recursion
abbrev pub Ascends : {X : Type 0} → (X → X → Ordering) → List X → Type 0
Ascends R [] = ⊤
Ascends R (x ∷ xs) = NoneBefore R x xs × Ascends R xs

turn_gt : (r : Ordering) → is_gt (ordering_reverse r) ≡ is_lt r
turn_gt Less = refl
turn_gt Equal = refl
turn_gt Greater = refl

turn_lt : (r : Ordering) → is_lt (ordering_reverse r) ≡ is_gt r
turn_lt Less = refl
turn_lt Equal = refl
turn_lt Greater = refl

Greater-lt : (r : Ordering) → r ≡ Greater → is_lt r ≡ false
Greater-lt r e = ap is_lt e

module _ {X : Type 0} {R : X → X → Ordering} (o : IsTotalOrder R) where
  gt-turned : (x y : X) → is_gt (R x y) ≡ is_lt (R y x)
  gt-turned x y = ap is_gt (o.antisymm x y) ∙ turn_gt (R y x)

  Less-turned : (x y : X) → R x y ≡ Greater → R y x ≡ Less
  Less-turned x y e = o.antisymm y x ∙ ap ordering_reverse e

  NoneBefore-earlier : (x y : X) (zs : List X) → is_gt (R x y) ≡ false → NoneBefore R y zs → NoneBefore R x zs
  NoneBefore-earlier x y [] below rest = tt
  NoneBefore-earlier x y (z ∷ zs) below rest = (upto o x y z below rest.0, NoneBefore-earlier x y zs below rest.1)

  -- ---- sorted, in either form

  adjacent : (xs : List X) → Ascends R xs → (k j : ℕ) (d : X) → j ≡ suc k → j < length xs
      → is_lt (R (get_or xs j d) (get_or xs k d)) ≡ false
  adjacent [] up k j d next within = absurd (omega arith)
  adjacent (x ∷ xs) up k zero d next within = absurd (omega arith)
  adjacent (x ∷ []) up k (suc j) d next within = absurd (omega arith)
  adjacent (x ∷ y ∷ ys) up zero (suc zero) d next within = sym (gt-turned x y) ∙ up.0.0
  adjacent (x ∷ y ∷ ys) up zero (suc (suc j)) d next within = absurd (omega arith)
  adjacent (x ∷ y ∷ ys) up (suc k) (suc j) d next within = adjacent (y ∷ ys) up.1 k j d (omega arith) (omega arith)

  pub IsSorted-from_Ascends : (xs : List X) → Ascends R xs → IsSorted R xs
  IsSorted-from_Ascends xs up k d low high = adjacent xs up k (k + 1) d (omega arith) high

  IsSorted-tail : (x : X) (xs : List X) → IsSorted R (x ∷ xs) → IsSorted R xs
  IsSorted-tail x xs up k d low high =
      let here : suc k + 1 ≡ suc (k + 1) = omega arith in
      let within : suc k + 1 < length (x ∷ xs) = omega arith in
      subst (λ j. is_lt (R (get_or (x ∷ xs) j d) (get_or xs k d)) ≡ false) here (up (suc k) d (omega arith) within)

  pub Ascends-from_IsSorted : (xs : List X) → IsSorted R xs → Ascends R xs
  Ascends-from_IsSorted [] up = tt
  Ascends-from_IsSorted (x ∷ []) up = (tt, tt)
  Ascends-from_IsSorted (x ∷ y ∷ ys) up =
      let later = Ascends-from_IsSorted (y ∷ ys) (IsSorted-tail x (y ∷ ys) up) in
      let first : is_gt (R x y) ≡ false = gt-turned x y ∙ up 0 x (omega arith) (omega arith) in
      ((first, NoneBefore-earlier x y ys first later.0), later)

  -- ---- one item

  pub NoneBefore-insert_by : (x y : X) (ys : List X) → is_gt (R x y) ≡ false → NoneBefore R x ys → NoneBefore R x (insert_by R ys y)
  NoneBefore-insert_by x y [] below rest = (below, tt)
  NoneBefore-insert_by x y (z ∷ zs) below rest = placed (NoneBefore-insert_by x y zs below rest.1) (R y z) where
    placed : NoneBefore R x (insert_by R zs y) → (r : Ordering)
        → NoneBefore R x (match_ordering r (y ∷ z ∷ zs) (y ∷ z ∷ zs) (z ∷ insert_by R zs y))
    placed later Less = (below, rest)
    placed later Equal = (below, rest)
    placed later Greater = (rest.0, later)

  pub Ascends-insert_by : (ys : List X) (x : X) → Ascends R ys → Ascends R (insert_by R ys x)
  Ascends-insert_by [] x up = (tt, tt)
  Ascends-insert_by (y ∷ ys) x up = placed (Ascends-insert_by ys x up.1) (R x y) refl where
    front : is_gt (R x y) ≡ false → Ascends R (x ∷ y ∷ ys)
    front below = ((below, NoneBefore-earlier x y ys below up.0), up)

    placed : Ascends R (insert_by R ys x) → (r : Ordering) → R x y ≡ r
        → Ascends R (match_ordering r (x ∷ y ∷ ys) (x ∷ y ∷ ys) (y ∷ insert_by R ys x))
    placed later Less is = front (ap is_gt is)
    placed later Equal is = front (ap is_gt is)
    placed later Greater is = (NoneBefore-insert_by y x ys (ap is_gt (Less-turned x y is)) up.0, later)

  pub IsSorted-insert_by : (ys : List X) (x : X) → IsSorted R ys → IsSorted R (insert_by R ys x)
  IsSorted-insert_by ys x up = IsSorted-from_Ascends (insert_by R ys x) (Ascends-insert_by ys x (Ascends-from_IsSorted ys up))

  -- an item that comes after none goes to the front
  pub insert_by-front : (ys : List X) (x : X) → NoneBefore R x ys → insert_by R ys x ≡ x ∷ ys
  insert_by-front [] x first = refl
  insert_by-front (y ∷ ys) x first = placed (R x y) first.0 where
    placed : (r : Ordering) → is_gt r ≡ false → match_ordering r (x ∷ y ∷ ys) (x ∷ y ∷ ys) (y ∷ insert_by R ys x) ≡ x ∷ y ∷ ys
    placed Less below = refl
    placed Equal below = refl
    placed Greater below = absurd (true≢false below)

  -- ---- a whole list

  Ascends-fold : (done xs : List X) → Ascends R done → Ascends R (fold (insert_by R) done xs)
  Ascends-fold done [] up = up
  Ascends-fold done (x ∷ xs) up = Ascends-fold (insert_by R done x) xs (Ascends-insert_by done x up)

  pub Ascends-sorted_by : (xs : List X) → Ascends R (sorted_by R xs)
  Ascends-sorted_by xs = Ascends-fold [] xs tt

  pub IsSorted-sorted_by : (xs : List X) → IsSorted R (sorted_by R xs)
  IsSorted-sorted_by xs = IsSorted-from_Ascends (sorted_by R xs) (Ascends-sorted_by xs)

  -- to filter and to put in order come to the same in either order
  NoneBefore-filter : (p : X → Bool) (x : X) (ys : List X) → NoneBefore R x ys → NoneBefore R x (filter p ys)
  NoneBefore-filter p x [] first = tt
  NoneBefore-filter p x (y ∷ ys) first = kept (NoneBefore-filter p x ys first.1) (p y) where
    kept : NoneBefore R x (filter p ys) → (b : Bool) → NoneBefore R x (cond b (y ∷ filter p ys) (filter p ys))
    kept later true = (first.0, later)
    kept later false = later

  filter-insert_by : (p : X → Bool) (ys : List X) (x : X) → Ascends R ys
      → filter p (insert_by R ys x) ≡ cond (p x) (insert_by R (filter p ys) x) (filter p ys)
  filter-insert_by p [] x up = refl
  filter-insert_by p (y ∷ ys) x up = placed (filter-insert_by p ys x up.1) (R x y) refl where
    front : is_gt (R x y) ≡ false → filter p (x ∷ y ∷ ys) ≡ cond (p x) (insert_by R (filter p (y ∷ ys)) x) (filter p (y ∷ ys))
    front below =
        let first : NoneBefore R x (y ∷ ys) = (below, NoneBefore-earlier x y ys below up.0) in
        ap (λ zs. cond (p x) zs (filter p (y ∷ ys))) (sym (insert_by-front (filter p (y ∷ ys)) x (NoneBefore-filter p x (y ∷ ys) first)))

    behind : (kept here : Bool) → R x y ≡ Greater
        → cond kept (y ∷ cond here (insert_by R (filter p ys) x) (filter p ys)) (cond here (insert_by R (filter p ys) x) (filter p ys))
        ≡ cond here (insert_by R (cond kept (y ∷ filter p ys) (filter p ys)) x) (cond kept (y ∷ filter p ys) (filter p ys))
    behind true true is = sym (ap (λ r. match_ordering r (x ∷ y ∷ filter p ys) (x ∷ y ∷ filter p ys) (y ∷ insert_by R (filter p ys) x)) is)
    behind true false is = refl
    behind false true is = refl
    behind false false is = refl

    placed : filter p (insert_by R ys x) ≡ cond (p x) (insert_by R (filter p ys) x) (filter p ys) → (r : Ordering) → R x y ≡ r
        → filter p (match_ordering r (x ∷ y ∷ ys) (x ∷ y ∷ ys) (y ∷ insert_by R ys x))
        ≡ cond (p x) (insert_by R (filter p (y ∷ ys)) x) (filter p (y ∷ ys))
    placed later Less is = front (ap is_gt is)
    placed later Equal is = front (ap is_gt is)
    placed later Greater is = ap (λ zs. cond (p y) (y ∷ zs) zs) later ∙ behind (p y) (p x) is

  filter-fold : (p : X → Bool) (done xs : List X) → Ascends R done
      → fold (insert_by R) (filter p done) (filter p xs) ≡ filter p (fold (insert_by R) done xs)
  filter-fold p done [] up = refl
  filter-fold p done (x ∷ xs) up = kept (filter-fold p (insert_by R done x) xs (Ascends-insert_by done x up)) (p x) refl where
    kept : fold (insert_by R) (filter p (insert_by R done x)) (filter p xs) ≡ filter p (fold (insert_by R) (insert_by R done x) xs)
        → (b : Bool) → p x ≡ b
        → fold (insert_by R) (filter p done) (cond b (x ∷ filter p xs) (filter p xs))
        ≡ filter p (fold (insert_by R) (insert_by R done x) xs)
    kept later true is =
        ap (λ zs. fold (insert_by R) zs (filter p xs))
        (sym (filter-insert_by p done x up ∙ ap (λ b. cond b (insert_by R (filter p done) x) (filter p done)) is))
        ∙ later
    kept later false is =
        ap (λ zs. fold (insert_by R) zs (filter p xs))
        (sym (filter-insert_by p done x up ∙ ap (λ b. cond b (insert_by R (filter p done) x) (filter p done)) is))
        ∙ later

  pub sorted_by-filter : (p : X → Bool) (xs : List X) → sorted_by R (filter p xs) ≡ filter p (sorted_by R xs)
  sorted_by-filter p xs = filter-fold p [] xs tt

-- ---- what holds by any comparison

module _ {X : Type 0} (R : X → X → Ordering) where
  pub sorted_by-push : (xs : List X) (x : X) → sorted_by R (xs ++ x ∷ []) ≡ insert_by R (sorted_by R xs) x
  sorted_by-push xs x = fold-append (insert_by R) [] xs (x ∷ [])

  pub IsPermutation-insert_by : (ys : List X) (x : X) → IsPermutation (x ∷ ys) (insert_by R ys x)
  IsPermutation-insert_by [] x = IsPermutation-refl (x ∷ [])
  IsPermutation-insert_by (y ∷ ys) x = placed (IsPermutation-insert_by ys x) (R x y) where
    placed : IsPermutation (x ∷ ys) (insert_by R ys x) → (r : Ordering)
        → IsPermutation (x ∷ y ∷ ys) (match_ordering r (x ∷ y ∷ ys) (x ∷ y ∷ ys) (y ∷ insert_by R ys x))
    placed later Less = IsPermutation-refl (x ∷ y ∷ ys)
    placed later Equal = IsPermutation-refl (x ∷ y ∷ ys)
    placed later Greater =
        IsPermutation-trans (x ∷ y ∷ ys) (y ∷ x ∷ ys) (y ∷ insert_by R ys x)
        (IsPermutation-middle (x ∷ []) y ys)
        (IsPermutation-cons y (x ∷ ys) (insert_by R ys x) later)

  IsPermutation-fold : (xs done : List X) → IsPermutation (xs ++ done) (fold (insert_by R) done xs)
  IsPermutation-fold [] done = IsPermutation-refl done
  IsPermutation-fold (x ∷ xs) done =
      IsPermutation-trans (x ∷ (xs ++ done)) (xs ++ x ∷ done) (fold (insert_by R) (insert_by R done x) xs)
      (IsPermutation-sym (xs ++ x ∷ done) (x ∷ (xs ++ done)) (IsPermutation-middle xs x done))
      (IsPermutation-trans (xs ++ x ∷ done) (xs ++ insert_by R done x) (fold (insert_by R) (insert_by R done x) xs)
      (IsPermutation-append_right xs (x ∷ done) (insert_by R done x) (IsPermutation-insert_by done x))
      (IsPermutation-fold xs (insert_by R done x)))

  pub IsPermutation-sorted_by : (xs : List X) → IsPermutation xs (sorted_by R xs)
  IsPermutation-sorted_by xs = subst (λ ys. IsPermutation ys (sorted_by R xs)) (append-nil xs) (IsPermutation-fold xs [])

-- ---- the only such list, where only equal items tie

module _ {X : Type 0} {R : X → X → Ordering} (o : IsTotalOrder R) (same : IsAntisymmetric R) where
  -- how many items of the list tie with q
  times : X → List X → ℕ
  times q = sum_by (λ x. cond (eq_by_cmp R q x) 1 0)

  times-cons : (q x : X) (xs : List X) → times q (x ∷ xs) ≡ cond (eq_by_cmp R q x) 1 0 + times q xs
  unfolding times
  times-cons q x xs = sum_by-cons (λ y. cond (eq_by_cmp R q y) 1 0) x xs

  times-itself : (x : X) (xs : List X) → times x (x ∷ xs) ≡ 1 + times x xs
  times-itself x xs = times-cons x x xs ∙ ap (λ r. cond (is_eq r) 1 0 + times x xs) (tied_itself o x)

  Less-later : (x y z : X) → R x y ≡ Less → is_gt (R y z) ≡ false → R x z ≡ Less
  Less-later x y z before below = by (R y z) refl below where
    by : (r : Ordering) → R y z ≡ r → is_gt r ≡ false → R x z ≡ Less
    by Less is below = o.trans x y z before is
    by Equal is below = sym (alike_right o y z x is) ∙ before
    by Greater is below = absurd (true≢false below)

  none_later : (x y : X) (ys : List X) → R x y ≡ Less → NoneBefore R y ys → times x ys ≡ 0
  unfolding times
  none_later x y [] before rest = refl
  none_later x y (z ∷ zs) before rest =
      times-cons x z zs ∙ ap (λ r. cond (is_eq r) 1 0 + times x zs) (Less-later x y z before rest.0)
      ∙ ap (λ n. 0 + n) (none_later x y zs before rest.1)

  none_at : (x y : X) (ys : List X) → R x y ≡ Less → NoneBefore R y ys → times x (y ∷ ys) ≡ 0
  none_at x y ys before rest =
      times-cons x y ys ∙ ap (λ r. cond (is_eq r) 1 0 + times x ys) before ∙ ap (λ n. 0 + n) (none_later x y ys before rest)

  cancelled : (x y : X) (xs ys : List X) (q : X) → x ≡ y → times q (x ∷ xs) ≡ times q (y ∷ ys) → times q xs ≡ times q ys
  cancelled x y xs ys q first counts =
      let weight : X → ℕ = λ z. cond (eq_by_cmp R q z) 1 0 in
      omega (arith, counts, times-cons q x xs, times-cons q y ys, ap weight first)

  none : (q : X) → times q [] ≡ 0
  unfolding times
  none q = refl

  same_times : (xs ys : List X) → Ascends R xs → Ascends R ys → ((q : X) → times q xs ≡ times q ys) → xs ≡ ys
  same_times [] [] up up' counts = refl
  same_times [] (y ∷ ys) up up' counts = absurd (omega (arith, counts y, none y, times-itself y ys))
  same_times (x ∷ xs) [] up up' counts = absurd (omega (arith, counts x, none x, times-itself x xs))
  same_times (x ∷ xs) (y ∷ ys) up up' counts = by (λ rest. same_times xs ys up.1 up'.1 rest) (R x y) refl where
    by : (((q : X) → times q xs ≡ times q ys) → xs ≡ ys) → (r : Ordering) → R x y ≡ r → x ∷ xs ≡ y ∷ ys
    by later Less is = absurd (omega (arith, counts x, times-itself x xs, none_at x y ys is up'.0))
    by later Greater is =
        let before : R y x ≡ Less = o.antisymm y x ∙ ap ordering_reverse is in
        absurd (omega (arith, counts y, times-itself y ys, none_at y x xs before up.0))
    by later Equal is =
        let first : x ≡ y = same x y is in
        let rest : (q : X) → times q xs ≡ times q ys = λ q. cancelled x y xs ys q first (counts q) in
        ap (λ z. z ∷ xs) first ∙ ap (λ zs. y ∷ zs) (later rest)

  -- two sorted lists of the same items are one list
  pub same_sorted : (xs ys : List X) → IsSorted R xs → IsSorted R ys → IsPermutation xs ys → xs ≡ ys
  unfolding times
  same_sorted xs ys up up' moved =
      same_times xs ys (Ascends-from_IsSorted o xs up) (Ascends-from_IsSorted o ys up')
      (λ q. sym (sum_by-IsPermutation (λ x. cond (eq_by_cmp R q x) 1 0) xs ys moved))

  -- so whatever sorts gives `sorted_by`
  pub sorted_by-only : (xs ys : List X) → IsSorted R ys → IsPermutation xs ys → ys ≡ sorted_by R xs
  sorted_by-only xs ys up moved =
      same_sorted ys (sorted_by R xs) up (IsSorted-sorted_by o xs)
      (IsPermutation-trans ys xs (sorted_by R xs) (IsPermutation-sym xs ys moved) (IsPermutation-sorted_by R xs))

  -- and lists of the same items are put in the same order
  pub sorted_by-IsPermutation : (xs ys : List X) → IsPermutation xs ys → sorted_by R xs ≡ sorted_by R ys
  sorted_by-IsPermutation xs ys moved =
      sorted_by-only ys (sorted_by R xs) (IsSorted-sorted_by o xs)
      (IsPermutation-trans ys xs (sorted_by R xs) (IsPermutation-sym xs ys moved) (IsPermutation-sorted_by R xs))

-- ---- distinct keys

module _ {K : Type 0} {R : K → K → Ordering} (o : IsTotalOrder R) where
  AllByRecursion-insert_key : (P : K → Type 0) (ks : List K) (k : K) → P k → AllByRecursion P ks → AllByRecursion P (insert_key R ks k)
  AllByRecursion-insert_key P [] k here rest = (here, tt)
  AllByRecursion-insert_key P (l ∷ ls) k here rest = placed (AllByRecursion-insert_key P ls k here rest.1) (R k l) where
    placed : AllByRecursion P (insert_key R ls k) → (r : Ordering)
        → AllByRecursion P (match_ordering r (k ∷ l ∷ ls) (l ∷ ls) (l ∷ insert_key R ls k))
    placed later Less = (here, rest)
    placed later Equal = rest
    placed later Greater = (rest.0, later)

  all_after : (k l : K) (ls : List K) → R k l ≡ Less → AllByRecursion (λ q. R l q ≡ Less) ls → AllByRecursion (λ q. R k q ≡ Less) ls
  all_after k l [] before rest = tt
  all_after k l (m ∷ ms) before rest = (o.trans k l m before rest.0, all_after k l ms before rest.1)

  -- strictly ascending keys stay so
  pub IsStrictlySortedBy-insert_key : (ks : List K) (k : K) → IsStrictlySortedBy R ks → IsStrictlySortedBy R (insert_key R ks k)
  unfolding IsStrictlySortedBy
  IsStrictlySortedBy-insert_key [] k up = (tt, tt)
  IsStrictlySortedBy-insert_key (l ∷ ls) k up = placed (IsStrictlySortedBy-insert_key ls k up.1) (R k l) refl where
    placed : IsStrictlySortedBy R (insert_key R ls k) → (r : Ordering) → R k l ≡ r
        → IsStrictlySortedBy R (match_ordering r (k ∷ l ∷ ls) (l ∷ ls) (l ∷ insert_key R ls k))
    placed later Less is = ((is, all_after k l ls is up.0), up)
    placed later Equal is = up
    placed later Greater is = (AllByRecursion-insert_key (λ q. R l q ≡ Less) ls k (o.antisymm l k ∙ ap ordering_reverse is) up.0, later)

-- what stands in the list then: what stood there, and the key; of tests that tell tied keys alike
pub list_any-insert_key : {K : Type 0} (R : K → K → Ordering) (p : K → Bool) → ((x y : K) → R x y ≡ Equal → p x ≡ p y)
    → (ks : List K) (k : K) → list_any p (insert_key R ks k) ≡ p k || list_any p ks
list_any-insert_key R p alike [] k = refl
list_any-insert_key R p alike (l ∷ ls) k = placed (list_any-insert_key R p alike ls k) (R k l) refl where
  moved : (a b c : Bool) → b || (a || c) ≡ a || (b || c)
  moved true true c = refl
  moved true false c = refl
  moved false true c = refl
  moved false false c = refl

  once : (a c : Bool) → a || c ≡ a || (a || c)
  once true c = refl
  once false c = refl

  placed : list_any p (insert_key R ls k) ≡ p k || list_any p ls → (r : Ordering) → R k l ≡ r
      → list_any p (match_ordering r (k ∷ l ∷ ls) (l ∷ ls) (l ∷ insert_key R ls k)) ≡ p k || (p l || list_any p ls)
  placed later Less is = refl
  placed later Equal is = once (p l) (list_any p ls) ∙ ap (λ b. b || (p l || list_any p ls)) (sym (alike k l is))
  placed later Greater is = ap (λ b. p l || b) later ∙ moved (p k) (p l) (list_any p ls)
