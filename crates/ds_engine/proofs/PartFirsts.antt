-- Of each mark the first, in a list that was joined from parts of which no two have a mark in common: as many of the first ones as are
-- asked for come out the same where each part is cut to as many of its own.
use Rattle.std.proofs.Common.{◌≡◌, ℕ, zero, suc, ◌+◌, ◌≤◌, ◌<◌, ◌==◌, List, [], ◌∷◌, ◌++◌, length, map, fold, take, refl, sym, ap, subst}
use Rattle.std.proofs.Common.{◌∙◌}
use Rattle.std.proofs.Common.{Bool, true, false, cond, not, ◌||◌, append_assoc, append-nil, length-append, arith}
use Rattle.std.specs.Prelude.{filter, flat_map, nat_lt, ⊤}
use Rattle.std.specs.Cmp.{IsTotalOrder}
use Rattle.std.specs.FinMap.{IsAntisymmetric}
use Rattle.std.specs.List.{AllByRecursion, list_any}
use Rattle.std.specs.List.Sorted.{IsPermutation}
use Rattle.std.specs.declared.cmp.Ordering.{Ordering}
use Rattle.std.proofs.lemmas.Bool.{ltb-true, ltb-false, eqb-true}
use Rattle.std.proofs.lemmas.Bool.Decides.{nat_tests}
use Rattle.std.proofs.lemmas.List.{take-append-le, take_all}
use Rattle.std.proofs.lemmas.List.Elements.{filter-append}
use Rattle.std.proofs.lemmas.List.Sorted.{IsPermutation-sym, IsPermutation-trans, IsPermutation-append_left}
use Rattle.std.proofs.lemmas.List.Sorted.{IsPermutation-append_right, IsPermutation-append_comm, IsPermutation-filter_both}
use Rattle.ds_base.specs.Sorting.{sorted_by}
use Rattle.ds_base.specs.SortingLaws.{NoneBefore, Ascends, Ascends-sorted_by, IsSorted-from_Ascends, sorted_by-filter, sorted_by-only}
use Rattle.ds_base.specs.SortingLaws.{IsPermutation-sorted_by, sorted_by-IsPermutation}
use Rattle.ds_model.proofs.AllOf.{all-sorted}
use Rattle.ds_pages.proofs.FirstLaws.{with_item}

-- ---- items that are kept

module _ {X : Type 0} (same : X → X → Bool) where
  -- of each mark the first, behind those that are kept
  abbrev pub firsts : List X → List X → List X
  firsts = fold (with_item same)

  pub there : (kept : List X) (x : X) → list_any (same x) kept ≡ true → with_item same kept x ≡ kept
  there kept x is = ap (λ b. cond b kept (kept ++ x ∷ [])) is

  pub new : (kept : List X) (x : X) → list_any (same x) kept ≡ false → with_item same kept x ≡ kept ++ x ∷ []
  new kept x is = ap (λ b. cond b kept (kept ++ x ∷ [])) is

  -- where enough are kept, what follows changes nothing of the first ones
  pub enough : (n : ℕ) (kept xs : List X) → n ≤ length kept → take n (firsts kept xs) ≡ take n kept
  enough n kept [] long = refl
  enough n kept (x ∷ xs) long = by (λ ks l. enough n ks xs l) (list_any (same x) kept) refl where
    by : ((ks : List X) → n ≤ length ks → take n (firsts ks xs) ≡ take n ks) → (b : Bool) → list_any (same x) kept ≡ b
        → take n (firsts (with_item same kept x) xs) ≡ take n kept
    by rest true is = ap (λ ks. take n (firsts ks xs)) (there kept x is) ∙ rest kept long
    by rest false is =
        ap (λ ks. take n (firsts ks xs)) (new kept x is)
        ∙ rest (kept ++ x ∷ []) (let more = length-append kept (x ∷ []) in omega (arith, long, more))
        ∙ take-append-le n kept (x ∷ []) long

-- what is left of an item of the part or of another one: those of the part whose mark is known go, and those for which there is no room
abbrev choose : {X : Type 0} → Bool → Bool → Bool → X → List X → List X → List X
choose own known room x rest more = cond own (cond known rest (cond room (x ∷ more) rest)) (x ∷ rest)

-- ---- one part

shorter : {X : Type 0} (p : X → Bool) (xs : List X) → length (filter p xs) ≤ length xs
shorter p [] = omega arith
shorter p (x ∷ xs) = by (p x) (shorter p xs) where
  by : (b : Bool) → length (filter p xs) ≤ length xs → length (cond b (x ∷ filter p xs) (filter p xs)) ≤ suc (length xs)
  by true rest = omega (arith, rest)
  by false rest = omega (arith, rest)

module _ {X : Type 0} (same : X → X → Bool) (p : X → Bool) (n : ℕ)
    (apart : (x y : X) → p x ≡ true → same x y ≡ true → p y ≡ true) where
  -- the list, its items of the part cut to the first n of each mark
  abbrev trimmed : List X → List X → List X
  trimmed kept [] = []
  trimmed kept (x ∷ xs) =
      choose (p x) (list_any (same x) kept) (nat_lt (length kept) n) x (trimmed kept xs) (trimmed (kept ++ x ∷ []) xs)

  chosen : (kept xs : List X) (x : X) (own known room : Bool) → p x ≡ own → list_any (same x) kept ≡ known
      → nat_lt (length kept) n ≡ room
      → trimmed kept (x ∷ xs) ≡ choose own known room x (trimmed kept xs) (trimmed (kept ++ x ∷ []) xs)
  chosen kept xs x own known room a b c = λ i. choose (a i) (b i) (c i) x (trimmed kept xs) (trimmed (kept ++ x ∷ []) xs)

  -- an item of the part has its mark among those of the part alone
  in_part : (x : X) (kept : List X) → p x ≡ true → list_any (same x) (filter p kept) ≡ list_any (same x) kept
  in_part x [] own = refl
  in_part x (y ∷ kept) own = by (in_part x kept own) (p y) refl (same x y) refl where
    differ : true ≡ false → ⊥
    differ e = cc

    by : list_any (same x) (filter p kept) ≡ list_any (same x) kept → (b : Bool) → p y ≡ b → (c : Bool) → same x y ≡ c
        → list_any (same x) (cond (p y) (y ∷ filter p kept) (filter p kept)) ≡ (same x y || list_any (same x) kept)
    by rest true is c k =
        ap (λ b. list_any (same x) (cond b (y ∷ filter p kept) (filter p kept))) is ∙ ap (λ b. same x y || b) rest
    by rest false is true k = absurd (differ (sym (apart x y own k) ∙ is))
    by rest false is false k =
        ap (λ b. list_any (same x) (cond b (y ∷ filter p kept) (filter p kept))) is ∙ rest
        ∙ ap (λ c. c || list_any (same x) kept) (sym k)

  own_part : (kept : List X) (x : X) → p x ≡ true → filter p (kept ++ x ∷ []) ≡ filter p kept ++ x ∷ []
  own_part kept x is = filter-append p kept (x ∷ []) ∙ ap (λ b. filter p kept ++ cond b (x ∷ []) []) is

  other_part : (kept : List X) (x : X) → p x ≡ false → filter p (with_item same kept x) ≡ filter p kept
  other_part kept x is = by (list_any (same x) kept) where
    by : (b : Bool) → filter p (cond b kept (kept ++ x ∷ [])) ≡ filter p kept
    by true = refl
    by false =
        filter-append p kept (x ∷ []) ∙ ap (λ b. filter p kept ++ cond b (x ∷ []) []) is ∙ append-nil (filter p kept)

  full : (kept : List X) → nat_lt (length kept) n ≡ false → n ≤ length kept
  full kept is = ltb-false (length kept) n is

  -- the first n come out the same
  kept_same : (kept xs : List X) → take n (firsts same kept xs) ≡ take n (firsts same kept (trimmed (filter p kept) xs))
  kept_same kept [] = refl
  kept_same kept (x ∷ xs) =
      by (λ ks. kept_same ks xs) (p x) refl (list_any (same x) kept) refl (nat_lt (length (filter p kept)) n) refl
    where
      cut : (own known room : Bool) → p x ≡ own → list_any (same x) (filter p kept) ≡ known → nat_lt (length (filter p kept)) n ≡ room
          → take n (firsts same kept (trimmed (filter p kept) (x ∷ xs)))
          ≡ take n (firsts same kept (choose own known room x (trimmed (filter p kept) xs) (trimmed (filter p kept ++ x ∷ []) xs)))
      cut own known room a b c = ap (λ zs. take n (firsts same kept zs)) (chosen (filter p kept) xs x own known room a b c)

      by : ((ks : List X) → take n (firsts same ks xs) ≡ take n (firsts same ks (trimmed (filter p ks) xs)))
          → (own : Bool) → p x ≡ own → (known : Bool) → list_any (same x) kept ≡ known
          → (room : Bool) → nat_lt (length (filter p kept)) n ≡ room
          → take n (firsts same (with_item same kept x) xs) ≡ take n (firsts same kept (trimmed (filter p kept) (x ∷ xs)))
      by rest false is known k room r =
          rest (with_item same kept x)
          ∙ ap (λ ps. take n (firsts same (with_item same kept x) (trimmed ps xs))) (other_part kept x is)
          ∙ sym (cut false (list_any (same x) (filter p kept)) room is refl r)
      by rest true is true k room r =
          ap (λ ks. take n (firsts same ks xs)) (there same kept x k)
          ∙ rest kept
          ∙ sym (cut true true room is (in_part x kept is ∙ k) r)
      by rest true is false k true r =
          ap (λ ks. take n (firsts same ks xs)) (new same kept x k)
          ∙ rest (kept ++ x ∷ [])
          ∙ ap (λ ps. take n (firsts same (kept ++ x ∷ []) (trimmed ps xs))) (own_part kept x is)
          ∙ ap (λ ks. take n (firsts same ks (trimmed (filter p kept ++ x ∷ []) xs))) (sym (new same kept x k))
          ∙ sym (cut true false true is (in_part x kept is ∙ k) r)
      by rest true is false k false r =
          let here = full (filter p kept) r in
          let some = shorter p kept in
          let long : n ≤ length kept = omega (arith, here, some) in
          let more = length-append kept (x ∷ []) in
          ap (λ ks. take n (firsts same ks xs)) (new same kept x k)
          ∙ enough same n (kept ++ x ∷ []) xs (omega (arith, long, more))
          ∙ take-append-le n kept (x ∷ []) long
          ∙ sym (cut true false false is (in_part x kept is ∙ k) r ∙ enough same n kept (trimmed (filter p kept) xs) long)

  -- what is left of the part are its own first n
  part_of : (kept xs : List X) → length kept ≤ n → kept ++ filter p (trimmed kept xs) ≡ take n (firsts same kept (filter p xs))
  part_of kept [] few = append-nil kept ∙ sym (take_all n kept few)
  part_of kept (x ∷ xs) few =
      by (λ ks f. part_of ks xs f) (p x) refl (list_any (same x) kept) refl (nat_lt (length kept) n) refl
    where
      cut : (own known room : Bool) → p x ≡ own → list_any (same x) kept ≡ known → nat_lt (length kept) n ≡ room
          → kept ++ filter p (trimmed kept (x ∷ xs))
          ≡ kept ++ filter p (choose own known room x (trimmed kept xs) (trimmed (kept ++ x ∷ []) xs))
      cut own known room a b c = ap (λ zs. kept ++ filter p zs) (chosen kept xs x own known room a b c)

      whole : (own : Bool) → p x ≡ own
          → take n (firsts same kept (filter p (x ∷ xs))) ≡ take n (firsts same kept (cond own (x ∷ filter p xs) (filter p xs)))
      whole own is = ap (λ b. take n (firsts same kept (cond b (x ∷ filter p xs) (filter p xs)))) is

      by : ((ks : List X) → length ks ≤ n → ks ++ filter p (trimmed ks xs) ≡ take n (firsts same ks (filter p xs)))
          → (own : Bool) → p x ≡ own → (known : Bool) → list_any (same x) kept ≡ known → (room : Bool) → nat_lt (length kept) n ≡ room
          → kept ++ filter p (trimmed kept (x ∷ xs)) ≡ take n (firsts same kept (filter p (x ∷ xs)))
      by rest false is known k room r =
          cut false known room is k r
          ∙ ap (λ b. kept ++ cond b (x ∷ filter p (trimmed kept xs)) (filter p (trimmed kept xs))) is
          ∙ rest kept few
          ∙ sym (whole false is)
      by rest true is true k room r =
          cut true true room is k r
          ∙ rest kept few
          ∙ ap (λ ks. take n (firsts same ks (filter p xs))) (sym (there same kept x k))
          ∙ sym (whole true is)
      by rest true is false k true r =
          let more = length-append kept (x ∷ []) in
          let below : length kept < n = ltb-true (length kept) n r in
          cut true false true is k r
          ∙ ap (λ b. kept ++ cond b (x ∷ filter p (trimmed (kept ++ x ∷ []) xs)) (filter p (trimmed (kept ++ x ∷ []) xs))) is
          ∙ sym (append_assoc kept (x ∷ []) (filter p (trimmed (kept ++ x ∷ []) xs)))
          ∙ rest (kept ++ x ∷ []) (omega (arith, more, below))
          ∙ ap (λ ks. take n (firsts same ks (filter p xs))) (sym (new same kept x k))
          ∙ sym (whole true is)
      by rest true is false k false r =
          let long = full kept r in
          let more = length-append kept (x ∷ []) in
          cut true false false is k r
          ∙ rest kept few
          ∙ enough same n kept (filter p xs) long
          ∙ sym (ap (λ ks. take n (firsts same ks (filter p xs))) (new same kept x k)
          ∙ enough same n (kept ++ x ∷ []) (filter p xs) (omega (arith, long, more))
          ∙ take-append-le n kept (x ∷ []) long)
          ∙ sym (whole true is)

  abbrev other : X → Bool
  other x = not (p x)

  -- the other items stay
  others : (kept xs : List X) → filter other (trimmed kept xs) ≡ filter other xs
  others kept [] = refl
  others kept (x ∷ xs) = by (λ ks. others ks xs) (p x) refl (list_any (same x) kept) refl (nat_lt (length kept) n) refl where
    whole : (own : Bool) → p x ≡ own → filter other (x ∷ xs) ≡ cond (not own) (x ∷ filter other xs) (filter other xs)
    whole own is = ap (λ b. cond (not b) (x ∷ filter other xs) (filter other xs)) is

    by : ((ks : List X) → filter other (trimmed ks xs) ≡ filter other xs)
        → (own : Bool) → p x ≡ own → (known : Bool) → list_any (same x) kept ≡ known → (room : Bool) → nat_lt (length kept) n ≡ room
        → filter other (trimmed kept (x ∷ xs)) ≡ filter other (x ∷ xs)
    by rest false is known k room r =
        ap (filter other) (chosen kept xs x false known room is k r)
        ∙ ap (λ b. cond (not b) (x ∷ filter other (trimmed kept xs)) (filter other (trimmed kept xs))) is
        ∙ ap (λ zs. x ∷ zs) (rest kept) ∙ sym (whole false is)
    by rest true is true k room r = ap (filter other) (chosen kept xs x true true room is k r) ∙ rest kept ∙ sym (whole true is)
    by rest true is false k true r =
        ap (filter other) (chosen kept xs x true false true is k r)
        ∙ ap (λ b. cond (not b) (x ∷ filter other (trimmed (kept ++ x ∷ []) xs)) (filter other (trimmed (kept ++ x ∷ []) xs))) is
        ∙ rest (kept ++ x ∷ []) ∙ sym (whole true is)
    by rest true is false k false r =
        ap (filter other) (chosen kept xs x true false false is k r) ∙ rest kept ∙ sym (whole true is)

  -- ---- in order

  module _ {R : X → X → Ordering} (o : IsTotalOrder R) (equal : IsAntisymmetric R) where
    none_before : (y : X) (kept xs : List X) → NoneBefore R y xs → NoneBefore R y (trimmed kept xs)
    none_before y kept [] none = tt
    none_before y kept (x ∷ xs) none =
        by (λ ks. none_before y ks xs none.1) (p x) (list_any (same x) kept) (nat_lt (length kept) n)
      where
        by : ((ks : List X) → NoneBefore R y (trimmed ks xs)) → (own known room : Bool)
            → NoneBefore R y (choose own known room x (trimmed kept xs) (trimmed (kept ++ x ∷ []) xs))
        by rest false known room = (none.0, rest kept)
        by rest true true room = rest kept
        by rest true false true = (none.0, rest (kept ++ x ∷ []))
        by rest true false false = rest kept

    ascends : (kept xs : List X) → Ascends R xs → Ascends R (trimmed kept xs)
    ascends kept [] up = tt
    ascends kept (x ∷ xs) up =
        by (λ ks. ascends ks xs up.1) (p x) (list_any (same x) kept) (nat_lt (length kept) n)
      where
        by : ((ks : List X) → Ascends R (trimmed ks xs)) → (own known room : Bool)
            → Ascends R (choose own known room x (trimmed kept xs) (trimmed (kept ++ x ∷ []) xs))
        by rest false known room = (none_before x kept xs up.0, rest kept)
        by rest true true room = rest kept
        by rest true false true = (none_before x (kept ++ x ∷ []) xs up.0, rest (kept ++ x ∷ []))
        by rest true false false = rest kept

    only : (xs ys : List X) → AllByRecursion (λ x. p x ≡ true) xs → AllByRecursion (λ y. p y ≡ false) ys → filter p (xs ++ ys) ≡ xs
    only [] [] a b = refl
    only [] (y ∷ ys) a b = ap (λ c. cond c (y ∷ filter p ys) (filter p ys)) b.0 ∙ only [] ys a b.1
    only (x ∷ xs) ys a b = ap (λ c. cond c (x ∷ filter p (xs ++ ys)) (filter p (xs ++ ys))) a.0 ∙ ap (λ zs. x ∷ zs) (only xs ys a.1 b)

    none_own : (xs ys : List X) → AllByRecursion (λ x. p x ≡ true) xs → AllByRecursion (λ y. p y ≡ false) ys → filter other (xs ++ ys) ≡ ys
    none_own [] [] a b = refl
    none_own [] (y ∷ ys) a b =
        ap (λ c. cond (not c) (y ∷ filter other ys) (filter other ys)) b.0 ∙ ap (λ zs. y ∷ zs) (none_own [] ys a b.1)
    none_own (x ∷ xs) ys a b =
        ap (λ c. cond (not c) (x ∷ filter other (xs ++ ys)) (filter other (xs ++ ys))) a.0 ∙ none_own xs ys a.1 b

    abbrev own_firsts : List X → List X
    own_firsts xs = take n (firsts same [] (sorted_by R xs))

    -- the first n of all are told by the first n of the part beside the others
    pub joined_part : (xs ys : List X) → AllByRecursion (λ x. p x ≡ true) xs → AllByRecursion (λ y. p y ≡ false) ys
        → own_firsts (xs ++ ys) ≡ own_firsts (own_firsts xs ++ ys)
    joined_part xs ys a b =
        let sorted : List X = sorted_by R (xs ++ ys) in
        let cut : List X = trimmed [] sorted in
        let own : filter p cut ≡ own_firsts xs =
        part_of [] sorted (omega arith)
        ∙ ap (λ zs. take n (firsts same [] zs)) (sym (sorted_by-filter o p (xs ++ ys)) ∙ ap (sorted_by R) (only xs ys a b)) in
        let rest : filter other cut ≡ sorted_by R ys =
        others [] sorted ∙ sym (sorted_by-filter o other (xs ++ ys)) ∙ ap (sorted_by R) (none_own xs ys a b) in
        let moved : IsPermutation (own_firsts xs ++ ys) cut =
        IsPermutation-trans (own_firsts xs ++ ys) (own_firsts xs ++ sorted_by R ys) cut
        (IsPermutation-append_right (own_firsts xs) ys (sorted_by R ys) (IsPermutation-sorted_by R ys))
        (subst (λ zs. IsPermutation zs cut) (λ i. own i ++ rest i)
        (IsPermutation-sym cut (filter p cut ++ filter other cut) (IsPermutation-filter_both p other (λ x. refl) cut))) in
        kept_same [] sorted
        ∙ ap (λ zs. take n (firsts same [] zs))
        (sorted_by-only o equal (own_firsts xs ++ ys) cut (IsSorted-from_Ascends o cut (ascends [] sorted (Ascends-sorted_by o (xs ++ ys))))
        moved)

-- what holds of all items holds of the first ones
module _ {X : Type 0} (same : X → X → Bool) (P : X → Type 0) where
  pub kept_all : (kept xs : List X) → AllByRecursion P kept → AllByRecursion P xs → AllByRecursion P (firsts same kept xs)
  kept_all kept [] a b = a
  kept_all kept (x ∷ xs) a b = kept_all (with_item same kept x) xs (by (list_any (same x) kept)) b.1 where
    push : (ks : List X) → AllByRecursion P ks → AllByRecursion P (ks ++ x ∷ [])
    push [] c = (b.0, tt)
    push (k ∷ ks) c = (c.0, push ks c.1)

    by : (c : Bool) → AllByRecursion P (cond c kept (kept ++ x ∷ []))
    by true = a
    by false = push kept a

pub taken_all : {X : Type 0} (P : X → Type 0) (m : ℕ) (xs : List X) → AllByRecursion P xs → AllByRecursion P (take m xs)
taken_all P zero xs a = tt
taken_all P (suc m) [] a = tt
taken_all P (suc m) (x ∷ xs) a = (a.0, taken_all P m xs a.1)

-- ---- all parts

-- the items of each list have its number as their place, from a first number on
abbrev pub AreParts : {X : Type 0} → (X → ℕ) → ℕ → List (List X) → Type 0
AreParts place first [] = ⊤
AreParts place first (xs ∷ lists) = AllByRecursion (λ x. place x ≡ first) xs × AreParts place (first + 1) lists

module _ {X : Type 0} (same : X → X → Bool) (place : X → ℕ) (n : ℕ) (apart : (x y : X) → same x y ≡ true → place x ≡ place y)
    {R : X → X → Ordering} (o : IsTotalOrder R) (equal : IsAntisymmetric R) where
  -- the first n of each mark, in order
  abbrev pub first_few : List X → List X
  first_few xs = take n (firsts same [] (sorted_by R xs))

  abbrev all : List (List X) → List X
  all = flat_map (λ xs. xs)

  module _ (first : ℕ) where
    abbrev here : X → Bool
    here x = place x == first

    is_here : (x : X) → place x ≡ first → here x ≡ true
    is_here x e = ap (λ m. m == first) e ∙ itself first where
      itself : (m : ℕ) → (m == m) ≡ true
      itself m = grind (arith, nat_tests)

    is_elsewhere : (x : X) → (place x ≡ first → ⊥) → here x ≡ false
    is_elsewhere x other = by (here x) refl where
      by : (b : Bool) → here x ≡ b → b ≡ false
      by true is = absurd (other (eqb-true (place x) first is))
      by false is = refl

    own : (xs : List X) → AllByRecursion (λ x. place x ≡ first) xs → AllByRecursion (λ x. here x ≡ true) xs
    own [] a = tt
    own (x ∷ xs) a = (is_here x a.0, own xs a.1)

    before : (xs : List X) → AllByRecursion (λ x. place x < first) xs → AllByRecursion (λ x. here x ≡ false) xs
    before [] a = tt
    before (x ∷ xs) a = (is_elsewhere x (λ e. let b = a.0 in absurd (omega (arith, b, e))), before xs a.1)

    together : (xs ys : List X) → AllByRecursion (λ x. here x ≡ false) xs → AllByRecursion (λ x. here x ≡ false) ys
        → AllByRecursion (λ x. here x ≡ false) (xs ++ ys)
    together [] ys a b = b
    together (x ∷ xs) ys a b = (a.0, together xs ys a.1 b)

    behind_own : (k : ℕ) (xs : List X) → first < k → AllByRecursion (λ x. place x ≡ k) xs → AllByRecursion (λ x. here x ≡ false) xs
    behind_own k [] past a = tt
    behind_own k (x ∷ xs) past a =
        (is_elsewhere x (λ e. let b = a.0 in absurd (omega (arith, b, e, past))), behind_own k xs past a.1)

    behind : (k : ℕ) (lists : List (List X)) → first < k → AreParts place k lists → AllByRecursion (λ x. here x ≡ false) (all lists)
    behind k [] past a = tt
    behind k (xs ∷ lists) past a = together xs (all lists) (behind_own k xs past a.0) (behind (k + 1) lists (omega (arith, past)) a.1)

  few_all : (P : X → Type 0) (xs : List X) → AllByRecursion P xs → AllByRecursion P (first_few xs)
  few_all P xs a = taken_all P n (firsts same [] (sorted_by R xs)) (kept_all same P [] (sorted_by R xs) tt (all-sorted P R xs a))

  up_to : (first : ℕ) (front xs : List X) → AllByRecursion (λ x. place x < first) front → AllByRecursion (λ x. place x ≡ first) xs
      → AllByRecursion (λ x. place x < first + 1) (front ++ xs)
  up_to first [] [] a b = tt
  up_to first [] (x ∷ xs) a b = (let c = b.0 in omega (arith, c), up_to first [] xs a b.1)
  up_to first (f ∷ front) xs a b = (let c = a.0 in omega (arith, c), up_to first front xs a.1 b)

  few_same : (xs ys : List X) → IsPermutation xs ys → first_few xs ≡ first_few ys
  few_same xs ys moved = ap (λ zs. take n (firsts same [] zs)) (sorted_by-IsPermutation o equal xs ys moved)

  swapped : (front xs rest : List X) → IsPermutation (front ++ (xs ++ rest)) (xs ++ (front ++ rest))
  swapped front xs rest =
      subst (λ zs. IsPermutation zs (xs ++ (front ++ rest))) (append_assoc front xs rest)
      (subst (λ zs. IsPermutation ((front ++ xs) ++ rest) zs) (append_assoc xs front rest)
      (IsPermutation-append_left rest (front ++ xs) (xs ++ front) (IsPermutation-append_comm front xs)))

  from : (first : ℕ) (front : List X) (lists : List (List X)) → AllByRecursion (λ x. place x < first) front → AreParts place first lists
      → first_few (front ++ all lists) ≡ first_few (front ++ all (map first_few lists))
  from first front [] a b = refl
  from first front (xs ∷ lists) a b =
      let rest : List X = all lists in
      let few : List X = first_few xs in
      few_same (front ++ (xs ++ rest)) (xs ++ (front ++ rest)) (swapped front xs rest)
      ∙ joined_part same (here first) n
      (λ x y is k. is_here first y (sym (apart x y k) ∙ eqb-true (place x) first is)) o equal xs (front ++ rest)
      (own first xs b.0) (together first front rest (before first front a) (behind first (first + 1) lists (omega arith) b.1))
      ∙ few_same (few ++ (front ++ rest)) ((front ++ few) ++ rest)
      (subst (λ zs. IsPermutation (few ++ (front ++ rest)) zs) (sym (append_assoc front few rest))
      (IsPermutation-sym (front ++ (few ++ rest)) (few ++ (front ++ rest)) (swapped front few rest)))
      ∙ from (first + 1) (front ++ few) lists
      (up_to first front few a (few_all (λ x. place x ≡ first) xs b.0)) b.1
      ∙ ap first_few (append_assoc front few (all (map first_few lists)))

  -- the first n of all are told by the first n of each part
  pub first_of_parts : (lists : List (List X)) → AreParts place 0 lists → first_few (all lists) ≡ first_few (all (map first_few lists))
  first_of_parts lists parts = from 0 [] lists tt parts
