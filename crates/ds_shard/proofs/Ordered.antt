-- A list that strictly ascends is what each list with the same elements is in order.
use Rattle.std.proofs.Common.{◌≡◌, ℕ, ◌+◌, Bool, true, false, cond, List, [], ◌∷◌, refl, sym, ap, ◌∙◌, arith}
use Rattle.std.specs.Cmp.{IsTotalOrder, alike_right, tied_itself}
use Rattle.std.specs.FinMap.{IsAntisymmetric}
use Rattle.std.specs.List.{AllByRecursion}
use Rattle.std.specs.List.Sorted.{IsStrictlySortedBy}
use Rattle.std.specs.declared.cmp.Ordering.{Ordering}
use Rattle.std.specs.declared.cmp.Ordering.TheVariants.{Less, Equal, Greater}
use Rattle.std.specs.Ordering.{is_eq, is_gt, ordering_reverse, eq_by_cmp}
use Rattle.std.proofs.lemmas.List.Sorted.{sum_by-IsPermutation}
use Rattle.ds_base.specs.Sorting.{sorted_by}
use Rattle.ds_base.specs.SortingLaws.{NoneBefore, Ascends, Ascends-sorted_by, IsPermutation-sorted_by}
use Rattle.ds_shard.specs.Contents.{counted, HaveSame}
use Rattle.ds_shard.proofs.Counting.{counted_by}

not_false : true ≡ false → ⊥
not_false e = cc

module _ {X : Type 0} {R : X → X → Ordering} (o : IsTotalOrder R) (same : IsAntisymmetric R) where
  none_before : (x : X) (ys : List X) → AllByRecursion (λ y. R x y ≡ Less) ys → NoneBefore R x ys
  none_before x [] h = tt
  none_before x (y ∷ ys) h = (ap is_gt h.0, none_before x ys h.1)

  ascends : (xs : List X) → IsStrictlySortedBy R xs → Ascends R xs
  unfolding IsStrictlySortedBy
  ascends [] h = tt
  ascends (x ∷ xs) h = (none_before x xs h.0, ascends xs h.1)

  less_later : (x y z : X) → R x y ≡ Less → is_gt (R y z) ≡ false → R x z ≡ Less
  less_later x y z before below = by (R y z) refl below where
    by : (r : Ordering) → R y z ≡ r → is_gt r ≡ false → R x z ≡ Less
    by Less is below = o.trans x y z before is
    by Equal is below = sym (alike_right o y z x is) ∙ before
    by Greater is below = absurd (not_false below)

  -- what is below the first of a list that ascends isn't in it
  none_later : (x y : X) (ys : List X) → R x y ≡ Less → NoneBefore R y ys → counted (eq_by_cmp R x) ys ≡ 0
  none_later x y [] before rest = refl
  none_later x y (z ∷ zs) before rest =
      let i = none_later x y zs before rest.1 in
      let n : 0 + counted (eq_by_cmp R x) zs ≡ 0 = omega (arith, i) in
      ap (λ r. cond (is_eq r) 1 0 + counted (eq_by_cmp R x) zs) (less_later x y z before rest.0) ∙ n

  none_at : (x y : X) (ys : List X) → R x y ≡ Less → NoneBefore R y ys → counted (eq_by_cmp R x) (y ∷ ys) ≡ 0
  none_at x y ys before rest =
      let i = none_later x y ys before rest in
      let n : 0 + counted (eq_by_cmp R x) ys ≡ 0 = omega (arith, i) in
      ap (λ r. cond (is_eq r) 1 0 + counted (eq_by_cmp R x) ys) before ∙ n

  itself : (x : X) (xs : List X) → counted (eq_by_cmp R x) (x ∷ xs) ≡ 1 + counted (eq_by_cmp R x) xs
  itself x xs = ap (λ r. cond (is_eq r) 1 0 + counted (eq_by_cmp R x) xs) (tied_itself o x)

  cancelled : (x y : X) (xs ys : List X) → x ≡ y → HaveSame (x ∷ xs) (y ∷ ys) → HaveSame xs ys
  cancelled x y xs ys e h = λ p.
      let weight : X → ℕ = λ z. cond (p z) 1 0 in
      let first : weight x ≡ weight y = ap weight e in
      let both = h p in
      omega (arith, both, first)

  same_list : (xs ys : List X) → Ascends R xs → Ascends R ys → HaveSame xs ys → xs ≡ ys
  same_list [] [] up up' h = refl
  same_list [] (y ∷ ys) up up' h = let a = h (eq_by_cmp R y) in let b = itself y ys in absurd (omega (arith, a, b))
  same_list (x ∷ xs) [] up up' h = let a = h (eq_by_cmp R x) in let b = itself x xs in absurd (omega (arith, a, b))
  same_list (x ∷ xs) (y ∷ ys) up up' h = by (λ rest. same_list xs ys up.1 up'.1 rest) (R x y) refl where
    by : (HaveSame xs ys → xs ≡ ys) → (r : Ordering) → R x y ≡ r → x ∷ xs ≡ y ∷ ys
    by later Less is =
        let a = h (eq_by_cmp R x) in
        let b = itself x xs in
        let c = none_at x y ys is up'.0 in
        absurd (omega (arith, a, b, c))
    by later Greater is =
        let before : R y x ≡ Less = o.antisymm y x ∙ ap ordering_reverse is in
        let a = h (eq_by_cmp R y) in
        let b = itself y ys in
        let c = none_at y x xs before up.0 in
        absurd (omega (arith, a, b, c))
    by later Equal is =
        let first : x ≡ y = same x y is in
        let rest : xs ≡ ys = later (cancelled x y xs ys first h) in
        λ t. first t ∷ rest t

  counted-sorted : (p : X → Bool) (xs : List X) → counted p (sorted_by R xs) ≡ counted p xs
  counted-sorted p xs =
      counted_by p (sorted_by R xs)
      ∙ sum_by-IsPermutation (λ x. cond (p x) 1 0) xs (sorted_by R xs) (IsPermutation-sorted_by R xs)
      ∙ sym (counted_by p xs)

  pub in_order : (xs ys : List X) → IsStrictlySortedBy R ys → HaveSame ys xs → ys ≡ sorted_by R xs
  in_order xs ys up h =
      same_list ys (sorted_by R xs) (ascends ys up) (Ascends-sorted_by o xs) (λ p. h p ∙ sym (counted-sorted p xs))
