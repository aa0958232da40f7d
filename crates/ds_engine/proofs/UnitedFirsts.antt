-- Of each mark the first, in a list that was joined from parts which may have marks in common: it comes out the same where each part has
-- given the first of each of its own marks alone; and as many of the first ones as are asked for, where each has given as many of its own.
use Rattle.std.proofs.Common.{◌≡◌, ◌⊎◌, inl, inr, ℕ, ◌≤◌, List, [], ◌∷◌, ◌++◌, length, fold, take, drop, refl, sym, ap, subst, ◌∙◌}
use Rattle.std.proofs.Common.{Bool, true, false, cond, not, ◌||◌, ◌&&◌, append_assoc, append-nil, arith}
use Rattle.std.specs.Prelude.{filter, flat_map, nat_lt}
use Rattle.std.specs.Cmp.{IsEquivalence, IsTotalOrder}
use Rattle.std.specs.FinMap.{IsAntisymmetric}
use Rattle.std.specs.List.{AllByRecursion, IsDistinct, list_any}
use Rattle.std.specs.List.Sorted.{IsPermutation}
use Rattle.std.specs.Ordering.{is_gt, ordering_reverse, match_ordering}
use Rattle.std.specs.declared.cmp.Ordering.{Ordering}
use Rattle.std.specs.declared.cmp.Ordering.TheVariants.{Less, Equal, Greater}
use Rattle.std.proofs.lemmas.Bool.{ltb-false, ltb-true, true≢false}
use Rattle.std.proofs.lemmas.List.{length-take-le, take-append-drop, take_all}
use Rattle.std.proofs.lemmas.List.Folds.{list_any-append}
use Rattle.std.proofs.lemmas.List.Sorted.{IsPermutation-refl, IsPermutation-trans, IsPermutation-append_left}
use Rattle.std.proofs.lemmas.List.Sorted.{IsPermutation-append_right, IsPermutation-append_comm, list_any-IsPermutation}
use Rattle.std.proofs.lemmas.Map.Made.{length-le_from_is_member}
use Rattle.ds_base.specs.Sorting.{insert_by, sorted_by}
use Rattle.ds_base.specs.SortingLaws.{NoneBefore, Ascends, Ascends-sorted_by, IsPermutation-sorted_by, sorted_by-IsPermutation}
use Rattle.ds_base.specs.SortingLaws.{sorted_by-filter, sorted_by-push}
use Rattle.ds_model.proofs.AllOf.{all_of}
use Rattle.ds_pages.proofs.FirstLaws.{with_item}
use Rattle.ds_engine.proofs.Apart.{Apart, apart_firsts, apart_taken}
use Rattle.ds_engine.proofs.PartFirsts.{enough, firsts, there, new}

-- ---- what stands for a list

module _ {X : Type 0} (F : List X → List X) (moved : (xs ys : List X) → IsPermutation xs ys → F xs ≡ F ys)
    (part : (xs ys : List X) → F (xs ++ ys) ≡ F (F xs ++ ys)) where
  part_stands : (xs zs ys : List X) → F xs ≡ F zs → F (xs ++ ys) ≡ F (zs ++ ys)
  part_stands xs zs ys e = part xs ys ∙ ap (λ fs. F (fs ++ ys)) e ∙ sym (part zs ys)

  behind_stands : (front xs zs : List X) → F xs ≡ F zs → F (front ++ xs) ≡ F (front ++ zs)
  behind_stands front xs zs e =
      moved (front ++ xs) (xs ++ front) (IsPermutation-append_comm front xs)
      ∙ part_stands xs zs front e
      ∙ moved (zs ++ front) (front ++ zs) (IsPermutation-append_comm zs front)

  -- parts for which the same stands, taken together
  parts_stand : {A : Type 0} (f g : A → List X) (items : List A) → AllByRecursion (λ a. F (f a) ≡ F (g a)) items
      → F (flat_map f items) ≡ F (flat_map g items)
  parts_stand f g [] each = refl
  parts_stand f g (a ∷ items) each =
      part_stands (f a) (g a) (flat_map f items) each.0
      ∙ behind_stands (g a) (flat_map f items) (flat_map g items) (parts_stand f g items each.1)

  -- what stands for a list stands for itself
  stands_itself : (xs : List X) → F (F xs) ≡ F xs
  stands_itself xs = ap F (sym (append-nil (F xs))) ∙ sym (part xs []) ∙ ap F (append-nil xs)

-- ---- the first of each mark

module _ {X : Type 0} (same : X → X → Bool) (itself : (x : X) → same x x ≡ true)
    (along : (x y z : X) → same x y ≡ true → same y z ≡ true → same x z ≡ true)
    {R : X → X → Ordering} (o : IsTotalOrder R) (equal : IsAntisymmetric R) where
  -- ---- marks that are known

  abbrev Knows : List X → X → Type 0
  Knows kept x = list_any (same x) kept ≡ true

  or_right : (a b : Bool) → b ≡ true → (a || b) ≡ true
  or_right true b e = refl
  or_right false b e = e

  or_left : (a b : Bool) → a ≡ true → (a || b) ≡ true
  or_left true b e = refl
  or_left false b e = absurd (true≢false (sym e))

  either : (a b : Bool) → (a || b) ≡ true → (a ≡ true) ⊎ (b ≡ true)
  either true b e = inl refl
  either false b e = inr e

  knows_pushed : (kept : List X) (x y : X) → Knows kept x → Knows (kept ++ y ∷ []) x
  knows_pushed [] x y e = absurd (true≢false (sym e))
  knows_pushed (k ∷ kept) x y e = by (knows_pushed kept x y) (either (same x k) (list_any (same x) kept) e) where
    by : (Knows kept x → Knows (kept ++ y ∷ []) x) → (same x k ≡ true) ⊎ (list_any (same x) kept ≡ true)
        → (same x k || list_any (same x) (kept ++ y ∷ [])) ≡ true
    by rest (inl here) = or_left (same x k) (list_any (same x) (kept ++ y ∷ [])) here
    by rest (inr later) = or_right (same x k) (list_any (same x) (kept ++ y ∷ [])) (rest later)

  knows_last : (kept : List X) (x y : X) → same x y ≡ true → Knows (kept ++ y ∷ []) x
  knows_last [] x y e = or_left (same x y) false e
  knows_last (k ∷ kept) x y e = or_right (same x k) (list_any (same x) (kept ++ y ∷ [])) (knows_last kept x y e)

  knows_along : (kept : List X) (x y : X) → same x y ≡ true → Knows kept y → Knows kept x
  knows_along [] x y e known = absurd (true≢false (sym known))
  knows_along (k ∷ kept) x y e known = by (knows_along kept x y e) (either (same y k) (list_any (same y) kept) known) where
    by : (Knows kept y → Knows kept x) → (same y k ≡ true) ⊎ (list_any (same y) kept ≡ true)
        → (same x k || list_any (same x) kept) ≡ true
    by rest (inl here) = or_left (same x k) (list_any (same x) kept) (along x y k e here)
    by rest (inr later) = or_right (same x k) (list_any (same x) kept) (rest later)

  -- what is known stays known
  knows_more : (kept : List X) (x y : X) → Knows kept x → Knows (with_item same kept y) x
  knows_more kept x y known = by (list_any (same y) kept) where
    by : (b : Bool) → Knows (cond b kept (kept ++ y ∷ [])) x
    by true = known
    by false = knows_pushed kept x y known

  knows_put : (kept : List X) (x y : X) → same x y ≡ true → Knows (with_item same kept y) x
  knows_put kept x y e = by (list_any (same y) kept) refl where
    by : (b : Bool) → list_any (same y) kept ≡ b → Knows (cond b kept (kept ++ y ∷ [])) x
    by true known = knows_along kept x y e known
    by false new = knows_last kept x y e

  -- ---- an item whose mark stands in front of it

  -- an item of its mark, which doesn't come after it
  abbrev leads : X → X → Bool
  leads x y = same x y && not (is_gt (R y x))

  abbrev IsLed : X → List X → Type 0
  IsLed x xs = list_any (leads x) xs ≡ true

  behind : (x y : X) → R x y ≡ Less → (z : X) → is_gt (R y z) ≡ false → is_gt (R z x) ≡ true
  behind x y before z up = by (R y z) refl up where
    turned : (r : Ordering) → R x z ≡ r → r ≡ Less → is_gt (R z x) ≡ true
    turned r e is = ap is_gt (o.antisymm z x ∙ ap ordering_reverse (e ∙ is))

    by : (r : Ordering) → R y z ≡ r → is_gt r ≡ false → is_gt (R z x) ≡ true
    by Less is up = turned (R x z) refl (o.trans x y z before is)
    by Equal is up = turned (R x z) refl (ap (R x) (sym (equal y z is)) ∙ before)
    by Greater is up = absurd (true≢false up)

  never : (a b : Bool) → b ≡ true → (a && not b) ≡ false
  never true b e = ap not e
  never false b e = refl

  not_led : (x y : X) (ys : List X) → R x y ≡ Less → NoneBefore R y ys → list_any (leads x) ys ≡ false
  not_led x y [] before none = refl
  not_led x y (z ∷ ys) before none =
      ap (λ b. b || list_any (leads x) ys) (never (same x z) (is_gt (R z x)) (behind x y before z none.0)) ∙ not_led x y ys before none.1

  not_led_here : (x y : X) (ys : List X) → R x y ≡ Less → NoneBefore R y ys → list_any (leads x) (y ∷ ys) ≡ false
  not_led_here x y ys before none =
      ap (λ b. b || list_any (leads x) ys)
      (never (same x y) (is_gt (R y x)) (ap is_gt (o.antisymm y x ∙ ap ordering_reverse before)))
      ∙ not_led x y ys before none

  both_first : (a b : Bool) → (a && b) ≡ true → a ≡ true
  both_first true b e = refl
  both_first false b e = absurd (true≢false (sym e))

  -- it can be left out
  left_out : (kept xs : List X) (x : X) → Ascends R xs → Knows kept x ⊎ IsLed x xs
      → firsts same kept (insert_by R xs x) ≡ firsts same kept xs
  left_out kept [] x up (inl known) = there same kept x known
  left_out kept [] x up (inr led) = absurd (true≢false (sym led))
  left_out kept (y ∷ ys) x up known = by (λ k. left_out (with_item same kept y) ys x up.1 k) (R x y) refl known where
    by : (Knows (with_item same kept y) x ⊎ IsLed x ys
        → firsts same (with_item same kept y) (insert_by R ys x) ≡ firsts same (with_item same kept y) ys)
        → (r : Ordering) → R x y ≡ r → Knows kept x ⊎ IsLed x (y ∷ ys)
        → firsts same kept (match_ordering r (x ∷ y ∷ ys) (x ∷ y ∷ ys) (y ∷ insert_by R ys x)) ≡ firsts same kept (y ∷ ys)
    by rest Less is (inl known) = ap (λ ks. firsts same ks (y ∷ ys)) (there same kept x known)
    by rest Less is (inr led) = absurd (true≢false (sym led ∙ not_led_here x y ys is up.0))
    by rest Equal is known =
        ap (λ z. firsts same (with_item same (with_item same kept z) y) ys) (equal x y is)
        ∙ ap (λ ks. firsts same ks ys) (there same (with_item same kept y) y (knows_put kept y y (itself y)))
    by rest Greater is (inl known) = rest (inl (knows_more kept x y known))
    by rest Greater is (inr led) = rest (next (either (leads x y) (list_any (leads x) ys) led)) where
      next : (leads x y ≡ true) ⊎ (list_any (leads x) ys ≡ true) → Knows (with_item same kept y) x ⊎ IsLed x ys
      next (inl here) = inl (knows_put kept x y (both_first (same x y) (not (is_gt (R y x))) here))
      next (inr later) = inr later

  -- ---- through sorting

  led_appended : (x : X) (xs ys : List X) → IsLed x xs → IsLed x (xs ++ ys)
  led_appended x [] ys led = absurd (true≢false (sym led))
  led_appended x (z ∷ xs) ys led = by (led_appended x xs ys) (either (leads x z) (list_any (leads x) xs) led) where
    by : (IsLed x xs → IsLed x (xs ++ ys)) → (leads x z ≡ true) ⊎ (list_any (leads x) xs ≡ true)
        → (leads x z || list_any (leads x) (xs ++ ys)) ≡ true
    by rest (inl here) = or_left (leads x z) (list_any (leads x) (xs ++ ys)) here
    by rest (inr later) = or_right (leads x z) (list_any (leads x) (xs ++ ys)) (rest later)

  led_inserted : (x y : X) (xs : List X) → IsLed x (y ∷ xs) → IsLed x (insert_by R xs y)
  led_inserted x y [] led = led
  led_inserted x y (z ∷ xs) led = by (led_inserted x y xs) (R y z) where
    swap : (a b c : Bool) → (a || (b || c)) ≡ true → (b ≡ true) ⊎ ((a || c) ≡ true)
    swap true b c e = inr refl
    swap false true c e = inl refl
    swap false false c e = inr e

    by : (IsLed x (y ∷ xs) → IsLed x (insert_by R xs y)) → (r : Ordering)
        → IsLed x (match_ordering r (y ∷ z ∷ xs) (y ∷ z ∷ xs) (z ∷ insert_by R xs y))
    by rest Less = led
    by rest Equal = led
    by rest Greater = put (swap (leads x y) (leads x z) (list_any (leads x) xs) led) where
      put : (leads x z ≡ true) ⊎ ((leads x y || list_any (leads x) xs) ≡ true) → (leads x z || list_any (leads x) (insert_by R xs y)) ≡ true
      put (inl here) = or_left (leads x z) (list_any (leads x) (insert_by R xs y)) here
      put (inr later) = or_right (leads x z) (list_any (leads x) (insert_by R xs y)) (rest later)

  led_folded : (x : X) (done xs : List X) → IsLed x done ⊎ IsLed x xs → IsLed x (fold (insert_by R) done xs)
  led_folded x done [] (inl led) = led
  led_folded x done [] (inr led) = absurd (true≢false (sym led))
  led_folded x done (y ∷ xs) led = led_folded x (insert_by R done y) xs (by led) where
    by : IsLed x done ⊎ IsLed x (y ∷ xs) → IsLed x (insert_by R done y) ⊎ IsLed x xs
    by (inl before) = inl (led_inserted x y done (or_right (leads x y) (list_any (leads x) done) before))
    by (inr after) = each (either (leads x y) (list_any (leads x) xs) after) where
      each : (leads x y ≡ true) ⊎ (list_any (leads x) xs ≡ true) → IsLed x (insert_by R done y) ⊎ IsLed x xs
      each (inl here) = inl (led_inserted x y done (or_left (leads x y) (list_any (leads x) done) here))
      each (inr later) = inr later

  led_sorted : (x : X) (xs : List X) → IsLed x xs → IsLed x (sorted_by R xs)
  led_sorted x xs led = led_folded x [] xs (inr led)

  abbrev pub first_items : List X → List X
  first_items xs = firsts same [] (sorted_by R xs)

  items_same : (xs ys : List X) → IsPermutation xs ys → first_items xs ≡ first_items ys
  items_same xs ys moved = ap (firsts same []) (sorted_by-IsPermutation o equal xs ys moved)

  -- an item of which one of the others stands in front can go
  without_led : (xs : List X) (x : X) → IsLed x xs → first_items (xs ++ x ∷ []) ≡ first_items xs
  without_led xs x led =
      ap (firsts same []) (sorted_by-push R xs x) ∙ left_out [] (sorted_by R xs) x (Ascends-sorted_by o xs) (inr (led_sorted x xs led))

  -- ---- one part

  at_place : (k : X) (front : List X) (x : X) (xs : List X) → NoneBefore R k (front ++ x ∷ xs) → is_gt (R k x) ≡ false
  at_place k [] x xs none = none.0
  at_place k (f ∷ front) x xs none = at_place k front x xs none.1

  -- the known mark of an item that stands behind all that are kept
  is_led : (kept : List X) (x : X) (xs : List X) → Ascends R (kept ++ x ∷ xs) → Knows kept x → IsLed x kept
  is_led [] x xs up known = absurd (true≢false (sym known))
  is_led (k ∷ kept) x xs up known = by (is_led kept x xs up.1) (either (same x k) (list_any (same x) kept) known) where
    both : (a b : Bool) → a ≡ true → b ≡ false → (a && not b) ≡ true
    both true b e f = ap not f
    both false b e f = absurd (true≢false (sym e))

    by : (Knows kept x → IsLed x kept) → (same x k ≡ true) ⊎ (list_any (same x) kept ≡ true)
        → (leads x k || list_any (leads x) kept) ≡ true
    by rest (inl here) = or_left (leads x k) (list_any (leads x) kept) (both (same x k) (is_gt (R k x)) here (at_place k kept x xs up.0))
    by rest (inr later) = or_right (leads x k) (list_any (leads x) kept) (rest later)

  none_without : (y : X) (kept : List X) (x : X) (xs : List X) → NoneBefore R y (kept ++ x ∷ xs) → NoneBefore R y (kept ++ xs)
  none_without y [] x xs none = none.1
  none_without y (k ∷ kept) x xs none = (none.0, none_without y kept x xs none.1)

  ascends_without : (kept : List X) (x : X) (xs : List X) → Ascends R (kept ++ x ∷ xs) → Ascends R (kept ++ xs)
  ascends_without [] x xs up = up.1
  ascends_without (k ∷ kept) x xs up = (none_without k kept x xs up.0, ascends_without kept x xs up.1)

  last : (kept : List X) (x : X) (xs ys : List X) → IsPermutation ((kept ++ x ∷ xs) ++ ys) (((kept ++ xs) ++ ys) ++ x ∷ [])
  last kept x xs ys =
      IsPermutation-trans ((kept ++ x ∷ xs) ++ ys) (kept ++ (xs ++ (ys ++ x ∷ []))) (((kept ++ xs) ++ ys) ++ x ∷ [])
      (subst (λ zs. IsPermutation zs (kept ++ (xs ++ (ys ++ x ∷ [])))) (sym (append_assoc kept (x ∷ xs) ys))
      (IsPermutation-append_right kept (x ∷ (xs ++ ys)) (xs ++ (ys ++ x ∷ []))
      (subst (λ zs. IsPermutation (x ∷ (xs ++ ys)) zs) (append_assoc xs ys (x ∷ []))
      (IsPermutation-append_comm (x ∷ []) (xs ++ ys)))))
      (subst (λ zs. IsPermutation (kept ++ (xs ++ (ys ++ x ∷ []))) zs)
      (sym (append_assoc (kept ++ xs) ys (x ∷ []) ∙ append_assoc kept xs (ys ++ x ∷ [])))
      (IsPermutation-refl (kept ++ (xs ++ (ys ++ x ∷ [])))))

  -- the first of each mark of a part stand for the part; and where its marks are told apart more finely, the first of each such mark do
  module _ (fine : X → X → Bool) (finer : (x y : X) → fine x y ≡ true → same x y ≡ true) where
    knows_coarse : (kept : List X) (x : X) → list_any (fine x) kept ≡ true → Knows kept x
    knows_coarse [] x known = known
    knows_coarse (k ∷ kept) x known = by (knows_coarse kept x) (either (fine x k) (list_any (fine x) kept) known) where
      by : (list_any (fine x) kept ≡ true → Knows kept x) → (fine x k ≡ true) ⊎ (list_any (fine x) kept ≡ true)
          → (same x k || list_any (same x) kept) ≡ true
      by rest (inl here) = or_left (same x k) (list_any (same x) kept) (finer x k here)
      by rest (inr later) = or_right (same x k) (list_any (same x) kept) (rest later)

    one_part : (kept xs ys : List X) → Ascends R (kept ++ xs)
        → first_items ((kept ++ xs) ++ ys) ≡ first_items (firsts fine kept xs ++ ys)
    one_part kept [] ys up = ap (λ ks. first_items (ks ++ ys)) (append-nil kept)
    one_part kept (x ∷ xs) ys up = by (λ ks u. one_part ks xs ys u) (list_any (fine x) kept) refl where
      by : ((ks : List X) → Ascends R (ks ++ xs) → first_items ((ks ++ xs) ++ ys) ≡ first_items (firsts fine ks xs ++ ys))
          → (b : Bool) → list_any (fine x) kept ≡ b
          → first_items ((kept ++ x ∷ xs) ++ ys) ≡ first_items (firsts fine (with_item fine kept x) xs ++ ys)
      by rest true known =
          items_same ((kept ++ x ∷ xs) ++ ys) (((kept ++ xs) ++ ys) ++ x ∷ []) (last kept x xs ys)
          ∙ without_led ((kept ++ xs) ++ ys) x
          (led_appended x (kept ++ xs) ys (led_appended x kept xs (is_led kept x xs up (knows_coarse kept x known))))
          ∙ rest kept (ascends_without kept x xs up)
          ∙ ap (λ ks. first_items (firsts fine ks xs ++ ys)) (sym (there fine kept x known))
      by rest false is =
          ap (λ zs. first_items (zs ++ ys)) (sym (append_assoc kept (x ∷ []) xs))
          ∙ rest (kept ++ x ∷ []) (subst (λ zs. Ascends R zs) (sym (append_assoc kept (x ∷ []) xs)) up)
          ∙ ap (λ ks. first_items (firsts fine ks xs ++ ys)) (sym (new fine kept x is))

    pub part_fine : (xs ys : List X) → first_items (xs ++ ys) ≡ first_items (firsts fine [] (sorted_by R xs) ++ ys)
    part_fine xs ys =
        items_same (xs ++ ys) (sorted_by R xs ++ ys)
        (IsPermutation-append_left ys xs (sorted_by R xs) (IsPermutation-sorted_by R xs))
        ∙ one_part [] (sorted_by R xs) ys (Ascends-sorted_by o xs)

    pub alone_fine : (xs : List X) → first_items xs ≡ first_items (firsts fine [] (sorted_by R xs))
    alone_fine xs =
        ap first_items (sym (append-nil xs)) ∙ part_fine xs [] ∙ ap first_items (append-nil (firsts fine [] (sorted_by R xs)))

  pub part_firsts : (xs ys : List X) → first_items (xs ++ ys) ≡ first_items (first_items xs ++ ys)
  part_firsts = part_fine same (λ x y e. e)

  -- parts that have the same first ones, taken together
  pub parts_same : {A : Type 0} (f g : A → List X) (items : List A) → AllByRecursion (λ a. first_items (f a) ≡ first_items (g a)) items
      → first_items (flat_map f items) ≡ first_items (flat_map g items)
  parts_same = parts_stand first_items items_same part_firsts

  -- the first of each mark of a list that was cut to these are they again
  pub again : (xs : List X) → first_items (first_items xs) ≡ first_items xs
  again = stands_itself first_items items_same part_firsts

  pub all_firsts : {A : Type 0} (f : A → List X) (items : List A)
      → first_items (flat_map f items) ≡ first_items (flat_map (λ a. first_items (f a)) items)
  all_firsts f items =
      parts_same f (λ a. first_items (f a)) items
      (all_of (λ a. first_items (f a) ≡ first_items (first_items (f a))) (λ a. sym (again (f a))) items)

  -- ---- the first few

  module _ (laws : IsEquivalence same) (n : ℕ) where
    abbrev pub first_few : List X → List X
    first_few xs = take n (first_items xs)

    few_same : (xs ys : List X) → IsPermutation xs ys → first_few xs ≡ first_few ys
    few_same xs ys moved = ap (take n) (items_same xs ys moved)

    abbrev up_to : X → X → Bool
    up_to x y = not (is_gt (R y x))

    none_behind : (x y : X) (ys : List X) → R x y ≡ Less → NoneBefore R y ys → filter (up_to x) ys ≡ []
    none_behind x y [] before none = refl
    none_behind x y (z ∷ ys) before none =
        ap (λ b. cond (not b) (z ∷ filter (up_to x) ys) (filter (up_to x) ys)) (behind x y before z none.0)
        ∙ none_behind x y ys before none.1

    none_up_to : (x y : X) (ys : List X) → R x y ≡ Less → NoneBefore R y ys → filter (up_to x) (y ∷ ys) ≡ []
    none_up_to x y ys before none =
        ap (λ b. cond (not b) (y ∷ filter (up_to x) ys) (filter (up_to x) ys))
        (ap is_gt (o.antisymm y x ∙ ap ordering_reverse before))
        ∙ none_behind x y ys before none

    -- where the items up to x have marks enough, x changes nothing of the first few
    late : (kept ys : List X) (x : X) → Ascends R ys → n ≤ length (firsts same kept (filter (up_to x) ys))
        → take n (firsts same kept (insert_by R ys x)) ≡ take n (firsts same kept ys)
    late kept [] x up many = enough same n kept (x ∷ []) many
    late kept (y ∷ ys) x up many = by (λ m. late (with_item same kept y) ys x up.1 m) (R x y) refl where
      by : (n ≤ length (firsts same (with_item same kept y) (filter (up_to x) ys))
          → take n (firsts same (with_item same kept y) (insert_by R ys x)) ≡ take n (firsts same (with_item same kept y) ys))
          → (r : Ordering) → R x y ≡ r
          → take n (firsts same kept (match_ordering r (x ∷ y ∷ ys) (x ∷ y ∷ ys) (y ∷ insert_by R ys x)))
          ≡ take n (firsts same kept (y ∷ ys))
      by rest Less is =
          let long : n ≤ length kept = subst (λ zs. n ≤ length (firsts same kept zs)) (none_up_to x y ys is up.0) many in
          enough same n kept (x ∷ y ∷ ys) long ∙ sym (enough same n kept (y ∷ ys) long)
      by rest Equal is =
          ap (λ z. take n (firsts same (with_item same (with_item same kept z) y) ys)) (equal x y is)
          ∙ ap (λ ks. take n (firsts same ks ys)) (there same (with_item same kept y) y (knows_put kept y y (itself y)))
      by rest Greater is =
          rest (subst (λ b. n ≤ length (firsts same kept (cond b (y ∷ filter (up_to x) ys) (filter (up_to x) ys))))
          (ap (λ r. not (is_gt r)) (o.antisymm y x ∙ ap ordering_reverse is)) many)

    without_late : (xs : List X) (x : X) → n ≤ length (first_items (filter (up_to x) xs)) → first_few (xs ++ x ∷ []) ≡ first_few xs
    without_late xs x many =
        ap (λ zs. take n (firsts same [] zs)) (sorted_by-push R xs x)
        ∙ late [] (sorted_by R xs) x (Ascends-sorted_by o xs)
        (subst (λ zs. n ≤ length (firsts same [] zs)) (sorted_by-filter o (up_to x) xs) many)

    -- ---- how many marks there are

    knows_firsts : (kept xs : List X) (q : X) → Knows kept q ⊎ Knows xs q → Knows (firsts same kept xs) q
    knows_firsts kept [] q (inl known) = known
    knows_firsts kept [] q (inr known) = absurd (true≢false (sym known))
    knows_firsts kept (x ∷ xs) q (inl known) = knows_firsts (with_item same kept x) xs q (inl (knows_more kept q x known))
    knows_firsts kept (x ∷ xs) q (inr known) =
        knows_firsts (with_item same kept x) xs q (by (either (same q x) (list_any (same q) xs) known))
      where
        by : (same q x ≡ true) ⊎ Knows xs q → Knows (with_item same kept x) q ⊎ Knows xs q
        by (inl here) = inl (knows_put kept q x here)
        by (inr later) = inr later

    distinct : (xs : List X) → Apart same xs → IsDistinct same xs
    unfolding IsDistinct
    distinct [] a = tt
    distinct (x ∷ xs) a = (turned xs a.0, distinct xs a.1) where
      turned : (ys : List X) → AllByRecursion (λ y. same y x ≡ false) ys → AllByRecursion (λ y. same x y ≡ false) ys
      turned [] b = tt
      turned (y ∷ ys) b = (laws.symm x y ∙ b.0, turned ys b.1)

    own_up_to : (front rest : List X) (x : X) → AllByRecursion (λ y. is_gt (R y x) ≡ false) front
        → filter (up_to x) (front ++ rest) ≡ front ++ filter (up_to x) rest
    own_up_to [] rest x all = refl
    own_up_to (y ∷ front) rest x all =
        ap (λ b. cond (not b) (y ∷ filter (up_to x) (front ++ rest)) (filter (up_to x) (front ++ rest))) all.0
        ∙ ap (λ zs. y ∷ zs) (own_up_to front rest x all.1)

    -- as many as there are items up to x of which no two have the same
    marks_enough : (front rest : List X) (x : X) → n ≤ length front → Apart same front
        → AllByRecursion (λ y. is_gt (R y x) ≡ false) front → n ≤ length (first_items (filter (up_to x) (front ++ rest)))
    marks_enough front rest x many apart all =
        let found : List X = front ++ filter (up_to x) rest in
        let fewer : length front ≤ length (first_items found) =
        length-le_from_is_member laws front (first_items found) (distinct front apart)
        (λ q known. knows_firsts [] (sorted_by R found) q (inr (sym (list_any-IsPermutation (same q) found (sorted_by R found)
        (IsPermutation-sorted_by R found)) ∙ list_any-append (same q) front (filter (up_to x) rest)
        ∙ or_left (list_any (same q) front) (list_any (same q) (filter (up_to x) rest)) known))) in
        subst (λ zs. n ≤ length (first_items zs)) (sym (own_up_to front rest x all)) (omega (arith, many, fewer))

    -- ---- a part that is cut

    all_before : (front : List X) (x : X) (xs : List X) → Ascends R (front ++ x ∷ xs) → AllByRecursion (λ y. is_gt (R y x) ≡ false) front
    all_before [] x xs up = tt
    all_before (k ∷ front) x xs up = (at_place k front x xs up.0, all_before front x xs up.1)

    cut_behind : (front rest ys : List X) → n ≤ length front → Apart same front → Ascends R (front ++ rest)
        → first_few ((front ++ rest) ++ ys) ≡ first_few (front ++ ys)
    cut_behind front [] ys many apart up = ap (λ zs. first_few (zs ++ ys)) (append-nil front)
    cut_behind front (x ∷ rest) ys many apart up =
        few_same ((front ++ x ∷ rest) ++ ys) (((front ++ rest) ++ ys) ++ x ∷ []) (last front x rest ys)
        ∙ without_late ((front ++ rest) ++ ys) x
        (subst (λ zs. n ≤ length (first_items (filter (up_to x) zs))) (sym (append_assoc front rest ys))
        (marks_enough front (rest ++ ys) x many apart (all_before front x rest up)))
        ∙ cut_behind front rest ys many apart (ascends_without front x rest up)

    cut : (xs ys : List X) → Apart same xs → Ascends R xs → first_few (xs ++ ys) ≡ first_few (take n xs ++ ys)
    cut xs ys apart up = by (nat_lt (length xs) n) refl where
      by : (b : Bool) → nat_lt (length xs) n ≡ b → first_few (xs ++ ys) ≡ first_few (take n xs ++ ys)
      by true is =
          let few = ltb-true (length xs) n is in
          ap (λ zs. first_few (zs ++ ys)) (sym (take_all n xs (omega (arith, few))))
      by false is =
          let many = ltb-false (length xs) n is in
          let long = length-take-le n xs many in
          ap (λ zs. first_few (zs ++ ys)) (sym (take-append-drop n xs))
          ∙ cut_behind (take n xs) (drop n xs) ys (omega (arith, long)) (apart_taken same n xs apart)
          (subst (Ascends R) (sym (take-append-drop n xs)) up)

    ascends_firsts : (kept xs : List X) → Ascends R (kept ++ xs) → Ascends R (firsts same kept xs)
    ascends_firsts kept [] up = subst (Ascends R) (append-nil kept) up
    ascends_firsts kept (x ∷ xs) up = by (λ ks u. ascends_firsts ks xs u) (list_any (same x) kept) refl where
      by : ((ks : List X) → Ascends R (ks ++ xs) → Ascends R (firsts same ks xs)) → (b : Bool) → list_any (same x) kept ≡ b
          → Ascends R (firsts same (with_item same kept x) xs)
      by rest true is =
          subst (λ ks. Ascends R (firsts same ks xs)) (sym (there same kept x is)) (rest kept (ascends_without kept x xs up))
      by rest false is =
          subst (λ ks. Ascends R (firsts same ks xs)) (sym (new same kept x is))
          (rest (kept ++ x ∷ []) (subst (Ascends R) (sym (append_assoc kept (x ∷ []) xs)) up))

    -- the first few of each part tell those of all
    part_few : (xs ys : List X) → first_few (xs ++ ys) ≡ first_few (first_few xs ++ ys)
    part_few xs ys =
        ap (take n) (part_firsts xs ys)
        ∙ cut (first_items xs) ys (apart_firsts same [] (sorted_by R xs) tt) (ascends_firsts [] (sorted_by R xs) (Ascends-sorted_by o xs))

    pub parts_few : {A : Type 0} (f g : A → List X) (items : List A) → AllByRecursion (λ a. first_few (f a) ≡ first_few (g a)) items
        → first_few (flat_map f items) ≡ first_few (flat_map g items)
    parts_few = parts_stand first_few few_same part_few

    pub few_again : (xs : List X) → first_few (first_few xs) ≡ first_few (first_items xs)
    few_again xs = stands_itself first_few few_same part_few xs ∙ ap (take n) (sym (again xs))
