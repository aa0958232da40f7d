-- What a seek of the rows tells of their rests.
use Rattle.std.proofs.Common.{◌≡◌, ℕ, ◌≤◌, Bool, true, false, cond, List, [], ◌∷◌, ◌++◌, refl, sym, ◌∙◌, ap, subst, arith}
use Rattle.std.specs.Prelude.{◌&&◌, not, All, Option, Some, None, option_map, find, filter, map, count_by}
use Rattle.std.specs.List.{AllByRecursion}
use Rattle.std.specs.List.Sorted.{IsSorted, IsStrictlySortedBy}
use Rattle.std.specs.Cmp.Lexicographic.{nat_list_cmp_total}
use Rattle.std.specs.declared.cmp.Ordering.{Ordering}
use Rattle.std.specs.declared.cmp.Ordering.TheVariants.{Less}
use Rattle.std.specs.Ordering.{is_lt, is_gt}
use Rattle.std.proofs.lemmas.List.Elements.{All-head, All-tail}
use Rattle.ds_base.specs.KeyOrder.{bytes_cmp}
use Rattle.ds_base.specs.SortingLaws.{Ascends, Ascends-from_IsSorted, IsSorted-from_Ascends}
use Rattle.ds_zigzag.specs.Spans.{is_from, is_within, count_from}
use Rattle.ds_table.specs.Versions.{is_below, is_before, in_range}
use Rattle.ds_base.specs.Bytes.{AreBytes}
use Rattle.ds_scan.specs.Ranges.{Range, begins_with, rest, is_in, rests, rows_passed, end_of_range, later}
use Rattle.ds_scan.specs.RangeLaws.{begins-is}
use Rattle.ds_scan.proofs.Order.{first_true, second_true, both_true, was_false, not_false, from_later, to_later, cmp-behind, between}
use Rattle.ds_scan.proofs.Ends.{before_end, begins_before}
use Rattle.ds_scan.proofs.Counts.{weight_up, count_by-cons}

-- ---- lists of which some are kept, and what is made of them

module _ (kept wide : List ℕ → Bool) (f : List ℕ → List ℕ) (test : List ℕ → Bool) where
  -- the first one found among what is made of them is made of the first one found
  pub find-kept : ((r : List ℕ) → kept r && test (f r) ≡ true → wide r ≡ true) → (rows : List (List ℕ))
      → ((r : List ℕ) → find wide rows ≡ Some r → kept r && test (f r) ≡ true)
      → find test (map f (filter kept rows)) ≡ option_map f (find wide rows)
  find-kept only [] found = refl
  find-kept only (r ∷ rows) found = by (wide r) refl found (find-kept only rows) where
    here : kept r ≡ true → test (f r) ≡ true → find test (map f (filter kept (r ∷ rows))) ≡ Some (f r)
    here k t = rw (k, t) refl

    skips : (k t : Bool) → kept r ≡ k → test (f r) ≡ t → (k && t ≡ true → false ≡ true) → find test (map f (filter kept (r ∷ rows))) ≡ find test (map f (filter kept rows))
    skips true true e g never = let wrong = never refl in cc
    skips true false e g never = rw (e, g) refl
    skips false t e g never = rw e refl

    by : (b : Bool) → wide r ≡ b → ((s : List ℕ) → cond b (Some r) (find wide rows) ≡ Some s → kept s && test (f s) ≡ true)
        → (((s : List ℕ) → find wide rows ≡ Some s → kept s && test (f s) ≡ true) → find test (map f (filter kept rows)) ≡ option_map f (find wide rows))
        → find test (map f (filter kept (r ∷ rows))) ≡ option_map f (cond b (Some r) (find wide rows))
    by true e found more =
        let both = found r refl in
        here (first_true (kept r) (test (f r)) both) (second_true (kept r) (test (f r)) both)
    by false e found more =
        skips (kept r) (test (f r)) refl refl (λ t. sym e ∙ only r t) ∙ more found

  -- as many pass, where all that count are kept
  pub count-kept : (rows : List (List ℕ)) → ((r : List ℕ) → AreBytes r → wide r ≡ true → kept r && test (f r) ≡ true) → All AreBytes rows
      → count_by wide rows ≤ count_by test (map f (filter kept rows))
  count-kept [] h a = omega arith
  count-kept (r ∷ rows) h a = by (kept r) refl (count-kept rows h (All-tail AreBytes r rows a)) where
    into : wide r ≡ true → kept r && test (f r) ≡ true
    into = h r (All-head AreBytes r rows a)

    by : (k : Bool) → kept r ≡ k → count_by wide rows ≤ count_by test (map f (filter kept rows)) → count_by wide (r ∷ rows) ≤ count_by test (map f (filter kept (r ∷ rows)))
    by true e more =
        let one = weight_up (wide r) (test (f r)) (λ t. second_true (kept r) (test (f r)) (into t)) in
        rw (e, count_by-cons wide r rows, count_by-cons test (f r) (map f (filter kept rows))) (omega (arith, one, more))
    by false e more =
        let one = weight_up (wide r) false (λ t. sym e ∙ first_true (kept r) (test (f r)) (into t)) in
        rw (e, count_by-cons wide r rows) (omega (arith, one, more))

-- ---- order

module _ (range : Range) where
  -- rows in the range compare as their rests
  cmp-rests : (x y : List ℕ) → is_in range x ≡ true → is_in range y ≡ true → bytes_cmp (rest range.prefix x) (rest range.prefix y) ≡ bytes_cmp x y
  cmp-rests x y h g =
      let p = range.prefix in
      let e = begins-is p x (first_true (begins_with p x) (in_range range.low range.high (rest p x)) h) in
      let f = begins-is p y (first_true (begins_with p y) (in_range range.low range.high (rest p y)) g) in
      sym (ap (λ z. bytes_cmp z y) e ∙ (ap (λ z. bytes_cmp (p ++ rest p x) z) f ∙ cmp-behind p (rest p x) (rest p y)))

  -- how a row compares with those behind it, its rest does with theirs
  each-rests : (T : Ordering → Type 0) (x : List ℕ) → is_in range x ≡ true → (rows : List (List ℕ)) → AllByRecursion (λ y. T (bytes_cmp x y)) rows
      → AllByRecursion (λ y. T (bytes_cmp (rest range.prefix x) y)) (rests range rows)
  each-rests T x h [] a = tt
  each-rests T x h (y ∷ rows) a = by (is_in range y) refl (each-rests T x h rows a.1) where
    by : (b : Bool) → is_in range y ≡ b → AllByRecursion (λ y. T (bytes_cmp (rest range.prefix x) y)) (rests range rows)
        → AllByRecursion (λ y. T (bytes_cmp (rest range.prefix x) y)) (rests range (y ∷ rows))
    by true e more = rw e (subst T (sym (cmp-rests x y h e)) a.0, more)
    by false e more = rw e more

  pub rests-ascend : (rows : List (List ℕ)) → IsStrictlySortedBy bytes_cmp rows → IsStrictlySortedBy bytes_cmp (rests range rows)
  unfolding IsStrictlySortedBy
  rests-ascend [] s = tt
  rests-ascend (x ∷ rows) s = by (is_in range x) refl (rests-ascend rows s.1) where
    by : (b : Bool) → is_in range x ≡ b → IsStrictlySortedBy bytes_cmp (rests range rows) → IsStrictlySortedBy bytes_cmp (rests range (x ∷ rows))
    by true e more = rw e (each-rests (λ r. r ≡ Less) x e rows s.0, more)
    by false e more = rw e more

  rests-rise : (rows : List (List ℕ)) → Ascends bytes_cmp rows → Ascends bytes_cmp (rests range rows)
  rests-rise [] s = tt
  rests-rise (x ∷ rows) s = by (is_in range x) refl (rests-rise rows s.1) where
    by : (b : Bool) → is_in range x ≡ b → Ascends bytes_cmp (rests range rows) → Ascends bytes_cmp (rests range (x ∷ rows))
    by true e more = rw e (each-rests (λ r. is_gt r ≡ false) x e rows s.0, more)
    by false e more = rw e more

  pub rests-do_not_fall : (rows : List (List ℕ)) → IsSorted bytes_cmp rows → IsSorted bytes_cmp (rests range rows)
  rests-do_not_fall rows s = IsSorted-from_Ascends nat_list_cmp_total (rests range rows) (rests-rise rows (Ascends-from_IsSorted nat_list_cmp_total rows s))

-- ---- the rows sought are those of the range

module _ (range : Range) (a : List ℕ) where
  -- the rows in which is sought
  abbrev pub is_sought : List ℕ → Bool
  is_sought r = in_range (range.prefix ++ later range.low a) (end_of_range range.prefix range.high) r

  -- those that are to be found
  abbrev pub is_wanted : List ℕ → Bool
  is_wanted r = is_in range r && is_from a (rest range.prefix r)

  below-rest : (r s : List ℕ) → begins_with range.prefix r ≡ true → is_below r (range.prefix ++ s) ≡ is_below (rest range.prefix r) s
  below-rest r s b = ap (λ q. is_below q (range.prefix ++ s)) (begins-is range.prefix r b) ∙ ap is_lt (cmp-behind range.prefix (rest range.prefix r) s)

  pub sought_if_wanted : (r : List ℕ) → is_wanted r ≡ true → is_sought r ≡ true
  sought_if_wanted r h = both_true (not (is_below r from)) (is_before (end_of_range range.prefix range.high) r) (not_false (is_below r from) not_below) (before range.high refl) where
    from : List ℕ
    from = range.prefix ++ later range.low a

    x : List ℕ
    x = rest range.prefix r

    inside : is_in range r ≡ true
    inside = first_true (is_in range r) (is_from a x) h

    begins : begins_with range.prefix r ≡ true
    begins = first_true (begins_with range.prefix r) (in_range range.low range.high x) inside

    ranged : in_range range.low range.high x ≡ true
    ranged = second_true (begins_with range.prefix r) (in_range range.low range.high x) inside

    not_below : is_below r from ≡ false
    not_below =
        below-rest r (later range.low a) begins
        ∙ to_later range.low a x (was_false (is_below x range.low) (first_true (not (is_below x range.low)) (is_before range.high x) ranged))
        (was_false (is_below x a) (second_true (is_in range r) (is_from a x) h))

    before : (high : Option (List ℕ)) → range.high ≡ high → is_before (end_of_range range.prefix high) r ≡ true
    before None e = before_end range.prefix r begins
    before (Some h) e =
        below-rest r h begins ∙ (sym (ap (λ o. is_before o x) e) ∙ second_true (not (is_below x range.low)) (is_before range.high x) ranged)

  pub wanted_if_sought : (r : List ℕ) → AreBytes r → is_sought r ≡ true → is_wanted r ≡ true
  wanted_if_sought r bytes h = both_true (is_in range r) (is_from a x) inside (not_false (is_below x a) both.1) where
    from : List ℕ
    from = range.prefix ++ later range.low a

    x : List ℕ
    x = rest range.prefix r

    not_below : is_below r from ≡ false
    not_below = was_false (is_below r from) (first_true (not (is_below r from)) (is_before (end_of_range range.prefix range.high) r) h)

    begins_if : (high : Option (List ℕ)) → is_before (end_of_range range.prefix high) r ≡ true → begins_with range.prefix r ≡ true
    begins_if None g = begins_before range.prefix (later range.low a) r bytes not_below g
    begins_if (Some h) g = between range.prefix (later range.low a) h r not_below g

    before : is_before (end_of_range range.prefix range.high) r ≡ true
    before = second_true (not (is_below r from)) (is_before (end_of_range range.prefix range.high) r) h

    begins : begins_with range.prefix r ≡ true
    begins = begins_if range.high before

    both : (is_below x range.low ≡ false) × (is_below x a ≡ false)
    both = from_later range.low a x (sym (below-rest r (later range.low a) begins) ∙ not_below)

    before_if : (high : Option (List ℕ)) → is_before (end_of_range range.prefix high) r ≡ true → is_before high x ≡ true
    before_if None g = refl
    before_if (Some h) g = sym (below-rest r h begins) ∙ g

    inside : is_in range r ≡ true
    inside =
        both_true (begins_with range.prefix r) (in_range range.low range.high x) begins
        (both_true (not (is_below x range.low)) (is_before range.high x) (not_false (is_below x range.low) both.0) (before_if range.high before))

  -- the first rest is that of the row found, which is bytes
  pub finds_rest : (rows : List (List ℕ)) → ((r : List ℕ) → find is_sought rows ≡ Some r → AreBytes r × (is_sought r ≡ true))
      → find (is_from a) (rests range rows) ≡ option_map (rest range.prefix) (find is_sought rows)
  finds_rest rows found =
      find-kept (is_in range) is_sought (rest range.prefix) (is_from a) sought_if_wanted rows
      (λ r e. let h = found r e in wanted_if_sought r h.0 h.1)

  -- the rows passed are rests passed
  pub passes_rests : (found : Option (List ℕ)) (rows : List (List ℕ)) → All AreBytes rows
      → ((r : List ℕ) → found ≡ Some r → begins_with range.prefix r ≡ true)
      → rows_passed (range.prefix ++ later range.low a) (end_of_range range.prefix range.high) found rows
      ≤ count_from a (option_map (rest range.prefix) found) (rests range rows)
  passes_rests found rows bytes begins =
      count-kept (is_in range) (λ r. is_sought r && is_within found r) (rest range.prefix) (λ x. is_from a x && is_within (option_map (rest range.prefix) found) x) rows into bytes where
        up_to : (o : Option (List ℕ)) → ((r : List ℕ) → o ≡ Some r → begins_with range.prefix r ≡ true) → (r : List ℕ) → begins_with range.prefix r ≡ true
            → is_within o r ≡ true → is_within (option_map (rest range.prefix) o) (rest range.prefix r) ≡ true
        up_to None b r h w = refl
        up_to (Some f) b r h w =
            let e = begins-is range.prefix f (b f refl) in
            let g = begins-is range.prefix r h in
            let same : is_below f r ≡ is_below (rest range.prefix f) (rest range.prefix r) =
            ap (λ q. is_below q r) e ∙ (ap (λ q. is_below (range.prefix ++ rest range.prefix f) q) g ∙ ap is_lt (cmp-behind range.prefix (rest range.prefix f) (rest range.prefix r))) in
            ap not (sym same) ∙ w

        into : (r : List ℕ) → AreBytes r → is_sought r && is_within found r ≡ true
            → is_in range r && (is_from a (rest range.prefix r) && is_within (option_map (rest range.prefix) found) (rest range.prefix r)) ≡ true
        into r b h =
            let wanted = wanted_if_sought r b (first_true (is_sought r) (is_within found r) h) in
            let inside = first_true (is_in range r) (is_from a (rest range.prefix r)) wanted in
            let starts = first_true (begins_with range.prefix r) (in_range range.low range.high (rest range.prefix r)) inside in
            both_true (is_in range r) (is_from a (rest range.prefix r) && is_within (option_map (rest range.prefix) found) (rest range.prefix r)) inside
            (both_true (is_from a (rest range.prefix r)) (is_within (option_map (rest range.prefix) found) (rest range.prefix r))
            (second_true (is_in range r) (is_from a (rest range.prefix r)) wanted) (up_to found begins r starts (second_true (is_sought r) (is_within found r) h)))
