-- The rows of tables at a stamp, in order: the first in a range, which are there, and how many are passed.
use Rattle.std.proofs.Common.{◌≡◌, ◌⊎◌, inl, inr, ℕ, List, [], ◌∷◌, Bool, true, false, ◌&&◌, cond, refl, sym, ap}
use Rattle.std.proofs.Common.{◌∙◌, Option, Some, None}
use Rattle.std.specs.Prelude.{bytes_eq, find, sum_by, Contains}
use Rattle.std.specs.List.{AllByRecursion}
use Rattle.std.specs.List.Sorted.{IsSorted, IsStrictlySortedBy}
use Rattle.std.specs.Cmp.Lexicographic.{nat_list_cmp_total}
use Rattle.std.specs.declared.cmp.Ordering.{Ordering}
use Rattle.std.specs.declared.cmp.Ordering.TheVariants.{Less, Equal, Greater}
use Rattle.std.specs.Ordering.{is_gt}
use Rattle.std.proofs.lemmas.List.Sorted.{sum_by-IsPermutation, Contains-permutation, IsPermutation-sym}
use Rattle.ds_base.specs.KeyOrder.{bytes_cmp}
use Rattle.ds_base.specs.KeyOrderLaws.{bytes_cmp-same}
use Rattle.ds_base.specs.Sorting.{sorted_by}
use Rattle.ds_base.specs.SortingLaws.{Ascends, NoneBefore, Ascends-sorted_by, IsSorted-sorted_by, IsPermutation-sorted_by}
use Rattle.ds_indexdef.specs.declared.IndexDef.{IndexDef}
use Rattle.ds_planner.proofs.Members.{Member, contained, member_contained}
use Rattle.ds_planner.proofs.PairLists.{same_name, name_itself}
use Rattle.ds_rows.specs.Versions.{Version, seen_rows, unseen_rows, first_row, is_from, is_below as is_before_end, is_up_to}
use Rattle.ds_rows.specs.Versions.{rows_passed as table_passed}
use Rattle.ds_scan.specs.Ranges.{rows_passed}
use Rattle.ds_table.specs.Versions.{in_range}
use Rattle.ds_zigzag.specs.Spans.{is_within}
use Rattle.ds_scan.specs.Stamped.{in_front, each_once, rows_at, rows_not_at}

-- ---- each once

find-in_front : (p : List ℕ → Bool) (x : List ℕ) (xs : List (List ℕ)) → find p (in_front x xs) ≡ find p (x ∷ xs)
find-in_front p x [] = refl
find-in_front p x (y ∷ ys) = by (bytes_eq x y) refl where
  again : (b : Bool) → cond b (Some y) (find p ys) ≡ cond b (Some y) (cond b (Some y) (find p ys))
  again true = refl
  again false = refl

  by : (b : Bool) → bytes_eq x y ≡ b → find p (cond b (y ∷ ys) (x ∷ y ∷ ys)) ≡ find p (x ∷ y ∷ ys)
  by true e = again (p y) ∙ ap (λ (z : List ℕ). find p (z ∷ y ∷ ys)) (sym (same_name x y e))
  by false e = refl

find-each_once : (p : List ℕ → Bool) (xs : List (List ℕ)) → find p (each_once xs) ≡ find p xs
find-each_once p [] = refl
find-each_once p (x ∷ xs) = find-in_front p x (each_once xs) ∙ ap (λ o. cond (p x) (Some x) o) (find-each_once p xs)

in_front-member : (x : List ℕ) (xs : List (List ℕ)) (z : List ℕ) → Member z (in_front x xs) → Member z (x ∷ xs)
in_front-member x [] z m = m
in_front-member x (y ∷ ys) z m = by (bytes_eq x y) m where
  by : (b : Bool) → Member z (cond b (y ∷ ys) (x ∷ y ∷ ys)) → Member z (x ∷ y ∷ ys)
  by true m = inr m
  by false m = m

member-in_front : (x : List ℕ) (xs : List (List ℕ)) (z : List ℕ) → Member z (x ∷ xs) → Member z (in_front x xs)
member-in_front x [] z m = m
member-in_front x (y ∷ ys) z m = by (bytes_eq x y) refl m where
  by : (b : Bool) → bytes_eq x y ≡ b → Member z (x ∷ y ∷ ys) → Member z (cond b (y ∷ ys) (x ∷ y ∷ ys))
  by true e (inl h) = inl (h ∙ same_name x y e)
  by true e (inr m) = m
  by false e m = m

each_once-member : (xs : List (List ℕ)) (z : List ℕ) → Member z (each_once xs) → Member z xs
each_once-member [] z m = m
each_once-member (x ∷ xs) z m = by (in_front-member x (each_once xs) z m) (λ h. each_once-member xs z h) where
  by : (z ≡ x) ⊎ Member z (each_once xs) → (Member z (each_once xs) → Member z xs) → (z ≡ x) ⊎ Member z xs
  by (inl h) more = inl h
  by (inr h) more = inr (more h)

member-each_once : (xs : List (List ℕ)) (z : List ℕ) → Member z xs → Member z (each_once xs)
member-each_once [] z m = m
member-each_once (x ∷ xs) z (inl h) = member-in_front x (each_once xs) z (inl h)
member-each_once (x ∷ xs) z (inr m) = member-in_front x (each_once xs) z (inr (member-each_once xs z m))

-- ---- order

none_before-in_front : (w x : List ℕ) (xs : List (List ℕ)) → NoneBefore bytes_cmp w (x ∷ xs) → NoneBefore bytes_cmp w (in_front x xs)
none_before-in_front w x [] h = h
none_before-in_front w x (y ∷ ys) h = by (bytes_eq x y) where
  by : (b : Bool) → NoneBefore bytes_cmp w (cond b (y ∷ ys) (x ∷ y ∷ ys))
  by true = h.1
  by false = h

none_before-each_once : (w : List ℕ) (xs : List (List ℕ)) → NoneBefore bytes_cmp w xs → NoneBefore bytes_cmp w (each_once xs)
none_before-each_once w [] h = h
none_before-each_once w (x ∷ xs) h = none_before-in_front w x (each_once xs) (h.0, none_before-each_once w xs h.1)

-- what is above the second is above the first
all_above : (x y : List ℕ) → bytes_cmp x y ≡ Less → (ys : List (List ℕ)) → AllByRecursion (λ z. bytes_cmp y z ≡ Less) ys
    → AllByRecursion (λ z. bytes_cmp x z ≡ Less) ys
all_above x y less [] h = h
all_above x y less (z ∷ ys) h = (nat_list_cmp_total.trans x y z less h.0, all_above x y less ys h.1)

below_of : (x y : List ℕ) → bytes_eq x y ≡ false → is_gt (bytes_cmp x y) ≡ false → bytes_cmp x y ≡ Less
below_of x y apart upto = by (bytes_cmp x y) refl upto where
  by : (r : Ordering) → bytes_cmp x y ≡ r → is_gt r ≡ false → r ≡ Less
  by Less e g = refl
  by Equal e g =
      let same : x ≡ y = bytes_cmp-same x y e in
      absurd (cc (sym (name_itself x) ∙ ap (bytes_eq x) same ∙ apart))
  by Greater e g = absurd (cc g)

strict-in_front : (x : List ℕ) (xs : List (List ℕ)) → NoneBefore bytes_cmp x xs → IsStrictlySortedBy bytes_cmp xs
    → IsStrictlySortedBy bytes_cmp (in_front x xs)
unfolding IsStrictlySortedBy
strict-in_front x [] none strict = (tt, tt)
strict-in_front x (y ∷ ys) none strict = by (bytes_eq x y) refl where
  by : (b : Bool) → bytes_eq x y ≡ b → IsStrictlySortedBy bytes_cmp (cond b (y ∷ ys) (x ∷ y ∷ ys))
  by true e = strict
  by false e = let less = below_of x y e none.0 in ((less, all_above x y less ys strict.0), strict)

strict-each_once : (xs : List (List ℕ)) → Ascends bytes_cmp xs → IsStrictlySortedBy bytes_cmp (each_once xs)
unfolding IsStrictlySortedBy
strict-each_once [] h = tt
strict-each_once (x ∷ xs) h = strict-in_front x (each_once xs) (none_before-each_once x xs h.0) (strict-each_once xs h.1)

-- ---- the rows at a stamp

module _ (defs : List IndexDef) (stamp : ℕ) (versions : List Version) where
  pub rows_ascend : IsStrictlySortedBy bytes_cmp (rows_at defs stamp versions)
  rows_ascend =
      strict-each_once (sorted_by bytes_cmp (seen_rows defs stamp versions))
      (Ascends-sorted_by nat_list_cmp_total (seen_rows defs stamp versions))

  pub passed_do_not_fall : IsSorted bytes_cmp (rows_not_at defs stamp versions)
  passed_do_not_fall = IsSorted-sorted_by nat_list_cmp_total (unseen_rows defs stamp versions)

  same_end : (end : Option (List ℕ)) (row : List ℕ) → (from : List ℕ) → (is_from from row && is_before_end end row) ≡ in_range from end row
  same_end None row from = refl
  same_end (Some end) row from = refl

  find_same : (p q : List ℕ → Bool) → ((x : List ℕ) → p x ≡ q x) → (xs : List (List ℕ)) → find p xs ≡ find q xs
  find_same p q same [] = refl
  find_same p q same (x ∷ xs) = λ i. cond (same x i) (Some x) (find_same p q same xs i)

  pub finds : (from : List ℕ) (end : Option (List ℕ))
      → first_row from end (seen_rows defs stamp versions) ≡ find (in_range from end) (rows_at defs stamp versions)
  finds from end =
      find_same (λ row. is_from from row && is_before_end end row) (in_range from end) (λ row. same_end end row from)
      (sorted_by bytes_cmp (seen_rows defs stamp versions))
      ∙ sym (find-each_once (in_range from end) (sorted_by bytes_cmp (seen_rows defs stamp versions)))

  same_found : (found : Option (List ℕ)) (row : List ℕ) → is_up_to found row ≡ is_within found row
  same_found None row = refl
  same_found (Some f) row = refl

  pub passes : (from : List ℕ) (end found : Option (List ℕ))
      → table_passed from end found (unseen_rows defs stamp versions) ≡ rows_passed from end found (rows_not_at defs stamp versions)
  passes from end found =
      (λ i. sum_by (λ row. cond (same_end end row from i && same_found found row i) 1 0) (unseen_rows defs stamp versions))
      ∙ sym (sum_by-IsPermutation (λ row. cond (in_range from end row && is_within found row) 1 0) (unseen_rows defs stamp versions)
      (rows_not_at defs stamp versions) (IsPermutation-sorted_by bytes_cmp (unseen_rows defs stamp versions)))

  pub row_seen : (x : List ℕ) → Contains (rows_at defs stamp versions) x → Contains (seen_rows defs stamp versions) x
  row_seen x c =
      let sorted = sorted_by bytes_cmp (seen_rows defs stamp versions) in
      Contains-permutation sorted (seen_rows defs stamp versions) x
      (IsPermutation-sym (seen_rows defs stamp versions) sorted (IsPermutation-sorted_by bytes_cmp (seen_rows defs stamp versions)))
      (contained sorted x (each_once-member sorted x (member_contained (rows_at defs stamp versions) x c)))

  pub seen_row : (x : List ℕ) → Contains (seen_rows defs stamp versions) x → Contains (rows_at defs stamp versions) x
  seen_row x c =
      let sorted = sorted_by bytes_cmp (seen_rows defs stamp versions) in
      contained (rows_at defs stamp versions) x
      (member-each_once sorted x (member_contained sorted x
      (Contains-permutation (seen_rows defs stamp versions) sorted x (IsPermutation-sorted_by bytes_cmp (seen_rows defs stamp versions))
      c)))
