-- What a seek finds, block by block.
use Rattle.std.proofs.Common.{◌≡◌, ℕ, zero, suc, ◌+◌, ◌-◌, ◌<◌, ◌≤◌, Bool, true, false, List, [], ◌∷◌, ◌++◌, length, take, drop, get_or}
use Rattle.std.proofs.Common.{map, refl, ap, sym, ◌∙◌, arith}
use Rattle.std.specs.Prelude.{filter, find, Option, Some, None, option_map}
use Rattle.std.proofs.lemmas.List.Elements.{filter-append}
use Rattle.ds_lanes.specs.Kernels.{first_visible}
use Rattle.std.specs.List.{AllByRecursion as Each}
use Rattle.ds_table.specs.Versions.{RowVersion, is_below, is_before, in_range, is_seen, seen_rows, unseen_before, versions_within}
use Rattle.ds_table.specs.Blocks.{versions_of, joined, IsOrdered, Precedes}
use Rattle.ds_table.specs.Places.{IsPlace, comes_before, row_before}
use Rattle.ds_table.proofs.Lists.{filter_none, all_then, not_both, false_unless}
use Rattle.ds_table.proofs.Order.{upto_below}
use Rattle.ds_table.proofs.Columns.{after_take, after_drop}
use Rattle.ds_table.proofs.Placing.{place_by_rows, ordered_right}
use Rattle.std.proofs.lemmas.List.{get_or-take, get_or-drop, length-drop, length-take}

-- the versions of a range are those between its two places
pub range_is : (a : List ℕ) (b : Option (List ℕ)) (vs : List RowVersion) (low high k : ℕ) → k ≡ high - low
    → Each (λ v. is_below v.row a ≡ true) (take low vs) → Each (λ v. is_below v.row a ≡ false) (drop low vs)
    → Each (λ v. is_before b v.row ≡ true) (take high vs) → Each (λ v. is_before b v.row ≡ false) (drop high vs)
    → versions_within a b vs ≡ take k (drop low vs)
range_is a b [] zero high zero e p q r s = refl
range_is a b [] zero high (suc k) e p q r s = refl
range_is a b [] (suc low) high zero e p q r s = refl
range_is a b [] (suc low) high (suc k) e p q r s = refl
range_is a b (v ∷ vs) (suc low) zero k e p q r s = rw p.0 (range_is a b vs low zero k (omega (arith, e)) p.1 q tt s.1)
range_is a b (v ∷ vs) (suc low) (suc high) k e p q r s = rw p.0 (range_is a b vs low high k (omega (arith, e)) p.1 q r.1 s)
range_is a b (v ∷ vs) zero zero (suc k) e p q r s = absurd (omega (arith, e))
range_is a b (v ∷ vs) zero zero zero e p q r s = rw (q.0, s.0) (range_is a b vs zero zero zero (omega arith) tt q.1 tt s.1)
range_is a b (v ∷ vs) zero (suc high) zero e p q r s = absurd (omega (arith, e))
range_is a b (v ∷ vs) zero (suc high) (suc k) e p q r s = rw (q.0, r.0) (ap (λ l. v ∷ l) (range_is a b vs zero high k (omega (arith, e)) tt q.1 r.1 s))

-- the kernel's answer, over the columns
pub visible_is : (rs : List (List ℕ)) (fs ts : List ℕ) (at : ℕ) → length fs ≡ length rs → length ts ≡ length rs → first_visible fs ts at ≡ unseen_before at (versions_of rs fs ts)
visible_is [] [] ts at h g = refl
visible_is [] (f ∷ fs) ts at h g = absurd (omega (arith, h))
visible_is (r ∷ rs) [] ts at h g = absurd (omega (arith, h))
visible_is (r ∷ rs) (f ∷ fs) [] at h g = absurd (omega (arith, g))
visible_is (r ∷ rs) (f ∷ fs) (t ∷ ts) at h g =
    let i = visible_is rs fs ts at (omega (arith, h)) (omega (arith, g)) in
    by (is_seen at (record { row = r; from = f; to = t })) refl i
  where
    by : (b : Bool) → b ≡ is_seen at (record { row = r; from = f; to = t }) → first_visible fs ts at ≡ unseen_before at (versions_of rs fs ts)
        → first_visible (f ∷ fs) (t ∷ ts) at ≡ unseen_before at (versions_of (r ∷ rs) (f ∷ fs) (t ∷ ts))
    by true e i = rw (← e) refl
    by false e i = rw (← e) (omega (arith, i))

some_none : {X : Type 0} (x : X) → Some x ≡ None → ⊥
some_none x q = cc

-- where the count ends within the list, the version there is the first one seen
pub seen_there : (at : ℕ) (vs : List RowVersion) (d : RowVersion) → unseen_before at vs < length vs → find (is_seen at) vs ≡ Some (get_or vs (unseen_before at vs) d)
seen_there at [] d h = absurd (omega (arith, h))
seen_there at (v ∷ vs) d h = by (is_seen at v) refl h (seen_there at vs d)
  where
    by : (b : Bool) → b ≡ is_seen at v → unseen_before at (v ∷ vs) < suc (length vs) → (unseen_before at vs < length vs → find (is_seen at) vs ≡ Some (get_or vs (unseen_before at vs) d))
        → find (is_seen at) (v ∷ vs) ≡ Some (get_or (v ∷ vs) (unseen_before at (v ∷ vs)) d)
    by true e h i = rw (← e) refl
    by false e h i = let k = rw (← e) at h in rw (← e) (i (omega (arith, k)))

pub none_seen : (at : ℕ) (vs : List RowVersion) → length vs ≤ unseen_before at vs → find (is_seen at) vs ≡ None
none_seen at [] h = refl
none_seen at (v ∷ vs) h = by (is_seen at v) refl h (none_seen at vs)
  where
    by : (b : Bool) → b ≡ is_seen at v → suc (length vs) ≤ unseen_before at (v ∷ vs) → (length vs ≤ unseen_before at vs → find (is_seen at) vs ≡ None)
        → find (is_seen at) (v ∷ vs) ≡ None
    by true e h i = let k = rw (← e) at h in absurd (omega (arith, k))
    by false e h i = let k = rw (← e) at h in rw (← e) (i (omega (arith, k)))

-- a list whose first part has none that is seen
pub find_behind : (at : ℕ) (xs ys : List RowVersion) → find (is_seen at) xs ≡ None → find (is_seen at) (xs ++ ys) ≡ find (is_seen at) ys
find_behind at [] ys h = refl
find_behind at (x ∷ xs) ys h = by (is_seen at x) refl h (find_behind at xs ys)
  where
    by : (b : Bool) → b ≡ is_seen at x → find (is_seen at) (x ∷ xs) ≡ None → (find (is_seen at) xs ≡ None → find (is_seen at) (xs ++ ys) ≡ find (is_seen at) ys)
        → find (is_seen at) (x ∷ (xs ++ ys)) ≡ find (is_seen at) ys
    by true e h i = absurd (some_none x (rw (← e) at h))
    by false e h i = rw (← e) (i (rw (← e) at h))

pub count_behind : (at : ℕ) (xs ys : List RowVersion) → find (is_seen at) xs ≡ None → unseen_before at (xs ++ ys) ≡ unseen_before at xs + unseen_before at ys
count_behind at [] ys h = omega arith
count_behind at (x ∷ xs) ys h = by (is_seen at x) refl h (count_behind at xs ys)
  where
    by : (b : Bool) → b ≡ is_seen at x → find (is_seen at) (x ∷ xs) ≡ None → (find (is_seen at) xs ≡ None → unseen_before at (xs ++ ys) ≡ unseen_before at xs + unseen_before at ys)
        → unseen_before at (x ∷ (xs ++ ys)) ≡ unseen_before at (x ∷ xs) + unseen_before at ys
    by true e h i = absurd (some_none x (rw (← e) at h))
    by false e h i = let j = i (rw (← e) at h) in rw (← e) (omega (arith, j))

-- a list whose first part has one
pub find_within : (at : ℕ) (xs ys : List RowVersion) (v : RowVersion) → find (is_seen at) xs ≡ Some v → find (is_seen at) (xs ++ ys) ≡ Some v
find_within at [] ys v h = absurd (some_none v (sym h))
find_within at (x ∷ xs) ys v h = by (is_seen at x) refl h (find_within at xs ys v)
  where
    by : (b : Bool) → b ≡ is_seen at x → find (is_seen at) (x ∷ xs) ≡ Some v → (find (is_seen at) xs ≡ Some v → find (is_seen at) (xs ++ ys) ≡ Some v)
        → find (is_seen at) (x ∷ (xs ++ ys)) ≡ Some v
    by true e h i = rw (← e) (rw (← e) at h)
    by false e h i = rw (← e) (i (rw (← e) at h))

pub count_within : (at : ℕ) (xs ys : List RowVersion) (v : RowVersion) → find (is_seen at) xs ≡ Some v → unseen_before at (xs ++ ys) ≡ unseen_before at xs
count_within at [] ys v h = absurd (some_none v (sym h))
count_within at (x ∷ xs) ys v h = by (is_seen at x) refl h (count_within at xs ys v)
  where
    by : (b : Bool) → b ≡ is_seen at x → find (is_seen at) (x ∷ xs) ≡ Some v → (find (is_seen at) xs ≡ Some v → unseen_before at (xs ++ ys) ≡ unseen_before at xs)
        → unseen_before at (x ∷ (xs ++ ys)) ≡ unseen_before at (x ∷ xs)
    by true e h i = rw (← e) refl
    by false e h i = rw (← e) (ap suc (i (rw (← e) at h)))

-- the first seen row of a range is the row of the first version of the range that is seen
pub first_row : (p : List ℕ → Bool) (at : ℕ) (vs : List RowVersion) → find p (seen_rows at vs) ≡ option_map (λ v. v.row) (find (is_seen at) (filter (λ v. p v.row) vs))
first_row p at [] = refl
first_row p at (v ∷ vs) = by (is_seen at v) (p v.row) refl refl (first_row p at vs)
  where
    by : (b c : Bool) → b ≡ is_seen at v → c ≡ p v.row → find p (seen_rows at vs) ≡ option_map (λ v. v.row) (find (is_seen at) (filter (λ v. p v.row) vs))
        → find p (seen_rows at (v ∷ vs)) ≡ option_map (λ v. v.row) (find (is_seen at) (filter (λ v. p v.row) (v ∷ vs)))
    by true true e f i = rw (← e, ← f, ← e) refl
    by true false e f i = rw (← e, ← f) i
    by false true e f i = rw (← e, ← f, ← e) i
    by false false e f i = rw (← e, ← f) i

-- nothing of a range is before its begin, and nothing behind its end
pub out_below : (a : List ℕ) (b : Option (List ℕ)) (vs : List RowVersion) → Each (λ v. comes_before a false v ≡ true) vs → versions_within a b vs ≡ []
out_below a b vs h = filter_none (λ v. in_range a b v.row) vs (all_then (λ v. is_below v.row a ≡ true) (λ v. in_range a b v.row ≡ false) (λ v t. rw t refl) vs h)

pub out_above : (a : List ℕ) (b : Option (List ℕ)) (v : RowVersion) (vs : List RowVersion) → IsOrdered (v ∷ vs) → is_before b v.row ≡ false → versions_within a b (v ∷ vs) ≡ []
out_above a None v vs h f = absurd (not_both true refl f)
out_above a (Some b) v vs h f =
    filter_none (λ w. in_range a (Some b) w.row) (v ∷ vs) (at_one v f, all_then (Precedes v) (λ w. in_range a (Some b) w.row ≡ false) (λ w p. at_one w (later w p)) vs h.0)
  where
    later : (w : RowVersion) → Precedes v w → is_below w.row b ≡ false
    later w p = false_unless (is_below w.row b) (λ t. not_both (is_below v.row b) (upto_below v.row w.row b p.not_above t) f)

    at_one : (w : RowVersion) → is_below w.row b ≡ false → in_range a (Some b) w.row ≡ false
    at_one w e = by (is_below w.row a) refl
      where
        by : (c : Bool) → c ≡ is_below w.row a → in_range a (Some b) w.row ≡ false
        by true g = rw (← g) refl
        by false g = rw (← g, e) refl

-- the range of a block, by the places of its bounds among the rows
pub block_range : (a : List ℕ) (b : Option (List ℕ)) (rs : List (List ℕ)) (vs : List RowVersion) (low high k : ℕ) → map (λ v. v.row) vs ≡ rs → length vs ≡ length rs
    → IsPlace (row_before a false) rs low → IsPlace (is_before b) rs high → k ≡ high - low → versions_within a b vs ≡ take k (drop low vs)
block_range a b rs vs low high k e n p q m =
    let x = place_by_rows (row_before a false) vs rs low e n p in
    let y = place_by_rows (is_before b) vs rs high e n q in
    range_is a b vs low high k m x.before x.after y.before y.after

pub block_passed : (at : ℕ) (rs : List (List ℕ)) (fs ts : List ℕ) (low k : ℕ) → length fs ≡ length rs → length ts ≡ length rs
    → first_visible (take k (drop low fs)) (take k (drop low ts)) at ≡ unseen_before at (take k (drop low (versions_of rs fs ts)))
block_passed at rs fs ts low k h g =
    let f : length (drop low fs) ≡ length (drop low rs) = simp length-drop (omega (arith, h)) in
    let t : length (drop low ts) ≡ length (drop low rs) = simp length-drop (omega (arith, g)) in
    let f₂ : length (take k (drop low fs)) ≡ length (take k (drop low rs)) = simp length-take (rw f refl) in
    let t₂ : length (take k (drop low ts)) ≡ length (take k (drop low rs)) = simp length-take (rw t refl) in
    visible_is (take k (drop low rs)) (take k (drop low fs)) (take k (drop low ts)) at f₂ t₂
    ∙ ap (unseen_before at) (after_take k (drop low rs) (drop low fs) (drop low ts) f t ∙ ap (take k) (after_drop low rs fs ts h g))

pub long_range : (vs : List RowVersion) (low k : ℕ) → low + k ≤ length vs → length (take k (drop low vs)) ≡ k
long_range vs low k h = simp (length-take, length-drop) (omega (arith, h))

pub block_found : (at : ℕ) (vs : List RowVersion) (low k p : ℕ) (d : RowVersion) → low + k ≤ length vs → p ≡ unseen_before at (take k (drop low vs)) → p < k
    → find (is_seen at) (take k (drop low vs)) ≡ Some (get_or vs (low + p) d)
block_found at vs low k p d h e l =
    let n = long_range vs low k h in
    let s = seen_there at (take k (drop low vs)) d (omega (arith, e, l, n)) in
    rw s (ap (λ x. Some x) (rw (← e) (get_or-take k (drop low vs) p d l ∙ get_or-drop low vs p d)))

pub block_none : (at : ℕ) (vs : List RowVersion) (low k p : ℕ) → low + k ≤ length vs → p ≡ unseen_before at (take k (drop low vs)) → k ≤ p
    → find (is_seen at) (take k (drop low vs)) ≡ None
block_none at vs low k p h e l = none_seen at (take k (drop low vs)) (omega (arith, e, l, long_range vs low k h))

-- ---- the seek over blocks

pub find_by : (a : List ℕ) (b : Option (List ℕ)) (at : ℕ) (vs ws : List RowVersion) → versions_within a b vs ≡ versions_within a b ws
    → find (in_range a b) (seen_rows at vs) ≡ find (in_range a b) (seen_rows at ws)
find_by a b at vs ws e = first_row (in_range a b) at vs ∙ ap (λ l. option_map (λ v. v.row) (find (is_seen at) l)) e ∙ sym (first_row (in_range a b) at ws)

pub within_joined : (a : List ℕ) (b : Option (List ℕ)) (xs ys : List RowVersion) → versions_within a b (xs ++ ys) ≡ versions_within a b xs ++ versions_within a b ys
within_joined a b xs ys = filter-append (λ v. in_range a b v.row) xs ys

pub within_behind : (a : List ℕ) (b : Option (List ℕ)) (xs ys : List RowVersion) → Each (λ v. comes_before a false v ≡ true) xs → versions_within a b (xs ++ ys) ≡ versions_within a b ys
within_behind a b xs ys h = within_joined a b xs ys ∙ ap (λ l. l ++ versions_within a b ys) (out_below a b xs h)

-- where the first row of a block isn't below the bound, nothing of the range is in it or behind it
pub rest_out : (a : List ℕ) (b : Option (List ℕ)) (bs : List (List RowVersion)) (i : ℕ) (d : RowVersion) → i < length bs → Each (λ c. 0 < length c) bs → IsOrdered (joined bs)
    → is_before b (get_or (get_or bs i []) 0 d).row ≡ false → versions_within a b (joined (drop i bs)) ≡ []
rest_out a b [] i d l f r e = absurd (omega (arith, l))
rest_out a b ([] ∷ bs) zero d l f r e = absurd (omega (arith, f.0))
rest_out a b ((v ∷ c) ∷ bs) zero d l f r e = out_above a b v (c ++ joined bs) r e
rest_out a b (c ∷ bs) (suc i) d l f r e = rest_out a b bs i d (omega (arith, l)) f.1 (ordered_right c (joined bs) r) e

-- a block in which nothing is seen
pub find_past : (a : List ℕ) (b : Option (List ℕ)) (at : ℕ) (xs ys : List RowVersion) → find (is_seen at) (versions_within a b xs) ≡ None
    → find (in_range a b) (seen_rows at (xs ++ ys)) ≡ find (in_range a b) (seen_rows at ys)
find_past a b at xs ys h =
    first_row (in_range a b) at (xs ++ ys)
    ∙ ap (option_map (λ v. v.row)) (ap (find (is_seen at)) (within_joined a b xs ys) ∙ find_behind at (versions_within a b xs) (versions_within a b ys) h)
    ∙ sym (first_row (in_range a b) at ys)

pub count_past : (a : List ℕ) (b : Option (List ℕ)) (at : ℕ) (xs ys : List RowVersion) → find (is_seen at) (versions_within a b xs) ≡ None
    → unseen_before at (versions_within a b (xs ++ ys)) ≡ unseen_before at (versions_within a b xs) + unseen_before at (versions_within a b ys)
count_past a b at xs ys h = ap (unseen_before at) (within_joined a b xs ys) ∙ count_behind at (versions_within a b xs) (versions_within a b ys) h

-- a block in which something is
pub find_here : (a : List ℕ) (b : Option (List ℕ)) (at : ℕ) (xs ys : List RowVersion) (v : RowVersion) → find (is_seen at) (versions_within a b xs) ≡ Some v
    → find (in_range a b) (seen_rows at (xs ++ ys)) ≡ Some v.row
find_here a b at xs ys v h =
    first_row (in_range a b) at (xs ++ ys)
    ∙ ap (option_map (λ v. v.row)) (ap (find (is_seen at)) (within_joined a b xs ys) ∙ find_within at (versions_within a b xs) (versions_within a b ys) v h)

pub count_here : (a : List ℕ) (b : Option (List ℕ)) (at : ℕ) (xs ys : List RowVersion) (v : RowVersion) → find (is_seen at) (versions_within a b xs) ≡ Some v
    → unseen_before at (versions_within a b (xs ++ ys)) ≡ unseen_before at (versions_within a b xs)
count_here a b at xs ys v h = ap (unseen_before at) (within_joined a b xs ys) ∙ count_within at (versions_within a b xs) (versions_within a b ys) v h
