-- The rows that are seen ascend, and those that aren't don't fall.
use Rattle.std.proofs.Common.{◌≡◌, ℕ, zero, suc, ◌+◌, ◌<◌, ◌≤◌, Bool, true, false, List, [], ◌∷◌, get_or, refl, arith, subst}
use Rattle.std.specs.Prelude.{nat_le, nat_lt}
use Rattle.std.specs.List.{AllByRecursion}
use Rattle.std.specs.List.Sorted.{IsSorted, IsStrictlySortedBy}
use Rattle.std.specs.declared.cmp.Ordering.{Ordering}
use Rattle.std.specs.declared.cmp.Ordering.TheVariants.{Less, Equal, Greater}
use Rattle.std.specs.Ordering.{is_lt}
use Rattle.std.proofs.lemmas.Bool.Decides.{nat_tests}
use Rattle.ds_base.specs.KeyOrder.{bytes_cmp}
use Rattle.std.specs.List.{AllByRecursion as Each}
use Rattle.ds_table.specs.Versions.{RowVersion, is_below, is_seen, seen_rows, unseen_rows}
use Rattle.ds_table.specs.Blocks.{IsOrdered, Precedes}
use Rattle.ds_table.specs.Places.{IsRising}
use Rattle.ds_table.proofs.Order.{below_unless_same}

less : (r : Ordering) → is_lt r ≡ true → r ≡ Less
less Less h = refl
less Equal h = cc
less Greater h = cc

and_parts : (a b d : ℕ) → true ≡ is_seen d (record { row = []; from = a; to = b }) → (a ≤ d) × (d < b)
and_parts a b d e = by (nat_le a d) (nat_lt d b) refl refl e
  where
    by : (x y : Bool) → x ≡ nat_le a d → y ≡ nat_lt d b → true ≡ is_seen d (record { row = []; from = a; to = b }) → (a ≤ d) × (d < b)
    by true true p q e = (grind (arith, nat_tests), grind (arith, nat_tests))
    by true false p q e = let z : true ≡ false = rw (← p, ← q) at e in cc
    by false y p q e = let z : true ≡ false = rw (← p) at e in cc

above : (at : ℕ) (v w : RowVersion) → true ≡ is_seen at v → true ≡ is_seen at w → Precedes v w → bytes_cmp v.row w.row ≡ Less
above at v w s t p =
    let a = and_parts v.from v.to at s in
    let b = and_parts w.from w.to at t in
    less (bytes_cmp v.row w.row) (below_unless_same v.row w.row p.not_above (λ e. let k = p.apart e in absurd (omega (arith, k, a.1, b.0))))

seen_above : (at : ℕ) (v : RowVersion) → true ≡ is_seen at v → (ws : List RowVersion) → Each (Precedes v) ws → AllByRecursion (λ y. bytes_cmp v.row y ≡ Less) (seen_rows at ws)
seen_above at v s [] h = tt
seen_above at v s (w ∷ ws) h = by (is_seen at w) refl (seen_above at v s ws h.1)
  where
    by : (b : Bool) → b ≡ is_seen at w → AllByRecursion (λ y. bytes_cmp v.row y ≡ Less) (seen_rows at ws) → AllByRecursion (λ y. bytes_cmp v.row y ≡ Less) (seen_rows at (w ∷ ws))
    by true e i = rw (← e) (above at v w s e h.0, i)
    by false e i = rw (← e) i

pub seen_ascend : (at : ℕ) (vs : List RowVersion) → IsOrdered vs → IsStrictlySortedBy bytes_cmp (seen_rows at vs)
unfolding IsStrictlySortedBy
seen_ascend at [] h = tt
seen_ascend at (v ∷ vs) h = by (is_seen at v) refl (seen_ascend at vs h.1)
  where
    by : (b : Bool) → b ≡ is_seen at v → IsStrictlySortedBy bytes_cmp (seen_rows at vs) → IsStrictlySortedBy bytes_cmp (seen_rows at (v ∷ vs))
    by true e i = rw (← e) (seen_above at v e vs h.0, i)
    by false e i = rw (← e) i

unseen_above : (at : ℕ) (v : RowVersion) (ws : List RowVersion) → Each (Precedes v) ws → Each (λ y. is_below y v.row ≡ false) (unseen_rows at ws)
unseen_above at v [] h = tt
unseen_above at v (w ∷ ws) h = by (is_seen at w) refl (unseen_above at v ws h.1)
  where
    by : (b : Bool) → b ≡ is_seen at w → Each (λ y. is_below y v.row ≡ false) (unseen_rows at ws) → Each (λ y. is_below y v.row ≡ false) (unseen_rows at (w ∷ ws))
    by true e i = rw (← e) i
    by false e i = rw (← e) (h.0.not_above, i)

unseen_rise : (at : ℕ) (vs : List RowVersion) → IsOrdered vs → IsRising (unseen_rows at vs)
unseen_rise at [] h = tt
unseen_rise at (v ∷ vs) h = by (is_seen at v) refl (unseen_rise at vs h.1)
  where
    by : (b : Bool) → b ≡ is_seen at v → IsRising (unseen_rows at vs) → IsRising (unseen_rows at (v ∷ vs))
    by true e i = rw (← e) i
    by false e i = rw (← e) (unseen_above at v vs h.0, i)

sorted_of : (xs : List (List ℕ)) → IsRising xs → IsSorted bytes_cmp xs
sorted_of [] h k d low b = absurd (omega arith)
sorted_of (x ∷ []) h k d low b = absurd (omega arith)
sorted_of (x ∷ y ∷ xs) h zero d low b = h.0.0
sorted_of (x ∷ y ∷ xs) h (suc k) d low b =
    let same : suc (k + 1) ≡ suc k + 1 = omega arith in
    subst (λ m. is_lt (bytes_cmp (get_or (x ∷ y ∷ xs) m d) (get_or (y ∷ xs) k d)) ≡ false) same (sorted_of (y ∷ xs) h.1 k d (omega arith) (omega arith))

pub unseen_rises : (at : ℕ) (vs : List RowVersion) → IsOrdered vs → IsSorted bytes_cmp (unseen_rows at vs)
unseen_rises at vs h = sorted_of (unseen_rows at vs) (unseen_rise at vs h)
