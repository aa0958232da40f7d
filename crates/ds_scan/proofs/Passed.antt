-- A seek of a table, which passes versions, as a seek of rows, which passes those that aren't above the one found.
use Rattle.std.proofs.Common.{◌≡◌, ℕ, ◌≤◌, Bool, true, false, cond, List, [], ◌∷◌, refl, arith}
use Rattle.std.specs.Prelude.{◌&&◌, All, Option, Some, find}
use Rattle.std.proofs.lemmas.List.Elements.{All-nil, All-cons}
use Rattle.ds_zigzag.specs.Spans.{is_within}
use Rattle.std.specs.List.{AllByRecursion as Each}
use Rattle.ds_table.specs.Versions.{RowVersion, is_below, is_seen, in_range, seen_rows, unseen_rows, unseen_before, versions_within}
use Rattle.ds_base.specs.Bytes.{AreBytes}
use Rattle.ds_table.specs.Blocks.{IsOrdered, Precedes}
use Rattle.ds_scan.specs.Ranges.{rows_passed}
use Rattle.ds_scan.proofs.Order.{not_false}
use Rattle.ds_scan.proofs.Counts.{count_by-cons}

-- a version isn't above the first one seen that stands behind it
within_found : (q : List ℕ → Bool) (at : ℕ) (v : RowVersion) (ws : List RowVersion) → Each (Precedes v) ws → is_within (find q (seen_rows at ws)) v.row ≡ true
within_found q at v [] h = refl
within_found q at v (w ∷ ws) h = by (is_seen at w) refl (within_found q at v ws h.1) where
  here : (b : Bool) → is_within (find q (seen_rows at ws)) v.row ≡ true → is_within (cond b (Some w.row) (find q (seen_rows at ws))) v.row ≡ true
  here true i = not_false (is_below w.row v.row) h.0.not_above
  here false i = i

  by : (b : Bool) → is_seen at w ≡ b → is_within (find q (seen_rows at ws)) v.row ≡ true → is_within (find q (seen_rows at (w ∷ ws))) v.row ≡ true
  by true e i = rw e (here (q w.row) i)
  by false e i = rw e i

-- the versions passed are among the unseen rows that aren't above the one found
pub passed_within : (at : ℕ) (from : List ℕ) (below : Option (List ℕ)) (vs : List RowVersion) → IsOrdered vs
    → unseen_before at (versions_within from below vs) ≤ rows_passed from below (find (in_range from below) (seen_rows at vs)) (unseen_rows at vs)
passed_within at from below [] o = omega arith
passed_within at from below (v ∷ vs) o = by (is_seen at v) (in_range from below v.row) refl refl (passed_within at from below vs o.1) where
  found : Option (List ℕ)
  found = find (in_range from below) (seen_rows at vs)

  by : (s i : Bool) → is_seen at v ≡ s → in_range from below v.row ≡ i
      → unseen_before at (versions_within from below vs) ≤ rows_passed from below (find (in_range from below) (seen_rows at vs)) (unseen_rows at vs)
      → unseen_before at (versions_within from below (v ∷ vs)) ≤ rows_passed from below (find (in_range from below) (seen_rows at (v ∷ vs))) (unseen_rows at (v ∷ vs))
  by true true e f k = rw (f, e) (omega arith)
  by true false e f k = rw (f, e, f) k
  by false true e f k =
      let within = within_found (in_range from below) at v vs o.0 in
      let more = count_by-cons (λ row. in_range from below row && is_within (find (in_range from below) (seen_rows at vs)) row) v.row (unseen_rows at vs) in
      let one = rw (f, within) at more in
      rw (f, e) (omega (arith, one, k))
  by false false e f k =
      let more = count_by-cons (λ row. in_range from below row && is_within (find (in_range from below) (seen_rows at vs)) row) v.row (unseen_rows at vs) in
      let one = rw f at more in
      rw (f, e) (omega (arith, one, k))

-- where all rows are bytes, those that aren't seen are
pub unseen_are_bytes : (at : ℕ) (vs : List RowVersion) → Each (λ v. AreBytes v.row) vs → All AreBytes (unseen_rows at vs)
unseen_are_bytes at [] h = All-nil AreBytes
unseen_are_bytes at (v ∷ vs) h = by (is_seen at v) refl (unseen_are_bytes at vs h.1) where
  by : (b : Bool) → is_seen at v ≡ b → All AreBytes (unseen_rows at vs) → All AreBytes (unseen_rows at (v ∷ vs))
  by true e i = rw e i
  by false e i = rw e (All-cons AreBytes v.row (unseen_rows at vs) h.0 i)
