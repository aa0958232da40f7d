-- Undoing a stamp leaves the versions that stood before the calls at it: it takes back what an addition did, and what a close
-- did, and changes nothing where there is nothing of the stamp.
use Rattle.std.specs.Prelude.{◌≡◌, ℕ, ◌<◌, Bool, true, false, ◌==◌, if◌then◌else◌, List, [], ◌∷◌, Some, None, bytes_eq, refl}
use Rattle.std.specs.List.{cons_option}
use Rattle.std.proofs.Common.{sym, ap, arith}
use Rattle.std.proofs.lemmas.Bool.Decides.{nat_tests}
use Rattle.std.specs.List.{AllByRecursion as Each}
use Rattle.ds_table.specs.Versions.{RowVersion, never, is_below, added, closed, undone, before_stamp, ended_at}

same_number : (m n : ℕ) → m ≡ n → (m == n) ≡ true
same_number m n e = grind (arith, nat_tests)

other_number : (m n : ℕ) → (m ≡ n → ⊥) → (m == n) ≡ false
other_number m n h = by (m == n) refl
  where
    by : (b : Bool) → b ≡ (m == n) → (m == n) ≡ false
    by true e = absurd (h (grind (arith, nat_tests)))
    by false e = sym e

-- an addition is undone
pub undo_added : (row : List ℕ) (stamp : ℕ) (vs : List RowVersion) → undone stamp (added row stamp vs) ≡ undone stamp vs
undo_added row stamp [] = gone refl
  where
    gone : before_stamp stamp (record { row = row; from = stamp; to = never }) ≡ before_stamp stamp
        (record { row = row; from = stamp; to = never })
        → undone stamp (record { row = row; from = stamp; to = never } ∷ []) ≡ []
    gone q = rw (same_number stamp stamp refl) refl
undo_added row stamp (w ∷ ws) = by (is_below row w.row) refl (undo_added row stamp ws)
  where
    by : (b : Bool) → b ≡ is_below row w.row → undone stamp (added row stamp ws) ≡ undone stamp ws
        → undone stamp (added row stamp (w ∷ ws)) ≡ undone stamp (w ∷ ws)
    by true e i = rw (← e, same_number stamp stamp refl) refl
    by false e i = rw (← e) (ap (cons_option (before_stamp stamp w)) i)

-- a close is undone
pub undo_closed : (row : List ℕ) (stamp : ℕ) (vs : List RowVersion) → stamp < never → undone stamp (closed row stamp vs) ≡ undone stamp vs
undo_closed row stamp [] h = refl
undo_closed row stamp (v ∷ vs) h = by (bytes_eq v.row row) (v.to == never) refl refl (undo_closed row stamp vs h)
  where
    by : (b c : Bool) → b ≡ bytes_eq v.row row → c ≡ (v.to == never) → undone stamp (closed row stamp vs) ≡ undone stamp vs
        → undone stamp (closed row stamp (v ∷ vs)) ≡ undone stamp (v ∷ vs)
    by false c e f i = rw (← e) (ap (cons_option (before_stamp stamp v)) i)
    by true false e f i = rw (← e, ← f) (ap (cons_option (before_stamp stamp v)) i)
    by true true e f i =
        let t : v.to ≡ never = grind (arith, nat_tests) in
        let n : (v.to == stamp) ≡ false = other_number v.to stamp (λ q. absurd (omega (arith, h, q, t))) in
        rw (← e, ← f, same_number stamp stamp refl, n, i) (reopened (v.from == stamp) t)
      where
        reopened : (d : Bool) → v.to ≡ never → cons_option (if d then None else Some (ended_at never v)) (undone stamp vs)
            ≡ cons_option (if d then None else Some v) (undone stamp vs)
        reopened true t = refl
        reopened false t = ap (λ n. ended_at n v ∷ undone stamp vs) (sym t)

-- no version was added or closed at the stamp
pub record IsFree (stamp : ℕ) (v : RowVersion) : Type 0 where
  pub from_free : v.from ≡ stamp → ⊥
  pub to_free : v.to ≡ stamp → ⊥

-- where nothing was done at the stamp, undoing it changes nothing
pub undo_nothing : (stamp : ℕ) (vs : List RowVersion) → Each (IsFree stamp) vs → undone stamp vs ≡ vs
undo_nothing stamp [] h = refl
undo_nothing stamp (v ∷ vs) h =
    rw (other_number v.from stamp h.0.from_free, other_number v.to stamp h.0.to_free) (ap (λ l. v ∷ l) (undo_nothing stamp vs h.1))
