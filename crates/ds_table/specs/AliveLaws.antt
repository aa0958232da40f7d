-- Which rows are alive after each call: for callers that keep count of them.
use Rattle.std.specs.Prelude.{◌≡◌, ℕ, ◌<◌, ◌≤◌, Bool, true, false, ◌&&◌, ◌||◌, ◌==◌, nat_lt, List, [], ◌∷◌, bytes_eq, refl}
use Rattle.std.proofs.Common.{sym, ap, ◌∙◌, arith}
use Rattle.std.proofs.lemmas.Bool.Decides.{nat_tests}
use Rattle.std.proofs.lemmas.Slice.Eq.{bytes_eq-Decides}
use Rattle.ds_table.specs.Versions.{RowVersion, never, is_below, is_alive, has_alive, added, closed, trimmed}

same_row : (x y : List ℕ) → x ≡ y → bytes_eq x y ≡ true
same_row x y e = (bytes_eq-Decides x y).1 e

other_row : (x y : List ℕ) → (x ≡ y → ⊥) → bytes_eq x y ≡ false
other_row x y n = by (bytes_eq x y) refl
  where
    by : (b : Bool) → b ≡ bytes_eq x y → bytes_eq x y ≡ false
    by true e = absurd (n ((bytes_eq-Decides x y).0 (sym e)))
    by false e = sym e

true_not_false : true ≡ false → ⊥
true_not_false e = cc

or_true : (a b : Bool) → b ≡ true → (a || b) ≡ true
or_true true b h = refl
or_true false b h = h

-- a row that was added is alive
pub alive_added : (row : List ℕ) (stamp : ℕ) (vs : List RowVersion) → has_alive row (added row stamp vs) ≡ true
alive_added row stamp [] = rw (same_row row row refl) refl
alive_added row stamp (w ∷ ws) = by (is_below row w.row) refl (alive_added row stamp ws)
  where
    by : (b : Bool) → b ≡ is_below row w.row → has_alive row (added row stamp ws) ≡ true → has_alive row (added row stamp (w ∷ ws)) ≡ true
    by true e i = rw (← e, same_row row row refl) refl
    by false e i = rw (← e) (or_true (is_alive row w) (has_alive row (added row stamp ws)) i)

-- the others are alive as before
pub others_added : (r row : List ℕ) (stamp : ℕ) (vs : List RowVersion) → (row ≡ r → ⊥) → has_alive r (added row stamp vs) ≡ has_alive r vs
others_added r row stamp [] n = rw (other_row row r n) refl
others_added r row stamp (w ∷ ws) n = by (is_below row w.row) refl (others_added r row stamp ws n)
  where
    by : (b : Bool) → b ≡ is_below row w.row → has_alive r (added row stamp ws) ≡ has_alive r ws
        → has_alive r (added row stamp (w ∷ ws)) ≡ has_alive r (w ∷ ws)
    by true e i = rw (← e, other_row row r n) refl
    by false e i = rw (← e) (ap (λ b. is_alive r w || b) i)

not_never : (stamp : ℕ) → stamp < never → (stamp == never) ≡ false
not_never stamp h = by (stamp == never) refl
  where
    by : (b : Bool) → b ≡ (stamp == never) → (stamp == never) ≡ false
    by true e = let q : stamp ≡ never = grind (arith, nat_tests) in absurd (omega (arith, h, q))
    by false e = sym e

and_false : (a b : Bool) → b ≡ false → (a && b) ≡ false
and_false true b h = h
and_false false b h = refl

-- a row that was closed isn't alive
pub alive_closed : (row : List ℕ) (stamp : ℕ) (vs : List RowVersion) → stamp < never → has_alive row (closed row stamp vs) ≡ false
alive_closed row stamp [] h = refl
alive_closed row stamp (v ∷ vs) h = by (is_alive row v) refl (alive_closed row stamp vs h)
  where
    by : (b : Bool) → b ≡ is_alive row v → has_alive row (closed row stamp vs) ≡ false → has_alive row (closed row stamp (v ∷ vs)) ≡ false
    by true e i = rw (← e, and_false (bytes_eq v.row row) (stamp == never) (not_never stamp h)) i
    by false e i = rw (← e, ← e) i

-- the others are alive as before
pub others_closed : (r row : List ℕ) (stamp : ℕ) (vs : List RowVersion) → stamp < never → (row ≡ r → ⊥)
    → has_alive r (closed row stamp vs) ≡ has_alive r vs
others_closed r row stamp [] h n = refl
others_closed r row stamp (v ∷ vs) h n = by (bytes_eq v.row row) (v.to == never) refl refl (others_closed r row stamp vs h n)
  where
    by : (b c : Bool) → b ≡ bytes_eq v.row row → c ≡ (v.to == never) → has_alive r (closed row stamp vs) ≡ has_alive r vs
        → has_alive r (closed row stamp (v ∷ vs)) ≡ has_alive r (v ∷ vs)
    by false c e f i = rw (← e) (ap (λ b. is_alive r v || b) i)
    by true false e f i = rw (and_false (bytes_eq v.row row) (v.to == never) (sym f)) (ap (λ b. is_alive r v || b) i)
    by true true e f i =
        let s : v.row ≡ row = (bytes_eq-Decides v.row row).0 (sym e) in
        let o : bytes_eq v.row r ≡ false = other_row v.row r (λ q. n (sym s ∙ q)) in
        rw (← e, ← f, o) i

-- what is alive isn't trimmed
pub alive_trimmed : (r : List ℕ) (floor : ℕ) (vs : List RowVersion) → floor < never → has_alive r (trimmed floor vs) ≡ has_alive r vs
alive_trimmed r floor [] h = refl
alive_trimmed r floor (v ∷ vs) h = by (nat_lt floor v.to) refl (alive_trimmed r floor vs h)
  where
    by : (b : Bool) → b ≡ nat_lt floor v.to → has_alive r (trimmed floor vs) ≡ has_alive r vs
        → has_alive r (trimmed floor (v ∷ vs)) ≡ has_alive r (v ∷ vs)
    by true e i = rw (← e) (ap (λ b. is_alive r v || b) i)
    by false e i =
        let t : v.to ≤ floor = grind (arith, nat_tests) in
        let q : (v.to == never) ≡ false = not_never v.to (omega (arith, t, h)) in
        rw (← e, and_false (bytes_eq v.row r) (v.to == never) q) i
