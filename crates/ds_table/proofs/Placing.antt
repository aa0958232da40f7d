-- Places in the order, in one list of rows and in a list of blocks.
use Rattle.std.proofs.Common.{◌≡◌, ℕ, zero, suc, ◌<◌, Bool, true, false, List, [], ◌∷◌, ◌++◌, length, take, drop, get_or, map, sym, arith}
use Rattle.std.proofs.Common.{subst}
use Rattle.std.specs.List.{AllByRecursion as Each}
use Rattle.ds_table.specs.Versions.{RowVersion, is_below}
use Rattle.ds_table.specs.Blocks.{joined, Precedes, IsOrdered}
use Rattle.ds_table.specs.Places.{row_before, comes_before, IsRising, IsPlace}
use Rattle.ds_table.proofs.Lists.{each_append, each_at, all_then, all_left, all_right, all_taken, all_dropped}
use Rattle.ds_table.proofs.Order.{keeps, lacks}

pub rising : (vs : List RowVersion) → IsOrdered vs → IsRising (map (λ v. v.row) vs)
rising [] h = tt
rising (v ∷ vs) h = (above vs h.0, rising vs h.1)
  where
    above : (ws : List RowVersion) → Each (Precedes v) ws → Each (λ s. is_below s v.row ≡ false) (map (λ w. w.row) ws)
    above [] h = tt
    above (w ∷ ws) h = (h.0.not_above, above ws h.1)

pub rising_before : (o : List ℕ) (s : Bool) (rs : List (List ℕ)) (m : ℕ) (d : List ℕ) → IsRising rs → m < length rs
    → row_before o s (get_or rs m d) ≡ true → Each (λ r. row_before o s r ≡ true) (take (suc m) rs)
rising_before o s [] m d ris l t = absurd (omega (arith, l))
rising_before o s (r ∷ rs) zero d ris l t = (t, tt)
rising_before o s (r ∷ rs) (suc m) d ris l t =
    let k : m < length rs = omega (arith, l) in
    (keeps o s r (get_or rs m d) (each_at (λ q. is_below q r ≡ false) rs m d k ris.0) t, rising_before o s rs m d ris.1 k t)

pub rising_after : (o : List ℕ) (s : Bool) (rs : List (List ℕ)) (m : ℕ) (d : List ℕ) → IsRising rs → m < length rs
    → row_before o s (get_or rs m d) ≡ false → Each (λ r. row_before o s r ≡ false) (drop m rs)
rising_after o s [] m d ris l f = absurd (omega (arith, l))
rising_after o s (r ∷ rs) zero d ris l f = (f, all_then (λ q. is_below q r ≡ false) (λ q. row_before o s q ≡ false) (λ q h. lacks o s r q h f) rs ris.0)
rising_after o s (r ∷ rs) (suc m) d ris l f = rising_after o s rs m d ris.1 (omega (arith, l)) f

-- a place among rows is the place among their versions
pub place_by_rows : (test : List ℕ → Bool) (vs : List RowVersion) (rs : List (List ℕ)) (p : ℕ) → map (λ v. v.row) vs ≡ rs → length vs ≡ length rs → IsPlace test rs p → IsPlace (λ v. test v.row) vs p
place_by_rows test vs rs p e n h =
    let b : Each (λ r. test r ≡ true) (take p (map (λ v. v.row) vs)) = subst (λ l. Each (λ r. test r ≡ true) (take p l)) (sym e) h.before in
    let a : Each (λ r. test r ≡ false) (drop p (map (λ v. v.row) vs)) = subst (λ l. Each (λ r. test r ≡ false) (drop p l)) (sym e) h.after in
    record {
      within = omega (arith, h.within, n);
      before = all_taken (λ r. test r ≡ true) (λ (v : RowVersion). v.row) p vs b;
      after = all_dropped (λ r. test r ≡ false) (λ (v : RowVersion). v.row) p vs a;
    }

pub ordered_left : (xs ys : List RowVersion) → IsOrdered (xs ++ ys) → IsOrdered xs
ordered_left [] ys h = tt
ordered_left (x ∷ xs) ys h = (all_left (Precedes x) xs ys h.0, ordered_left xs ys h.1)

pub ordered_right : (xs ys : List RowVersion) → IsOrdered (xs ++ ys) → IsOrdered ys
ordered_right [] ys h = h
ordered_right (x ∷ xs) ys h = ordered_right xs ys h.1

pub ordered_across : (xs ys : List RowVersion) → IsOrdered (xs ++ ys) → Each (λ v. Each (Precedes v) ys) xs
ordered_across [] ys h = tt
ordered_across (x ∷ xs) ys h = (all_right (Precedes x) xs ys h.0, ordered_across xs ys h.1)

pub ordered_joined : (xs ys : List RowVersion) → IsOrdered xs → IsOrdered ys → Each (λ v. Each (Precedes v) ys) xs → IsOrdered (xs ++ ys)
ordered_joined [] ys a b h = b
ordered_joined (x ∷ xs) ys a b h = (each_append (Precedes x) xs ys a.0 h.0, ordered_joined xs ys a.1 b h.1)

-- the first version of a block that has one is among all versions
pub first_among : (P : RowVersion → Type 0) (bs : List (List RowVersion)) (m : ℕ) (d : RowVersion) → Each (λ b. 0 < length b) bs → m < length bs → Each P (joined bs) → P (get_or (get_or bs m []) 0 d)
first_among P [] m d f l h = absurd (omega (arith, l))
first_among P ([] ∷ bs) zero d f l h = absurd (omega (arith, f.0))
first_among P ((v ∷ b) ∷ bs) zero d f l h = h.0
first_among P (b ∷ bs) (suc m) d f l h = first_among P bs m d f.1 (omega (arith, l)) (all_right P b (joined bs) h)

pub block_ordered : (bs : List (List RowVersion)) (m : ℕ) → IsOrdered (joined bs) → IsOrdered (get_or bs m [])
block_ordered [] m h = tt
block_ordered (b ∷ bs) zero h = ordered_left b (joined bs) h
block_ordered (b ∷ bs) (suc m) h = block_ordered bs m (ordered_right b (joined bs) h)

-- where a block's first version comes before a row, all versions of the blocks before it do
pub blocks_before : (o : List ℕ) (s : Bool) (bs : List (List RowVersion)) (m : ℕ) (d : RowVersion) → IsOrdered (joined bs) → Each (λ b. 0 < length b) bs → m < length bs
    → comes_before o s (get_or (get_or bs m []) 0 d) ≡ true → Each (λ v. comes_before o s v ≡ true) (joined (take m bs))
blocks_before o s bs zero d r f l t = tt
blocks_before o s [] (suc m) d r f l t = absurd (omega (arith, l))
blocks_before o s (b ∷ bs) (suc m) d r f l t =
    let k : m < length bs = omega (arith, l) in
    let w = get_or (get_or bs m []) 0 d in
    let each : (v : RowVersion) → Each (Precedes v) (joined bs) → comes_before o s v ≡ true =
    λ v h. keeps o s v.row w.row (first_among (Precedes v) bs m d f.1 k h).not_above t in
    each_append (λ v. comes_before o s v ≡ true) b (joined (take m bs))
    (all_then (λ v. Each (Precedes v) (joined bs)) (λ v. comes_before o s v ≡ true) each b (ordered_across b (joined bs) r))
    (blocks_before o s bs m d (ordered_right b (joined bs) r) f.1 k t)

-- where it doesn't, no version of the block and those behind it does
pub blocks_after : (o : List ℕ) (s : Bool) (bs : List (List RowVersion)) (m : ℕ) (d : RowVersion) → IsOrdered (joined bs) → Each (λ b. 0 < length b) bs → m < length bs
    → comes_before o s (get_or (get_or bs m []) 0 d) ≡ false → Each (λ v. comes_before o s v ≡ false) (joined (drop m bs))
blocks_after o s [] m d r f l t = absurd (omega (arith, l))
blocks_after o s ([] ∷ bs) zero d r f l t = absurd (omega (arith, f.0))
blocks_after o s ((v ∷ b) ∷ bs) zero d r f l t =
    (t, all_then (Precedes v) (λ w. comes_before o s w ≡ false) (λ w h. lacks o s v.row w.row h.not_above t) (b ++ joined bs) r.0)
blocks_after o s (b ∷ bs) (suc m) d r f l t = blocks_after o s bs m d (ordered_right b (joined bs) r) f.1 (omega (arith, l)) t

pub joined_drop : (P : RowVersion → Type 0) (m : ℕ) (bs : List (List RowVersion)) → Each P (joined (drop m bs)) → Each P (joined (drop (suc m) bs))
joined_drop P zero [] h = tt
joined_drop P zero (b ∷ bs) h = all_right P b (joined bs) h
joined_drop P (suc m) [] h = tt
joined_drop P (suc m) (b ∷ bs) h = joined_drop P m bs h
