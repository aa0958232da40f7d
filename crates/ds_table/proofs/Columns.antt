-- The versions of a block's columns, where each column changes.
use Rattle.std.proofs.Common.{◌≡◌, ℕ, zero, suc, ◌<◌, ◌≤◌, List, [], ◌∷◌, ◌++◌, length, take, drop, get_or, map, refl, ap, arith}
use Rattle.std.proofs.Math.ListN.{set}
use Rattle.std.specs.List.{insert, remove}
use Rattle.std.specs.Prelude.{true, nat_lt}
use Rattle.std.proofs.lemmas.Bool.Decides.{nat_tests}
use Rattle.std.specs.List.{AllByRecursion as Each}
use Rattle.ds_table.specs.declared.change.Change.TheVariants.{Trim}
use Rattle.ds_table.specs.Changes.{changed}
use Rattle.ds_table.specs.Versions.{RowVersion, ended_at}
use Rattle.ds_table.specs.Blocks.{versions_of}

pub as_many : (rs : List (List ℕ)) (fs ts : List ℕ) → length fs ≡ length rs → length ts ≡ length rs → length (versions_of rs fs ts) ≡ length rs
as_many [] fs ts a b = refl
as_many (r ∷ rs) [] ts a b = absurd (omega (arith, a))
as_many (r ∷ rs) (f ∷ fs) [] a b = absurd (omega (arith, b))
as_many (r ∷ rs) (f ∷ fs) (t ∷ ts) a b = ap suc (as_many rs fs ts (omega (arith, a)) (omega (arith, b)))

pub rows_in_columns : (rs : List (List ℕ)) (fs ts : List ℕ) → length fs ≡ length rs → length ts ≡ length rs → map (λ v. v.row) (versions_of rs fs ts) ≡ rs
rows_in_columns [] fs ts a b = refl
rows_in_columns (r ∷ rs) [] ts a b = absurd (omega (arith, a))
rows_in_columns (r ∷ rs) (f ∷ fs) [] a b = absurd (omega (arith, b))
rows_in_columns (r ∷ rs) (f ∷ fs) (t ∷ ts) a b = ap (λ l. r ∷ l) (rows_in_columns rs fs ts (omega (arith, a)) (omega (arith, b)))

pub version_at : (i : ℕ) (rs : List (List ℕ)) (fs ts : List ℕ) (d : RowVersion) (r₀ : List ℕ) (f₀ t₀ : ℕ) → length fs ≡ length rs → length ts ≡ length rs → i < length rs
    → get_or (versions_of rs fs ts) i d ≡ record { row = get_or rs i r₀; from = get_or fs i f₀; to = get_or ts i t₀ }
version_at i [] fs ts d r₀ f₀ t₀ a b h = absurd (omega (arith, h))
version_at i (r ∷ rs) [] ts d r₀ f₀ t₀ a b h = absurd (omega (arith, a))
version_at i (r ∷ rs) (f ∷ fs) [] d r₀ f₀ t₀ a b h = absurd (omega (arith, b))
version_at zero (r ∷ rs) (f ∷ fs) (t ∷ ts) d r₀ f₀ t₀ a b h = refl
version_at (suc i) (r ∷ rs) (f ∷ fs) (t ∷ ts) d r₀ f₀ t₀ a b h = version_at i rs fs ts d r₀ f₀ t₀ (omega (arith, a)) (omega (arith, b)) (omega (arith, h))

pub after_insert : (i : ℕ) (rs : List (List ℕ)) (fs ts : List ℕ) (r : List ℕ) (f t : ℕ) → length fs ≡ length rs → length ts ≡ length rs → i ≤ length rs
    → versions_of (insert rs i r) (insert fs i f) (insert ts i t) ≡ insert (versions_of rs fs ts) i (record { row = r; from = f; to = t })
after_insert zero rs fs ts r f t a b h = refl
after_insert (suc i) [] fs ts r f t a b h = absurd (omega (arith, h))
after_insert (suc i) (q ∷ rs) [] ts r f t a b h = absurd (omega (arith, a))
after_insert (suc i) (q ∷ rs) (g ∷ fs) [] r f t a b h = absurd (omega (arith, b))
after_insert (suc i) (q ∷ rs) (g ∷ fs) (u ∷ ts) r f t a b h = ap (λ l. record { row = q; from = g; to = u } ∷ l) (after_insert i rs fs ts r f t (omega (arith, a)) (omega (arith, b)) (omega (arith, h)))

pub after_remove : (i : ℕ) (rs : List (List ℕ)) (fs ts : List ℕ) → length fs ≡ length rs → length ts ≡ length rs
    → versions_of (remove rs i) (remove fs i) (remove ts i) ≡ remove (versions_of rs fs ts) i
after_remove i [] fs ts a b = none i
  where
    none : (i : ℕ) → versions_of (remove [] i) (remove fs i) (remove ts i) ≡ remove [] i
    none zero = refl
    none (suc i) = refl
after_remove i (q ∷ rs) [] ts a b = absurd (omega (arith, a))
after_remove i (q ∷ rs) (g ∷ fs) [] a b = absurd (omega (arith, b))
after_remove zero (q ∷ rs) (g ∷ fs) (u ∷ ts) a b = refl
after_remove (suc i) (q ∷ rs) (g ∷ fs) (u ∷ ts) a b = ap (λ l. record { row = q; from = g; to = u } ∷ l) (after_remove i rs fs ts (omega (arith, a)) (omega (arith, b)))

pub after_append : (rs : List (List ℕ)) (fs ts : List ℕ) (rs₂ : List (List ℕ)) (fs₂ ts₂ : List ℕ) → length fs ≡ length rs → length ts ≡ length rs
    → versions_of (rs ++ rs₂) (fs ++ fs₂) (ts ++ ts₂) ≡ versions_of rs fs ts ++ versions_of rs₂ fs₂ ts₂
after_append [] [] [] rs₂ fs₂ ts₂ a b = refl
after_append [] (f ∷ fs) ts rs₂ fs₂ ts₂ a b = absurd (omega (arith, a))
after_append [] [] (t ∷ ts) rs₂ fs₂ ts₂ a b = absurd (omega (arith, b))
after_append (r ∷ rs) [] ts rs₂ fs₂ ts₂ a b = absurd (omega (arith, a))
after_append (r ∷ rs) (f ∷ fs) [] rs₂ fs₂ ts₂ a b = absurd (omega (arith, b))
after_append (r ∷ rs) (f ∷ fs) (t ∷ ts) rs₂ fs₂ ts₂ a b = ap (λ l. record { row = r; from = f; to = t } ∷ l) (after_append rs fs ts rs₂ fs₂ ts₂ (omega (arith, a)) (omega (arith, b)))

pub after_take : (i : ℕ) (rs : List (List ℕ)) (fs ts : List ℕ) → length fs ≡ length rs → length ts ≡ length rs
    → versions_of (take i rs) (take i fs) (take i ts) ≡ take i (versions_of rs fs ts)
after_take zero rs fs ts a b = refl
after_take (suc i) [] fs ts a b = refl
after_take (suc i) (r ∷ rs) [] ts a b = absurd (omega (arith, a))
after_take (suc i) (r ∷ rs) (f ∷ fs) [] a b = absurd (omega (arith, b))
after_take (suc i) (r ∷ rs) (f ∷ fs) (t ∷ ts) a b = ap (λ l. record { row = r; from = f; to = t } ∷ l) (after_take i rs fs ts (omega (arith, a)) (omega (arith, b)))

pub after_drop : (i : ℕ) (rs : List (List ℕ)) (fs ts : List ℕ) → length fs ≡ length rs → length ts ≡ length rs
    → versions_of (drop i rs) (drop i fs) (drop i ts) ≡ drop i (versions_of rs fs ts)
after_drop zero rs fs ts a b = refl
after_drop (suc i) [] fs ts a b = refl
after_drop (suc i) (r ∷ rs) [] ts a b = absurd (omega (arith, a))
after_drop (suc i) (r ∷ rs) (f ∷ fs) [] a b = absurd (omega (arith, b))
after_drop (suc i) (r ∷ rs) (f ∷ fs) (t ∷ ts) a b = after_drop i rs fs ts (omega (arith, a)) (omega (arith, b))

pub after_close : (i : ℕ) (rs : List (List ℕ)) (fs ts : List ℕ) (t : ℕ) (d : RowVersion) → length fs ≡ length rs → length ts ≡ length rs → i < length rs
    → versions_of rs fs (set ts i t) ≡ set (versions_of rs fs ts) i (ended_at t (get_or (versions_of rs fs ts) i d))
after_close i [] fs ts t d a b h = absurd (omega (arith, h))
after_close i (q ∷ rs) [] ts t d a b h = absurd (omega (arith, a))
after_close i (q ∷ rs) (g ∷ fs) [] t d a b h = absurd (omega (arith, b))
after_close zero (q ∷ rs) (g ∷ fs) (u ∷ ts) t d a b h = refl
after_close (suc i) (q ∷ rs) (g ∷ fs) (u ∷ ts) t d a b h = ap (λ l. record { row = q; from = g; to = u } ∷ l) (after_close i rs fs ts t d (omega (arith, a)) (omega (arith, b)) (omega (arith, h)))

-- ---- what holds of each element, where a column changes

-- a bound that is lower holds, too
pub each_lower : (m n : ℕ) → m ≤ n → (xs : List ℕ) → Each (λ x. n ≤ x) xs → Each (λ x. m ≤ x) xs
each_lower m n l [] h = tt
each_lower m n l (x ∷ xs) h = (omega (arith, l, h.0), each_lower m n l xs h.1)

above : (floor to : ℕ) → floor < to → nat_lt floor to ≡ true
above floor to h = grind (arith, nat_tests)

-- a trim changes nothing where no version ends at or before its floor
pub nothing_due : (floor due : ℕ) → floor < due → (rs : List (List ℕ)) (fs ts : List ℕ) → Each (λ to. due ≤ to) ts
    → changed (Trim floor) (versions_of rs fs ts) ≡ versions_of rs fs ts
nothing_due floor due l [] fs ts h = refl
nothing_due floor due l (r ∷ rs) [] ts h = refl
nothing_due floor due l (r ∷ rs) (f ∷ fs) [] h = refl
nothing_due floor due l (r ∷ rs) (f ∷ fs) (t ∷ ts) h =
    rw (above floor t (omega (arith, l, h.0))) (ap (λ l. record { row = r; from = f; to = t } ∷ l) (nothing_due floor due l rs fs ts h.1))
