-- Two rows compare as what stands behind the bytes with which both begin.
use Rattle.std.proofs.Common.{◌≡◌, ◌≢◌, ℕ, zero, suc, ◌<◌, ◌≤◌, true, false, List, [], ◌∷◌, length, take, drop, get_or, refl, ap, sym, ◌∙◌}
use Rattle.std.proofs.Common.{arith}
use Rattle.std.specs.Prelude.{nat_lt}
use Rattle.std.proofs.lemmas.Bool.Decides.{nat_tests}
use Rattle.std.proofs.lemmas.List.{drop_all}
use Rattle.std.specs.declared.cmp.Ordering.{Ordering}
use Rattle.std.specs.declared.cmp.Ordering.TheVariants.{Less, Equal, Greater}
use Rattle.std.specs.Ordering.{is_lt, nat_cmp, ordering_then}
use Rattle.std.specs.Cmp.Lexicographic.{nat_list_cmp_total}
use Rattle.std.proofs.lemmas.Cmp.{tied_itself, ranked}
use Rattle.ds_base.specs.KeyOrder.{bytes_cmp}
use Rattle.ds_table.specs.Versions.{is_below}
use Rattle.ds_table.proofs.Heads.{parts_cmp}

behind : (s : ℕ) (x y : List ℕ) → take s x ≡ take s y → bytes_cmp x y ≡ bytes_cmp (drop s x) (drop s y)
behind s x y e =
    let p : bytes_cmp (take s x) (take s y) ≡ Equal = rw e (tied_itself nat_list_cmp_total (take s y)) in
    parts_cmp s x y ∙ rw p refl

not_below_nothing : (x : List ℕ) → is_below x [] ≡ false
not_below_nothing [] = refl
not_below_nothing (b ∷ x) = refl

at_place : (s : ℕ) (x : List ℕ) → s < length x → drop s x ≡ get_or x s 0 ∷ drop (suc s) x
at_place s [] l = absurd (omega (arith, l))
at_place zero (b ∷ x) l = refl
at_place (suc s) (b ∷ x) l = at_place s x (omega (arith, l))

-- a row that the other begins isn't below it
pub not_below_start : (s : ℕ) (x y : List ℕ) → take s x ≡ take s y → length y ≤ s → is_below x y ≡ false
not_below_start s x y e l = ap is_lt (behind s x y e ∙ ap (bytes_cmp (drop s x)) (drop_all s y l)) ∙ not_below_nothing (drop s x)

-- a row that begins a longer one is below it
pub below_longer : (s : ℕ) (x y : List ℕ) → take s x ≡ take s y → length x ≤ s → s < length y → is_below x y ≡ true
below_longer s x y e l k =
    let r : is_below x y ≡ is_below (drop s x) (drop s y) = ap is_lt (behind s x y e) in
    let q : is_below (drop s x) (drop s y) ≡ true = rw (drop_all s x l, at_place s y k) refl in
    r ∙ q

lower : (m n : ℕ) → m < n → nat_lt m n ≡ true
lower m n l = grind (arith, nat_tests)

higher : (m n : ℕ) → n < m → nat_lt m n ≡ false
higher m n l = grind (arith, nat_tests)

-- else the first bytes that differ decide
pub bytes_decide : (s : ℕ) (x y : List ℕ) → take s x ≡ take s y → s < length x → s < length y → get_or x s 0 ≢ get_or y s 0
    → nat_lt (get_or x s 0) (get_or y s 0) ≡ is_below x y
bytes_decide s x y e l k d =
    let b = get_or x s 0 in
    let c = get_or y s 0 in
    let r : bytes_cmp x y ≡ ordering_then (nat_cmp b c) (bytes_cmp (drop (suc s) x) (drop (suc s) y)) = behind s x y e ∙ rw (at_place s x l, at_place s y k) refl in
    by b c d (nat_cmp b c) refl (bytes_cmp (drop (suc s) x) (drop (suc s) y)) ∙ sym (ap is_lt r)
  where
    by : (b c : ℕ) → b ≢ c → (o : Ordering) → o ≡ nat_cmp b c → (q : Ordering) → nat_lt b c ≡ is_lt (ordering_then (nat_cmp b c) q)
    by b c d Less e q = let h = ranked b c Less e in rw (← e) (lower b c (omega (arith, h)))
    by b c d Equal e q = absurd (d (ranked b c Equal e))
    by b c d Greater e q = let h = ranked b c Greater e in rw (← e) (higher b c (omega (arith, h)))
