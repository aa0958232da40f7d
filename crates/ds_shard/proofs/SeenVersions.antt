-- The version that is seen at a stamp is the last one that began by it, unless that one has ended.
use Rattle.std.proofs.Common.{◌≡◌, ℕ, zero, suc, ◌-◌, ◌<◌, ◌≤◌, Bool, true, false, cond, List, [], ◌∷◌, length, map, get_or, Option, Some}
use Rattle.std.proofs.Common.{None, refl, sym, ap, ◌∙◌, subst, arith}
use Rattle.std.specs.Prelude.{find, option_map, nat_le, nat_lt}
use Rattle.std.specs.List.Sorted.{IsPartitionPoint, IsPartitionedBy}
use Rattle.std.proofs.lemmas.Bool.Decides.{nat_tests}
use Rattle.ds_rows.specs.Versions.{Version, is_before, is_seen}
use Rattle.ds_shard.specs.declared.version_list.Kept.{Kept}
use Rattle.ds_shard.specs.Histories.{EndsBy, Precedes, IsHistory, version_of}
use Rattle.std.specs.List.{AllByRecursion as Each}
use Rattle.ds_shard.proofs.Currents.{le_true, and_false}

-- ---- the versions are parted

precedes_of : (v : Kept) (xs : List Kept) (m : ℕ) (d : Kept) → m < length xs → Each (Precedes (version_of v)) (map version_of xs)
    → Precedes (version_of v) (version_of (get_or xs m d))
precedes_of v [] m d l h = absurd (omega (arith, l))
precedes_of v (x ∷ xs) zero d l h = h.0
precedes_of v (x ∷ xs) (suc m) d l h = precedes_of v xs m d (omega (arith, l)) h.1

le_down : (m n s : ℕ) → m ≤ n → nat_le n s ≡ true → nat_le m s ≡ true
le_down m n s l e = let t : n ≤ s = grind (arith, nat_tests) in le_true m s (omega (arith, t, l))

pub are_parted : (stamp : ℕ) (xs : List Kept) → IsHistory (map version_of xs) → IsPartitionedBy (λ (k : Kept). nat_le k.from stamp) xs
are_parted stamp [] h i j d l u e = absurd (omega (arith, u))
are_parted stamp (x ∷ xs) h zero zero d l u e = e
are_parted stamp (x ∷ xs) h zero (suc j) d l u e =
    le_down x.from (get_or xs j d).from stamp (precedes_of x xs j d (omega (arith, u)) h.1).rises e
are_parted stamp (x ∷ xs) h (suc i) zero d l u e = absurd (omega (arith, l))
are_parted stamp (x ∷ xs) h (suc i) (suc j) d l u e = are_parted stamp xs h.2 i j d (omega (arith, l)) (omega (arith, u)) e

-- ---- the last one that began

abbrev Begun : ℕ → List Kept → ℕ → Type 0
Begun stamp = IsPartitionPoint (λ (k : Kept). nat_le k.from stamp ≡ true) (λ k. nat_le k.from stamp ≡ false)

ended : (u : Option ℕ) (n stamp : ℕ) → EndsBy n u → n ≤ stamp → is_before u stamp ≡ false
ended None n stamp h l = absurd h
ended (Some u) n stamp h l = by (nat_lt stamp u) refl where
  by : (b : Bool) → b ≡ nat_lt stamp u → nat_lt stamp u ≡ false
  by true e = let t : stamp < u = grind (arith, nat_tests) in absurd (omega (arith, t, h, l))
  by false e = sym e

none_seen : (stamp : ℕ) (xs : List Kept) → Begun stamp xs 0 → find (is_seen stamp) (map version_of xs) ≡ None
none_seen stamp [] h = refl
none_seen stamp (x ∷ xs) h =
    let none : nat_le x.from stamp ≡ false = h.1 0 x (omega arith) (omega arith) in
    rw none (none_seen stamp xs (λ k d l u. absurd (omega (arith, u)), λ k d l u. h.1 (suc k) d (omega arith) (omega (arith, u))))

behind : (stamp : ℕ) (x : Kept) (xs : List Kept) (n : ℕ) → Begun stamp (x ∷ xs) (suc n) → Begun stamp xs n
behind stamp x xs n h =
    (λ k d l u. h.0 (suc k) d (omega arith) (omega (arith, u)), λ k d l u. h.1 (suc k) d (omega (arith, l)) (omega (arith, u)))

last_seen : (stamp : ℕ) (xs : List Kept) (n : ℕ) (k : Kept) → Begun stamp xs (suc n) → suc n ≤ length xs → k ≡ get_or xs n k
    → IsHistory (map version_of xs)
    → cond (is_before k.until stamp) (Some k.entity) None
    ≡ option_map (λ (v : Version). v.entity) (find (is_seen stamp) (map version_of xs))
last_seen stamp [] n k b l is h = absurd (omega (arith, l))
last_seen stamp (x ∷ xs) zero k b l is h =
    ap (λ (y : Kept). cond (is_before y.until stamp) (Some y.entity) None) is ∙ by (is_before x.until stamp) refl where
      by : (c : Bool) → is_before x.until stamp ≡ c
          → cond (is_before x.until stamp) (Some x.entity) None
          ≡ option_map (λ (v : Version). v.entity) (find (is_seen stamp) (map version_of (x ∷ xs)))
      by true e = let t : nat_le x.from stamp ≡ true = b.0 0 x (omega arith) (omega arith) in rw (e, t) refl
      by false e =
          let t : nat_le x.from stamp ≡ true = b.0 0 x (omega arith) (omega arith) in
          rw (e, t, none_seen stamp xs (behind stamp x xs 0 b)) refl
last_seen stamp (x ∷ []) (suc n) k b l is h = absurd (omega (arith, l))
last_seen stamp (x ∷ y ∷ ys) (suc n) k b l is h =
    let t : nat_le y.from stamp ≡ true = b.0 1 y (omega arith) (omega arith) in
    let f : y.from ≤ stamp = grind (arith, nat_tests) in
    let e : is_before x.until stamp ≡ false = ended x.until y.from stamp h.1.0.ends f in
    rw (and_false (nat_le x.from stamp) (is_before x.until stamp) e)
    (last_seen stamp (y ∷ ys) n k (behind stamp x (y ∷ ys) (suc n) b) (omega (arith, l)) is h.2)

module _ (stamp n : ℕ) (xs : List Kept) (vs : List Version) (b : Begun stamp xs n) (view : map version_of xs ≡ vs) where
  pub nothing_seen : n ≡ 0 → None ≡ option_map (λ (v : Version). v.entity) (find (is_seen stamp) vs)
  nothing_seen z =
      sym (ap (λ ws. option_map (λ (v : Version). v.entity) (find (is_seen stamp) ws)) (sym view)
      ∙ ap (option_map (λ (v : Version). v.entity)) (none_seen stamp xs (subst (Begun stamp xs) z b)))

  pub seen_is : (k : Kept) → 0 < n → n ≤ length xs → k ≡ get_or xs (n - 1) k → IsHistory (map version_of xs)
      → cond (is_before k.until stamp) (Some k.entity) None ≡ option_map (λ (v : Version). v.entity) (find (is_seen stamp) vs)
  seen_is k p l is h =
      let s : n ≡ suc (n - 1) = omega (arith, p) in
      last_seen stamp xs (n - 1) k (subst (Begun stamp xs) s b) (omega (arith, p, l)) is h
      ∙ ap (λ ws. option_map (λ (v : Version). v.entity) (find (is_seen stamp) ws)) view
