-- Writes and a rising floor keep the order of versions, and change nothing that earlier stamps of the window see.
use Rattle.std.proofs.Common.{◌≡◌, ℕ, ◌<◌, ◌≤◌, Bool, true, false, cond, List, [], ◌∷◌, Option, Some, None, refl, sym, ap, ◌∙◌, arith}
use Rattle.std.specs.Prelude.{◌&&◌, nat_le, nat_lt, filter}
use Rattle.std.specs.Cmp.{upto}
use Rattle.std.specs.declared.cmp.Ordering.{Ordering}
use Rattle.std.specs.declared.cmp.Ordering.TheVariants.{Less, Equal, Greater}
use Rattle.std.specs.Ordering.{is_gt, is_lt, ordering_reverse}
use Rattle.std.proofs.lemmas.Bool.Decides.{nat_tests}
use Rattle.ds_base.specs.Keys.{KeyParts}
use Rattle.ds_base.specs.KeyOrder.{key_cmp}
use Rattle.ds_base.specs.KeyOrderLaws.{key_cmp-total}
use Rattle.ds_base.specs.SortingLaws.{NoneBefore, Ascends}
use Rattle.ds_log.specs.declared.Write.{Write}
use Rattle.ds_log.specs.declared.Write.TheVariants.{Put, Delete}
use Rattle.ds_rows.specs.Versions.{Version, is_before, is_seen, entities_at}
use Rattle.ds_shard.specs.Histories.{EndsWithin, is_open, is_current, ended, with_version, written, outlives, trimmed}
use Rattle.std.specs.List.{AllByRecursion as Each}
use Rattle.ds_shard.specs.Contents.{IsGiven, version_cmp}
use Rattle.ds_shard.proofs.Currents.{and_false, le_false, lt_true}

-- ---- by key

none-ended : (n : ℕ) (k : KeyParts) (x : Version) (vs : List Version) → NoneBefore version_cmp x vs → NoneBefore version_cmp x (ended n k vs)
none-ended n k x [] h = tt
none-ended n k x (v ∷ vs) h = by (is_current k v) refl (none-ended n k x vs h.1) where
  by : (b : Bool) → is_current k v ≡ b → NoneBefore version_cmp x (ended n k vs) → NoneBefore version_cmp x (ended n k (v ∷ vs))
  by true e i = rw e (h.0, i)
  by false e i = rw e (h.0, i)

pub Ascends-ended : (n : ℕ) (k : KeyParts) (vs : List Version) → Ascends version_cmp vs → Ascends version_cmp (ended n k vs)
Ascends-ended n k [] a = tt
Ascends-ended n k (v ∷ vs) a = by (is_current k v) refl (Ascends-ended n k vs a.1) where
  by : (b : Bool) → is_current k v ≡ b → Ascends version_cmp (ended n k vs) → Ascends version_cmp (ended n k (v ∷ vs))
  by true e i = rw e (none-ended n k v vs a.0, i)
  by false e i = rw e (none-ended n k v vs a.0, i)

lt_not_gt : (r : Ordering) → is_lt r ≡ true → is_gt r ≡ false
lt_not_gt Less e = refl
lt_not_gt Equal e = cc
lt_not_gt Greater e = cc

turned : (r : Ordering) → is_lt r ≡ false → is_gt (ordering_reverse r) ≡ false
turned Less e = cc
turned Equal e = refl
turned Greater e = refl

none-earlier : (x y : Version) (vs : List Version) → is_gt (version_cmp x y) ≡ false → NoneBefore version_cmp y vs → NoneBefore version_cmp x vs
none-earlier x y [] below h = tt
none-earlier x y (v ∷ vs) below h = (upto key_cmp-total x.entity.key y.entity.key v.entity.key below h.0, none-earlier x y vs below h.1)

none-with : (x v : Version) (vs : List Version) → is_gt (version_cmp x v) ≡ false → NoneBefore version_cmp x vs → NoneBefore version_cmp x (with_version v vs)
none-with x v [] below h = (below, tt)
none-with x v (w ∷ ws) below h = by (is_lt (key_cmp v.entity.key w.entity.key)) refl (none-with x v ws below h.1) where
  by : (b : Bool) → is_lt (key_cmp v.entity.key w.entity.key) ≡ b → NoneBefore version_cmp x (with_version v ws)
      → NoneBefore version_cmp x (with_version v (w ∷ ws))
  by true e i = rw e (below, h)
  by false e i = rw e (h.0, i)

pub Ascends-with : (v : Version) (vs : List Version) → Ascends version_cmp vs → Ascends version_cmp (with_version v vs)
Ascends-with v [] a = (tt, tt)
Ascends-with v (w ∷ ws) a = by (is_lt (key_cmp v.entity.key w.entity.key)) refl (Ascends-with v ws a.1) where
  by : (b : Bool) → is_lt (key_cmp v.entity.key w.entity.key) ≡ b → Ascends version_cmp (with_version v ws)
      → Ascends version_cmp (with_version v (w ∷ ws))
  by true e i =
      let below : is_gt (version_cmp v w) ≡ false = lt_not_gt (key_cmp v.entity.key w.entity.key) e in
      rw e ((below, none-earlier v w ws below a.0), a)
  by false e i =
      let below : is_gt (version_cmp w v) ≡ false =
      ap is_gt (key_cmp-total.antisymm w.entity.key v.entity.key) ∙ turned (key_cmp v.entity.key w.entity.key) e in
      rw e (none-with w v ws below a.0, i)

none-filter : (p : Version → Bool) (x : Version) (vs : List Version) → NoneBefore version_cmp x vs → NoneBefore version_cmp x (filter p vs)
none-filter p x [] h = tt
none-filter p x (v ∷ vs) h = by (p v) (none-filter p x vs h.1) where
  by : (b : Bool) → NoneBefore version_cmp x (filter p vs) → NoneBefore version_cmp x (cond b (v ∷ filter p vs) (filter p vs))
  by true i = (h.0, i)
  by false i = i

pub Ascends-filter : (p : Version → Bool) (vs : List Version) → Ascends version_cmp vs → Ascends version_cmp (filter p vs)
Ascends-filter p [] a = tt
Ascends-filter p (v ∷ vs) a = by (p v) (Ascends-filter p vs a.1) where
  by : (b : Bool) → Ascends version_cmp (filter p vs) → Ascends version_cmp (cond b (v ∷ filter p vs) (filter p vs))
  by true i = (none-filter p v vs a.0, i)
  by false i = i

-- ---- stamps

later : (m n : ℕ) (u : Option ℕ) → m ≤ n → EndsWithin m u → EndsWithin n u
later m n None h e = tt
later m n (Some u) h e = omega (arith, h, e)

pub given-later : (m n : ℕ) (vs : List Version) → m ≤ n → Each (IsGiven m) vs → Each (IsGiven n) vs
given-later m n [] h g = tt
given-later m n (v ∷ vs) h g =
    (record { begins = let b = g.0.begins in omega (arith, h, b); ends = later m n v.until h g.0.ends }, given-later m n vs h g.1)

pub given-ended : (n : ℕ) (k : KeyParts) (vs : List Version) → Each (IsGiven n) vs → Each (IsGiven n) (ended n k vs)
given-ended n k [] g = tt
given-ended n k (v ∷ vs) g = by (is_current k v) (given-ended n k vs g.1) where
  by : (b : Bool) → Each (IsGiven n) (ended n k vs)
      → Each (IsGiven n) (cond b (record { entity = v.entity; from = v.from; until = Some n }) v ∷ ended n k vs)
  by true i = (record { begins = g.0.begins; ends = omega arith }, i)
  by false i = (g.0, i)

pub given-with : (n : ℕ) (v : Version) (vs : List Version) → IsGiven n v → Each (IsGiven n) vs → Each (IsGiven n) (with_version v vs)
given-with n v [] h g = (h, tt)
given-with n v (w ∷ ws) h g = by (is_lt (key_cmp v.entity.key w.entity.key)) (given-with n v ws h g.1) where
  by : (b : Bool) → Each (IsGiven n) (with_version v ws) → Each (IsGiven n) (cond b (v ∷ w ∷ ws) (w ∷ with_version v ws))
  by true i = (h, g)
  by false i = (g.0, i)

pub given-filter : (n : ℕ) (p : Version → Bool) (vs : List Version) → Each (IsGiven n) vs → Each (IsGiven n) (filter p vs)
given-filter n p [] g = tt
given-filter n p (v ∷ vs) g = by (p v) (given-filter n p vs g.1) where
  by : (b : Bool) → Each (IsGiven n) (filter p vs) → Each (IsGiven n) (cond b (v ∷ filter p vs) (filter p vs))
  by true i = (g.0, i)
  by false i = i

-- ---- one write

pub Ascends-written : (n : ℕ) (vs : List Version) (w : Write) → Ascends version_cmp vs → Ascends version_cmp (written n vs w)
Ascends-written n vs (Put e) a = Ascends-with (record { entity = e; from = n; until = None }) (ended n e.key vs) (Ascends-ended n e.key vs a)
Ascends-written n vs (Delete k) a = Ascends-ended n k vs a

pub given-written : (n : ℕ) (vs : List Version) (w : Write) → Each (IsGiven n) vs → Each (IsGiven n) (written n vs w)
given-written n vs (Put e) g =
    given-with n (record { entity = e; from = n; until = None }) (ended n e.key vs) (record { begins = omega arith; ends = tt })
    (given-ended n e.key vs g)
given-written n vs (Delete k) g = given-ended n k vs g

-- ---- other stamps

pub open-before : (u : Option ℕ) (stamp : ℕ) → is_open u ≡ true → is_before u stamp ≡ true
open-before None stamp h = refl
open-before (Some u) stamp h = cc

pub current-open : (a b : Bool) → (a && b) ≡ true → b ≡ true
current-open true b h = h
current-open false b h = cc

seen-ended : (stamp n : ℕ) → stamp < n → (k : KeyParts) (vs : List Version) → entities_at stamp (ended n k vs) ≡ entities_at stamp vs
seen-ended stamp n h k [] = refl
seen-ended stamp n h k (v ∷ vs) = by (is_current k v) refl (is_seen stamp v) refl (seen-ended stamp n h k vs) where
  seen_too : is_current k v ≡ true → (b : Bool) → is_seen stamp v ≡ b
      → (nat_le v.from stamp && nat_lt stamp n) ≡ b
  seen_too e b f =
      ap (λ t. nat_le v.from stamp && t)
      (lt_true stamp n h ∙ sym (open-before v.until stamp (current-open _ (is_open v.until) e)))
      ∙ f

  by : (b : Bool) → is_current k v ≡ b → (s : Bool) → is_seen stamp v ≡ s → entities_at stamp (ended n k vs) ≡ entities_at stamp vs
      → entities_at stamp (ended n k (v ∷ vs)) ≡ entities_at stamp (v ∷ vs)
  by true e true f i = rw (e, seen_too e true f, f) (ap (λ es. v.entity ∷ es) i)
  by true e false f i = rw (e, seen_too e false f, f) i
  by false e true f i = rw (e, f) (ap (λ es. v.entity ∷ es) i)
  by false e false f i = rw (e, f) i

seen-with : (stamp : ℕ) (v : Version) (vs : List Version) → stamp < v.from → entities_at stamp (with_version v vs) ≡ entities_at stamp vs
seen-with stamp v [] h = rw (le_false v.from stamp h) refl
seen-with stamp v (w ∷ ws) h = by (is_lt (key_cmp v.entity.key w.entity.key)) refl (is_seen stamp w) refl (seen-with stamp v ws h) where
  by : (b : Bool) → is_lt (key_cmp v.entity.key w.entity.key) ≡ b → (s : Bool) → is_seen stamp w ≡ s
      → entities_at stamp (with_version v ws) ≡ entities_at stamp ws → entities_at stamp (with_version v (w ∷ ws)) ≡ entities_at stamp (w ∷ ws)
  by true e s f i = rw (e, le_false v.from stamp h) refl
  by false e true f i = rw (e, f) (ap (λ es. w.entity ∷ es) i)
  by false e false f i = rw (e, f) i

-- earlier stamps don't see a write
pub seen-written : (stamp n : ℕ) → stamp < n → (vs : List Version) (w : Write) → entities_at stamp (written n vs w) ≡ entities_at stamp vs
seen-written stamp n h vs (Put e) =
    seen-with stamp (record { entity = e; from = n; until = None }) (ended n e.key vs) h ∙ seen-ended stamp n h e.key vs
seen-written stamp n h vs (Delete k) = seen-ended stamp n h k vs

pub gone : (u : Option ℕ) (floor stamp : ℕ) → floor ≤ stamp → is_before u floor ≡ false → is_before u stamp ≡ false
gone None floor stamp h e = e
gone (Some u) floor stamp h e = by (nat_lt stamp u) refl where
  by : (b : Bool) → b ≡ nat_lt stamp u → nat_lt stamp u ≡ false
  by true f = let l : stamp < u = grind (arith, nat_tests) in let m : u ≤ floor = grind (arith, nat_tests) in absurd (omega (arith, h, l, m))
  by false f = sym f

-- stamps that aren't below the floor don't see what goes
pub seen-trimmed : (floor stamp : ℕ) → floor ≤ stamp → (vs : List Version) → entities_at stamp (trimmed floor vs) ≡ entities_at stamp vs
seen-trimmed floor stamp h [] = refl
seen-trimmed floor stamp h (v ∷ vs) = by (outlives floor v) refl (is_seen stamp v) refl (seen-trimmed floor stamp h vs) where
  by : (b : Bool) → outlives floor v ≡ b → (s : Bool) → is_seen stamp v ≡ s → entities_at stamp (trimmed floor vs) ≡ entities_at stamp vs
      → entities_at stamp (trimmed floor (v ∷ vs)) ≡ entities_at stamp (v ∷ vs)
  by true e true f i = rw (e, f) (ap (λ es. v.entity ∷ es) i)
  by true e false f i = rw (e, f) i
  by false e s f i = rw (e, and_false (nat_le v.from stamp) (is_before v.until stamp) (gone v.until floor stamp h e)) i

pub trimmed-twice : (floor : ℕ) (vs : List Version) → trimmed floor (trimmed floor vs) ≡ trimmed floor vs
trimmed-twice floor [] = refl
trimmed-twice floor (v ∷ vs) = by (outlives floor v) refl (trimmed-twice floor vs) where
  by : (b : Bool) → outlives floor v ≡ b → trimmed floor (trimmed floor vs) ≡ trimmed floor vs
      → trimmed floor (trimmed floor (v ∷ vs)) ≡ trimmed floor (v ∷ vs)
  by true e i = rw (e, e) (ap (λ ws. v ∷ ws) i)
  by false e i = rw e i
