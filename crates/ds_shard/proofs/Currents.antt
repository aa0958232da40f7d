-- The versions that a write leaves open are the entities that it leaves, and no other stamp sees the write.
use Rattle.std.proofs.Common.{◌≡◌, ℕ, ◌<◌, ◌≤◌, Bool, true, false, cond, List, [], ◌∷◌, Option, Some, None, refl, sym, ap, ◌∙◌, arith}
use Rattle.std.specs.Prelude.{⊤, not, ◌&&◌, nat_le, nat_lt}
use Rattle.std.specs.Cmp.{IsTotalOrder, on_total, upto}
use Rattle.std.specs.declared.cmp.Ordering.{Ordering}
use Rattle.std.specs.declared.cmp.Ordering.TheVariants.{Less, Equal, Greater}
use Rattle.std.specs.Ordering.{is_eq, is_gt, ordering_reverse}
use Rattle.std.proofs.lemmas.Bool.Decides.{nat_tests}
use Rattle.ds_base.specs.Keys.{KeyParts}
use Rattle.ds_base.specs.KeyOrder.{key_cmp, same_key}
use Rattle.ds_base.specs.KeyOrderLaws.{key_cmp-total}
use Rattle.ds_entity.specs.Entities.{EntityParts}
use Rattle.ds_base.specs.Sorting.{insert_by}
use Rattle.ds_base.specs.SortingLaws.{NoneBefore, Ascends, insert_by-front, sorted_by-filter, sorted_by-push}
use Rattle.ds_log.specs.declared.Write.{Write}
use Rattle.ds_log.specs.declared.Write.TheVariants.{Put, Delete}
use Rattle.ds_log.specs.Logs.{key_of}
use Rattle.ds_log.specs.After.{apply_write, without}
use Rattle.ds_rows.specs.Versions.{Version, is_before, is_seen, entities_at}
use Rattle.ds_shard.specs.Histories.{EndsWithin, is_open, is_current, ended, with_version, written}
use Rattle.std.specs.List.{AllByRecursion as Each}
use Rattle.ds_shard.specs.Contents.{IsGiven, version_cmp}
use Rattle.ds_entity.specs.EntityOrder.{entity_cmp, sorted_by_key}

-- the entities of the open versions
abbrev pub currents : List Version → List EntityParts
currents [] = []
currents (v ∷ vs) = cond (is_open v.until) (v.entity ∷ currents vs) (currents vs)

-- no version is the current one of the key
abbrev pub NoCurrent : KeyParts → List Version → Type 0
NoCurrent k [] = ⊤
NoCurrent k (v ∷ vs) = (is_current k v ≡ false) × NoCurrent k vs

pub and_false : (a b : Bool) → b ≡ false → (a && b) ≡ false
and_false true b h = h
and_false false b h = refl

not_false : true ≡ false → ⊥
not_false e = cc

-- ---- what is seen

before_given : (n : ℕ) (u : Option ℕ) → EndsWithin n u → is_before u n ≡ is_open u
before_given n None h = refl
before_given n (Some u) h = by (nat_lt n u) refl where
  by : (b : Bool) → b ≡ nat_lt n u → nat_lt n u ≡ false
  by true e = let l : n < u = grind (arith, nat_tests) in absurd (omega (arith, l, h))
  by false e = sym e

pub le_true : (m n : ℕ) → m ≤ n → nat_le m n ≡ true
le_true m n h = by (nat_le m n) refl where
  by : (b : Bool) → b ≡ nat_le m n → nat_le m n ≡ true
  by true e = sym e
  by false e = let l : n < m = grind (arith, nat_tests) in absurd (omega (arith, l, h))

pub le_false : (m n : ℕ) → n < m → nat_le m n ≡ false
le_false m n h = by (nat_le m n) refl where
  by : (b : Bool) → b ≡ nat_le m n → nat_le m n ≡ false
  by true e = let l : m ≤ n = grind (arith, nat_tests) in absurd (omega (arith, l, h))
  by false e = sym e

pub lt_true : (m n : ℕ) → m < n → nat_lt m n ≡ true
lt_true m n h = by (nat_lt m n) refl where
  by : (b : Bool) → b ≡ nat_lt m n → nat_lt m n ≡ true
  by true e = sym e
  by false e = let l : n ≤ m = grind (arith, nat_tests) in absurd (omega (arith, l, h))

-- a version whose stamps aren't above the stamp is seen there where it is open
seen_given : (n : ℕ) (v : Version) → IsGiven n v → is_seen n v ≡ is_open v.until
seen_given n v h = rw (le_true v.from n h.begins) (before_given n v.until h.ends)

pub seen_currents : (n : ℕ) (vs : List Version) → Each (IsGiven n) vs → entities_at n vs ≡ currents vs
seen_currents n [] h = refl
seen_currents n (v ∷ vs) h = by (is_open v.until) refl (seen_currents n vs h.1) where
  by : (b : Bool) → is_open v.until ≡ b → entities_at n vs ≡ currents vs → entities_at n (v ∷ vs) ≡ currents (v ∷ vs)
  by true e i = rw (seen_given n v h.0 ∙ e, e) (ap (λ es. v.entity ∷ es) i)
  by false e i = rw (seen_given n v h.0 ∙ e, e) i

-- ---- an end

pub currents-ended : (n : ℕ) (k : KeyParts) (vs : List Version) → currents (ended n k vs) ≡ without k (currents vs)
currents-ended n k [] = refl
currents-ended n k (v ∷ vs) = by (same_key v.entity.key k) (is_open v.until) refl refl (currents-ended n k vs) where
  by : (b c : Bool) → same_key v.entity.key k ≡ b → is_open v.until ≡ c → currents (ended n k vs) ≡ without k (currents vs)
      → currents (ended n k (v ∷ vs)) ≡ without k (currents (v ∷ vs))
  by true true e f i = rw (e, f, e) i
  by true false e f i = rw (e, f, f) i
  by false true e f i = rw (e, f, e) (ap (λ es. v.entity ∷ es) i)
  by false false e f i = rw (e, f) i

none-ended : (n : ℕ) (k : KeyParts) (vs : List Version) → NoCurrent k (ended n k vs)
none-ended n k [] = tt
none-ended n k (v ∷ vs) = by (is_current k v) refl (none-ended n k vs) where
  by : (b : Bool) → is_current k v ≡ b → NoCurrent k (ended n k vs) → NoCurrent k (ended n k (v ∷ vs))
  by true e i = rw e (and_false (same_key v.entity.key k) false refl, i)
  by false e i = rw e (e, i)

-- ---- a beginning

total : IsTotalOrder version_cmp
total = on_total (λ (v : Version). v.entity.key) key_cmp-total

entities_total : IsTotalOrder entity_cmp
entities_total = on_total (λ (e : EntityParts). e.key) key_cmp-total

none_before : (e : EntityParts) (w : Version) (ws : List Version) → is_gt (key_cmp e.key w.entity.key) ≡ false → NoneBefore version_cmp w ws
    → NoneBefore entity_cmp e (currents ws)
none_before e w [] below rest = tt
none_before e w (x ∷ xs) below rest = by (is_open x.until) refl (none_before e w xs below rest.1) where
  by : (b : Bool) → is_open x.until ≡ b → NoneBefore entity_cmp e (currents xs) → NoneBefore entity_cmp e (currents (x ∷ xs))
  by true f i = rw f (upto key_cmp-total e.key w.entity.key x.entity.key below rest.0, i)
  by false f i = rw f i

same_turned : (x y : KeyParts) → key_cmp x y ≡ Equal → same_key y x ≡ true
same_turned x y is = ap is_eq (key_cmp-total.antisymm y x ∙ ap ordering_reverse is)

pub currents-with : (v : Version) (vs : List Version) → is_open v.until ≡ true → Ascends version_cmp vs → NoCurrent v.entity.key vs
    → currents (with_version v vs) ≡ insert_by entity_cmp (currents vs) v.entity
currents-with v [] o a none = rw o refl
currents-with v (w ∷ ws) o a none = by (key_cmp v.entity.key w.entity.key) (is_open w.until) refl refl (currents-with v ws o a.1 none.1) where
  by : (r : Ordering) (b : Bool) → key_cmp v.entity.key w.entity.key ≡ r → is_open w.until ≡ b
      → currents (with_version v ws) ≡ insert_by entity_cmp (currents ws) v.entity
      → currents (with_version v (w ∷ ws)) ≡ insert_by entity_cmp (currents (w ∷ ws)) v.entity
  by Less true e f i = rw (e, o, f, e) refl
  by Less false e f i =
      rw (e, o, f)
      (sym (insert_by-front entities_total (currents ws) v.entity (none_before v.entity w ws (ap is_gt e) a.0)))
  by Equal true e f i = absurd (not_false (sym (rw (same_turned v.entity.key w.entity.key e) f) ∙ none.0))
  by Equal false e f i = rw (e, f) i
  by Greater true e f i = rw (e, f, e) (ap (λ es. w.entity ∷ es) i)
  by Greater false e f i = rw (e, f) i

-- what a write leaves open is what it leaves
pub currents-written : (n : ℕ) (vs : List Version) (w : Write) (es : List EntityParts) → Ascends version_cmp (ended n (key_of w) vs)
    → currents vs ≡ sorted_by_key es → currents (written n vs w) ≡ sorted_by_key (apply_write es w)
currents-written n vs (Delete k) es a is = currents-ended n k vs ∙ ap (without k) is ∙ sym (sorted_by-filter entities_total (λ e. not (same_key e.key k)) es)
currents-written n vs (Put e) es a is =
    currents-with (record { entity = e; from = n; until = None }) (ended n e.key vs) refl a (none-ended n e.key vs)
    ∙ ap (λ fs. insert_by entity_cmp fs e)
    (currents-ended n e.key vs ∙ ap (without e.key) is ∙ sym (sorted_by-filter entities_total (λ x. not (same_key x.key e.key)) es))
    ∙ sym (sorted_by-push entity_cmp (without e.key es) e)
