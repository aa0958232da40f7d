-- The versions of one key among all: at most one is open, and the order of keys and stamps is kept by each write.
use Rattle.std.proofs.Common.{◌≡◌, ℕ, Bool, true, false, cond, List, [], ◌∷◌, Option, Some, None, refl, sym, ap, ◌∙◌}
use Rattle.std.specs.Prelude.{◌&&◌, filter, find, option_map}
use Rattle.std.specs.Cmp.{alike_right}
use Rattle.std.specs.declared.cmp.Ordering.{Ordering}
use Rattle.std.specs.declared.cmp.Ordering.TheVariants.{Less, Equal, Greater}
use Rattle.std.specs.Ordering.{is_eq, is_gt, is_lt}
use Rattle.ds_base.specs.Keys.{KeyParts}
use Rattle.ds_base.specs.KeyOrder.{key_cmp, same_key}
use Rattle.ds_base.specs.KeyOrderLaws.{key_cmp-total, same_key-decides}
use Rattle.ds_entity.specs.Entities.{EntityParts}
use Rattle.ds_base.specs.SortingLaws.{NoneBefore, Ascends}
use Rattle.ds_rows.specs.Versions.{Version}
use Rattle.ds_shard.specs.Histories.{EndsBy, Precedes, IsOver, IsOverAt, is_open, is_current, until_stamp, ended, with_version}
use Rattle.std.specs.List.{AllByRecursion as Each}
use Rattle.ds_shard.specs.Contents.{version_cmp, PrecedesOwn, AreHistories}
use Rattle.ds_shard.proofs.Kept.{current-open}

true_not_false : true ≡ false → ⊥
true_not_false e = cc

both : (a b : Bool) → (a && b) ≡ true → a ≡ true
both true b h = refl
both false b h = h

open_ends : (u : Option ℕ) (n : ℕ) → EndsBy n u → is_open u ≡ false
open_ends None n h = absurd h
open_ends (Some u) n h = refl

-- ---- the open version of a key

-- the version of this key that is open has this entity
abbrev pub Owns : KeyParts → EntityParts → Version → Type 0
Owns k e v = is_current k v ≡ true → v.entity ≡ e

abbrev pub NotCurrent : KeyParts → Version → Type 0
NotCurrent k v = is_current k v ≡ false

keys_alike : (a b k : KeyParts) → same_key a k ≡ true → same_key b k ≡ true → same_key a b ≡ true
keys_alike a b k p q = (same_key-decides a b).1 ((same_key-decides a k).0 p ∙ sym ((same_key-decides b k).0 q))

-- behind an open version none of its key stands
none_behind : (k : KeyParts) (v : Version) (ws : List Version) → is_current k v ≡ true → Each (PrecedesOwn v) ws → Each (NotCurrent k) ws
none_behind k v [] c h = tt
none_behind k v (w ∷ ws) c h = (by (is_current k w) refl, none_behind k v ws c h.1) where
  by : (b : Bool) → is_current k w ≡ b → is_current k w ≡ false
  by false e = e
  by true e =
      let first : same_key v.entity.key k ≡ true = both (same_key v.entity.key k) (is_open v.until) c in
      let second : same_key w.entity.key k ≡ true = both (same_key w.entity.key k) (is_open w.until) e in
      let ends : EndsBy w.from v.until = (h.0 (keys_alike v.entity.key w.entity.key k first second)).ends in
      absurd (true_not_false (sym (current-open (same_key v.entity.key k) (is_open v.until) c) ∙ open_ends v.until w.from ends))

owned : (k : KeyParts) (e : EntityParts) (ws : List Version) → Each (NotCurrent k) ws → Each (Owns k e) ws
owned k e [] h = tt
owned k e (w ∷ ws) h = ((λ c. absurd (true_not_false (sym c ∙ h.0))), owned k e ws h.1)

the_entity : (e f : EntityParts) → Some e ≡ Some f → e ≡ f
the_entity e f p = cc

pub only_current : (k : KeyParts) (e : EntityParts) (vs : List Version) → AreHistories vs
    → option_map (λ (v : Version). v.entity) (find (is_current k) vs) ≡ Some e → Each (Owns k e) vs
only_current k e [] h is = tt
only_current k e (v ∷ vs) h is = by (is_current k v) refl is (only_current k e vs h.1) where
  by : (b : Bool) → is_current k v ≡ b → option_map (λ (w : Version). w.entity) (cond b (Some v) (find (is_current k) vs)) ≡ Some e
      → (option_map (λ (w : Version). w.entity) (find (is_current k) vs) ≡ Some e → Each (Owns k e) vs) → Each (Owns k e) (v ∷ vs)
  by true c is i = ((λ _. the_entity v.entity e is), owned k e vs (none_behind k v vs c h.0))
  by false c is i = ((λ d. absurd (true_not_false (sym d ∙ c))), i is)

pub none_current : (stamp : ℕ) (k : KeyParts) (vs : List Version)
    → option_map (λ (v : Version). v.entity) (find (is_current k) vs) ≡ None → ended stamp k vs ≡ vs
none_current stamp k [] is = refl
none_current stamp k (v ∷ vs) is = by (is_current k v) refl is (none_current stamp k vs) where
  by : (b : Bool) → is_current k v ≡ b → option_map (λ (w : Version). w.entity) (cond b (Some v) (find (is_current k) vs)) ≡ None
      → (option_map (λ (w : Version). w.entity) (find (is_current k) vs) ≡ None → ended stamp k vs ≡ vs) → ended stamp k (v ∷ vs) ≡ v ∷ vs
  by true c is i = cc
  by false c is i = rw c (ap (λ ws. v ∷ ws) (i is))

-- ---- an end

later_ended : (stamp : ℕ) (k : KeyParts) (v : Version) (ws : List Version) → Each (PrecedesOwn v) ws → Each (PrecedesOwn v) (ended stamp k ws)
later_ended stamp k v [] h = tt
later_ended stamp k v (w ∷ ws) h = by (is_current k w) (later_ended stamp k v ws h.1) where
  by : (b : Bool) → Each (PrecedesOwn v) (ended stamp k ws) → Each (PrecedesOwn v) (cond b (until_stamp (Some stamp) w) w ∷ ended stamp k ws)
  by true i = ((λ s. let p : Precedes v w = h.0 s in record { rises = p.rises; ends = p.ends }), i)
  by false i = (h.0, i)

earlier_ended : (stamp : ℕ) (k : KeyParts) (v : Version) (ws : List Version) → Each (PrecedesOwn v) ws
    → Each (PrecedesOwn (cond (is_current k v) (until_stamp (Some stamp) v) v)) ws
earlier_ended stamp k v [] h = tt
earlier_ended stamp k v (w ∷ ws) h = (by (is_current k v) refl, earlier_ended stamp k v ws h.1) where
  by : (b : Bool) → is_current k v ≡ b → PrecedesOwn (cond b (until_stamp (Some stamp) v) v) w
  by true e = λ s.
      let p : Precedes v w = h.0 s in
      absurd (true_not_false (sym (current-open (same_key v.entity.key k) (is_open v.until) e) ∙ open_ends v.until w.from p.ends))
  by false e = h.0

pub histories-ended : (stamp : ℕ) (k : KeyParts) (vs : List Version) → AreHistories vs → AreHistories (ended stamp k vs)
histories-ended stamp k [] h = tt
histories-ended stamp k (v ∷ vs) h =
    (earlier_ended stamp k v (ended stamp k vs) (later_ended stamp k v vs h.0), histories-ended stamp k vs h.1)

-- ---- a beginning

pub is_less : (r : Ordering) → is_lt r ≡ true → r ≡ Less
is_less Less e = refl
is_less Equal e = cc
is_less Greater e = cc

-- a key that is below the first of versions in the order of keys is none of theirs
pub less_apart : (x y z : KeyParts) → key_cmp x y ≡ Less → is_gt (key_cmp y z) ≡ false → key_cmp x z ≡ Less
less_apart x y z before below = by (key_cmp y z) refl below where
  by : (r : Ordering) → key_cmp y z ≡ r → is_gt r ≡ false → key_cmp x z ≡ Less
  by Less is below = key_cmp-total.trans x y z before is
  by Equal is below = sym (alike_right key_cmp-total y z x is) ∙ before
  by Greater is below = absurd (true_not_false below)

none_own : (v w : Version) (ws : List Version) → key_cmp v.entity.key w.entity.key ≡ Less → NoneBefore version_cmp w ws → Each (PrecedesOwn v) ws
none_own v w [] before h = tt
none_own v w (x ∷ xs) before h =
    ((λ s. absurd (true_not_false (sym s ∙ ap is_eq (less_apart v.entity.key w.entity.key x.entity.key before h.0)))), none_own v w xs before h.1)

is_over : (k : KeyParts) (v w : Version) → IsOverAt v.from v.entity.key w → PrecedesOwn w v
is_over k v w h = λ s. let o : IsOver v.from w = h s in record { rises = o.0; ends = o.1 }

later_with : (v w : Version) (ws : List Version) → PrecedesOwn w v → Each (PrecedesOwn w) ws → Each (PrecedesOwn w) (with_version v ws)
later_with v w [] p h = (p, tt)
later_with v w (x ∷ xs) p h = by (is_lt (key_cmp v.entity.key x.entity.key)) (later_with v w xs p h.1) where
  by : (b : Bool) → Each (PrecedesOwn w) (with_version v xs) → Each (PrecedesOwn w) (cond b (v ∷ x ∷ xs) (x ∷ with_version v xs))
  by true i = (p, h)
  by false i = (h.0, i)

pub histories-with : (v : Version) (vs : List Version) → Ascends version_cmp vs → Each (IsOverAt v.from v.entity.key) vs → AreHistories vs
    → AreHistories (with_version v vs)
histories-with v [] a o h = (tt, tt)
histories-with v (w ∷ ws) a o h = by (is_lt (key_cmp v.entity.key w.entity.key)) refl (histories-with v ws a.1 o.1 h.1) where
  by : (b : Bool) → is_lt (key_cmp v.entity.key w.entity.key) ≡ b → AreHistories (with_version v ws)
      → AreHistories (cond b (v ∷ w ∷ ws) (w ∷ with_version v ws))
  by true e i =
      let less : key_cmp v.entity.key w.entity.key ≡ Less = is_less (key_cmp v.entity.key w.entity.key) e in
      (((λ s. absurd (true_not_false (sym s ∙ ap is_eq less))), none_own v w ws less a.0), h)
  by false e i = (later_with v w ws (is_over v.entity.key v w o.0) h.0, i)

-- ---- versions taken out

precedes-filter : (p : Version → Bool) (v : Version) (ws : List Version) → Each (PrecedesOwn v) ws → Each (PrecedesOwn v) (filter p ws)
precedes-filter p v [] h = tt
precedes-filter p v (w ∷ ws) h = by (p w) (precedes-filter p v ws h.1) where
  by : (b : Bool) → Each (PrecedesOwn v) (filter p ws) → Each (PrecedesOwn v) (cond b (w ∷ filter p ws) (filter p ws))
  by true i = (h.0, i)
  by false i = i

pub histories-filter : (p : Version → Bool) (vs : List Version) → AreHistories vs → AreHistories (filter p vs)
histories-filter p [] h = tt
histories-filter p (v ∷ vs) h = by (p v) (histories-filter p vs h.1) where
  by : (b : Bool) → AreHistories (filter p vs) → AreHistories (cond b (v ∷ filter p vs) (filter p vs))
  by true i = (precedes-filter p v vs h.0, i)
  by false i = i
