-- The versions of all keys, where the versions of one key are read or changed.
use Rattle.std.proofs.Common.{◌≡◌, ℕ, Bool, true, false, cond, List, [], ◌∷◌, ◌++◌, Option, Some, None, refl, sym, ap, ◌∙◌, subst}
use Rattle.std.proofs.Common.{append_assoc}
use Rattle.std.specs.Prelude.{◌&&◌, find, filter, option_map, if◌then◌else◌}
use Rattle.std.specs.List.{filter_map, AllByRecursion, cons_option}
use Rattle.std.specs.List.Sorted.{IsStrictlySortedBy}
use Rattle.std.specs.Map.{keys_of, lookup, set_value, remove_entry}
use Rattle.std.specs.BTreeMap.{insert_entry, is_at}
use Rattle.std.specs.Ordering.{is_eq, is_lt, match_ordering, ordering_reverse}
use Rattle.std.specs.declared.cmp.Ordering.{Ordering}
use Rattle.std.specs.declared.cmp.Ordering.TheVariants.{Less, Equal, Greater}
use Rattle.std.proofs.lemmas.List.{append-nil}
use Rattle.std.proofs.lemmas.List.Elements.{filter-append, filter_map-append}
use Rattle.ds_base.specs.Keys.{KeyParts}
use Rattle.ds_base.specs.KeyOrder.{key_cmp, same_key}
use Rattle.ds_base.specs.KeyOrderLaws.{key_cmp-total, key_cmp-same, key_cmp-Equal}
use Rattle.ds_entity.specs.Entities.{EntityParts}
use Rattle.ds_rows.specs.Versions.{Version, is_seen, entities_at}
use Rattle.ds_shard.specs.Histories.{IsHistory, IsOver, IsOverAt, is_open, until_stamp, ended, trimmed_at, outlives, with_version, joined}
use Rattle.ds_shard.specs.Histories.{AreOwn}
use Rattle.std.specs.List.{AllByRecursion as Each}
use Rattle.ds_shard.proofs.HistoryLaws.{end_open}

abbrev pub Entry : Type 0
Entry = KeyParts × List Version

abbrev pub Own : KeyParts → Version → Type 0
Own k v = v.entity.key ≡ k

-- the key at which the look-up is
abbrev pub at_key : KeyParts → List Entry → Option (List Version)
at_key k = lookup (is_at (key_cmp k))

abbrev pub Ascend : List Entry → Type 0
Ascend es = IsStrictlySortedBy key_cmp (keys_of es)

-- every key is above this one
abbrev pub Above : KeyParts → List Entry → Type 0
Above k es = AllByRecursion (λ y. key_cmp k y ≡ Less) (keys_of es)

-- ---- keys

pub tied : (k : KeyParts) → key_cmp k k ≡ Equal
tied k = (key_cmp-Equal k k).1 refl

pub turned : (x y : KeyParts) → key_cmp x y ≡ ordering_reverse (key_cmp y x)
turned = key_cmp-total.antisymm

same_self : (x k : KeyParts) → x ≡ k → same_key x k ≡ true
same_self x k e = rw e (ap is_eq (tied k))

same_below : (x k : KeyParts) → key_cmp k x ≡ Less → same_key x k ≡ false
same_below x k e = ap is_eq (turned x k ∙ ap ordering_reverse e)

same_above : (x k : KeyParts) → key_cmp k x ≡ Greater → same_key x k ≡ false
same_above x k e = ap is_eq (turned x k ∙ ap ordering_reverse e)

pub above-down : (k : KeyParts) (j : KeyParts) (es : List Entry) → key_cmp k j ≡ Less → Above j es → Above k es
above-down k j [] l h = tt
above-down k j (e ∷ es) l h = (key_cmp-total.trans k j e.0 l h.0, above-down k j es l h.1)

pub ascend_head : (e : Entry) (es : List Entry) → Ascend (e ∷ es) → Above e.0 es
unfolding IsStrictlySortedBy
ascend_head e es a = a.0

pub ascend_tail : (e : Entry) (es : List Entry) → Ascend (e ∷ es) → Ascend es
unfolding IsStrictlySortedBy
ascend_tail e es a = a.1

pub none_above : (k : KeyParts) (es : List Entry) → Above k es → at_key k es ≡ None
none_above k [] h = refl
none_above k (e ∷ es) h = rw h.0 (none_above k es h.1)

-- ---- an operation on the versions of one key

abbrev pub local : (Version → Option Version) → KeyParts → List Version → List Version
local g k = filter_map (λ v. if same_key v.entity.key k then g v else Some v)

local-own : (g : Version → Option Version) (k j : KeyParts) (vs : List Version) → k ≡ j → Each (Own j) vs → local g k vs ≡ filter_map g vs
local-own g k j [] e h = refl
local-own g k j (v ∷ vs) e h = rw (same_self v.entity.key k (h.0 ∙ sym e)) (ap (cons_option (g v)) (local-own g k j vs e h.1))

local-other : (g : Version → Option Version) (k j : KeyParts) (vs : List Version) → same_key j k ≡ false → Each (Own j) vs
    → local g k vs ≡ vs
local-other g k j [] e h = refl
local-other g k j (v ∷ vs) e h =
    let other : same_key v.entity.key k ≡ false = ap (λ x. same_key x k) h.0 ∙ e in
    rw other (ap (λ ws. v ∷ ws) (local-other g k j vs e h.1))

local-above : (g : Version → Option Version) (k : KeyParts) (es : List Entry) → AreOwn es → Above k es → local g k (joined es) ≡ joined es
local-above g k [] o a = refl
local-above g k (e ∷ es) o a =
    filter_map-append (λ v. if same_key v.entity.key k then g v else Some v) e.1 (joined es)
    ∙ (ap (λ vs. vs ++ local g k (joined es)) (local-other g k e.0 e.1 (same_below e.0 k a.0) o.0)
    ∙ ap (λ vs. e.1 ++ vs) (local-above g k es o.2 a.1))

local-cons : (g : Version → Option Version) (k : KeyParts) (e : Entry) (es : List Entry) (vs ws : List Version) → local g k e.1 ≡ vs
    → local g k (joined es) ≡ ws → local g k (joined (e ∷ es)) ≡ vs ++ ws
local-cons g k e es vs ws is rest =
    filter_map-append (λ v. if same_key v.entity.key k then g v else Some v) e.1 (joined es)
    ∙ (ap (λ xs. xs ++ local g k (joined es)) is ∙ ap (λ xs. vs ++ xs) rest)

pub local_none : (g : Version → Option Version) (k : KeyParts) (es : List Entry) → AreOwn es → Ascend es → at_key k es ≡ None
    → local g k (joined es) ≡ joined es
local_none g k [] o a n = refl
local_none g k (e ∷ es) o a n = by (key_cmp k e.0) refl (local_none g k es o.2 (ascend_tail e es a)) where
  by : (r : Ordering) → key_cmp k e.0 ≡ r → (at_key k es ≡ None → local g k (joined es) ≡ joined es)
      → local g k (joined (e ∷ es)) ≡ joined (e ∷ es)
  by Less c i = local-above g k (e ∷ es) o (c, above-down k e.0 es c (ascend_head e es a))
  by Equal c i = let f : Some e.1 ≡ None = rw c at n in cc
  by Greater c i =
      let rest : at_key k es ≡ None = rw c at n in
      local-cons g k e es e.1 (joined es) (local-other g k e.0 e.1 (same_above e.0 k c) o.0) (i rest)

pub local_some : (g : Version → Option Version) (k : KeyParts) (es : List Entry) (vs : List Version) → AreOwn es → Ascend es
    → at_key k es ≡ Some vs → local g k (joined es) ≡ joined (set_value (is_at (key_cmp k)) es (filter_map g vs))
local_some g k [] vs o a s = cc
local_some g k (e ∷ es) vs o a s = by (key_cmp k e.0) refl (local_some g k es vs o.2 (ascend_tail e es a)) where
  by : (r : Ordering) → key_cmp k e.0 ≡ r
      → (at_key k es ≡ Some vs → local g k (joined es) ≡ joined (set_value (is_at (key_cmp k)) es (filter_map g vs)))
      → local g k (joined (e ∷ es)) ≡ joined (set_value (is_at (key_cmp k)) (e ∷ es) (filter_map g vs))
  by Less c i =
      let n : at_key k es ≡ None = none_above k es (above-down k e.0 es c (ascend_head e es a)) in
      let rest : at_key k es ≡ Some vs = rw c at s in
      cc
  by Equal c i =
      let same : k ≡ e.0 = key_cmp-same k e.0 c in
      let is : e.1 ≡ vs = (let f : Some e.1 ≡ Some vs = rw c at s in cc) in
      rw c
      (local-cons g k e es (filter_map g vs) (joined es) (local-own g k e.0 e.1 same o.0 ∙ ap (filter_map g) is)
      (local-above g k es o.2 (subst (λ x. Above x es) (sym same) (ascend_head e es a))))
  by Greater c i =
      let rest : at_key k es ≡ Some vs = rw c at s in
      rw c
      (local-cons g k e es e.1 (joined (set_value (is_at (key_cmp k)) es (filter_map g vs)))
      (local-other g k e.0 e.1 (same_above e.0 k c) o.0) (i rest))

-- ---- the three operations are such

pub ended_local : (stamp : ℕ) (k : KeyParts) (vs : List Version) → ended stamp k vs ≡ local (λ v. Some (end_open stamp v)) k vs
ended_local stamp k [] = refl
ended_local stamp k (v ∷ vs) = by (same_key v.entity.key k) (is_open v.until) refl refl (ended_local stamp k vs) where
  by : (b c : Bool) → same_key v.entity.key k ≡ b → is_open v.until ≡ c → ended stamp k vs ≡ local (λ v. Some (end_open stamp v)) k vs
      → ended stamp k (v ∷ vs) ≡ local (λ v. Some (end_open stamp v)) k (v ∷ vs)
  by true true e f i = rw (e, f) (ap (λ ws. until_stamp (Some stamp) v ∷ ws) i)
  by true false e f i = rw (e, f) (ap (λ ws. v ∷ ws) i)
  by false c e f i = rw e (ap (λ ws. v ∷ ws) i)

abbrev pub outliving : ℕ → Version → Option Version
outliving floor v = cond (outlives floor v) (Some v) None

pub trimmed_local : (floor : ℕ) (k : KeyParts) (vs : List Version) → trimmed_at floor k vs ≡ local (outliving floor) k vs
trimmed_local floor k [] = refl
trimmed_local floor k (v ∷ vs) = by (same_key v.entity.key k) (outlives floor v) refl refl (trimmed_local floor k vs) where
  by : (b c : Bool) → same_key v.entity.key k ≡ b → outlives floor v ≡ c → trimmed_at floor k vs ≡ local (outliving floor) k vs
      → trimmed_at floor k (v ∷ vs) ≡ local (outliving floor) k (v ∷ vs)
  by true true e f i = rw (e, f) (ap (λ ws. v ∷ ws) i)
  by true false e f i = rw (e, f) i
  by false c e f i = rw e (ap (λ ws. v ∷ ws) i)

pub filter_kept : (p : Version → Bool) (vs : List Version) → filter_map (λ v. cond (p v) (Some v) None) vs ≡ filter p vs
filter_kept p [] = refl
filter_kept p (v ∷ vs) = by (p v) refl (filter_kept p vs) where
  by : (b : Bool) → p v ≡ b → filter_map (λ v. cond (p v) (Some v) None) vs ≡ filter p vs
      → filter_map (λ v. cond (p v) (Some v) None) (v ∷ vs) ≡ filter p (v ∷ vs)
  by true e i = rw e (ap (λ ws. v ∷ ws) i)
  by false e i = rw e i

-- ---- entities keep their keys

abbrev pub Keeps : (Version → Option Version) → Type 0
Keeps g = (v w : Version) → g v ≡ Some w → w.entity ≡ v.entity

own-kept : (g : Version → Option Version) → Keeps g → (k : KeyParts) (vs : List Version) → Each (Own k) vs → Each (Own k) (filter_map g vs)
own-kept g keeps k [] h = tt
own-kept g keeps k (v ∷ vs) h = by (g v) refl (own-kept g keeps k vs h.1) where
  by : (o : Option Version) → g v ≡ o → Each (Own k) (filter_map g vs) → Each (Own k) (cons_option o (filter_map g vs))
  by None e i = i
  by (Some w) e i = (ap (λ (x : EntityParts). x.key) (keeps v w e) ∙ h.0, i)

pub own_set : (k : KeyParts) (es : List Entry) (ws : List Version) → AreOwn es → Each (Own k) ws → IsHistory ws
    → AreOwn (set_value (is_at (key_cmp k)) es ws)
own_set k [] ws o own h = tt
own_set k (e ∷ es) ws o own h = by (key_cmp k e.0) refl (own_set k es ws o.2 own h) where
  by : (r : Ordering) → key_cmp k e.0 ≡ r → AreOwn (set_value (is_at (key_cmp k)) es ws)
      → AreOwn (set_value (is_at (key_cmp k)) (e ∷ es) ws)
  by Less c i = rw c (o.0, o.1, i)
  by Equal c i = rw c (subst (λ x. Each (Own x) ws) (key_cmp-same k e.0 c) own, h, o.2)
  by Greater c i = rw c (o.0, o.1, i)

-- the versions found at a key are its own, and a history
pub found_own : (k : KeyParts) (es : List Entry) (vs : List Version) → AreOwn es → at_key k es ≡ Some vs → Each (Own k) vs
found_own k [] vs o s = cc
found_own k (e ∷ es) vs o s = by (key_cmp k e.0) refl (found_own k es vs o.2) where
  by : (r : Ordering) → key_cmp k e.0 ≡ r → (at_key k es ≡ Some vs → Each (Own k) vs) → Each (Own k) vs
  by Less c i = i (rw c at s)
  by Equal c i =
      let is : e.1 ≡ vs = (let f : Some e.1 ≡ Some vs = rw c at s in cc) in
      subst (λ ws. Each (Own k) ws) is (subst (λ x. Each (Own x) e.1) (sym (key_cmp-same k e.0 c)) o.0)
  by Greater c i = i (rw c at s)

pub own_found : (g : Version → Option Version) → Keeps g → (k : KeyParts) (es : List Entry) (vs : List Version) → AreOwn es
    → at_key k es ≡ Some vs
    → Each (Own k) (filter_map g vs)
own_found g keeps k es vs o s = own-kept g keeps k vs (found_own k es vs o s)

each_joined : (P : Version → Type 0) (xs ys : List Version) → Each P (xs ++ ys) → Each P xs × Each P ys
each_joined P [] ys h = (tt, h)
each_joined P (x ∷ xs) ys h = let rest = each_joined P xs ys h.1 in ((h.0, rest.0), rest.1)

pub each_found : (P : Version → Type 0) (k : KeyParts) (es : List Entry) (vs : List Version) → Each P (joined es)
    → at_key k es ≡ Some vs → Each P vs
each_found P k [] vs h s = cc
each_found P k (e ∷ es) vs h s = by (key_cmp k e.0) refl (each_found P k es vs (each_joined P e.1 (joined es) h).1) where
  by : (r : Ordering) → key_cmp k e.0 ≡ r → (at_key k es ≡ Some vs → Each P vs) → Each P vs
  by Less c i = i (rw c at s)
  by Equal c i =
      let is : e.1 ≡ vs = (let f : Some e.1 ≡ Some vs = rw c at s in cc) in
      subst (Each P) is (each_joined P e.1 (joined es) h).0
  by Greater c i = i (rw c at s)

over_own : (stamp : ℕ) (k : KeyParts) (vs : List Version) → Each (Own k) vs → Each (IsOverAt stamp k) vs → Each (IsOver stamp) vs
over_own stamp k [] o h = tt
over_own stamp k (v ∷ vs) o h = (h.0 (same_self v.entity.key k o.0), over_own stamp k vs o.1 h.1)

pub over_found : (stamp : ℕ) (k : KeyParts) (es : List Entry) (vs : List Version) → AreOwn es → Each (IsOverAt stamp k) (joined es)
    → at_key k es ≡ Some vs → Each (IsOver stamp) vs
over_found stamp k es vs o h s = over_own stamp k vs (found_own k es vs o s) (each_found (IsOverAt stamp k) k es vs h s)

-- ---- a version begins

passes : (v : Version) (j : KeyParts) (ws zs : List Version) → is_lt (key_cmp v.entity.key j) ≡ false → Each (Own j) ws
    → with_version v (ws ++ zs) ≡ ws ++ with_version v zs
passes v j [] zs e h = refl
passes v j (w ∷ ws) zs e h =
    let not_below : is_lt (key_cmp v.entity.key w.entity.key) ≡ false = ap (λ x. is_lt (key_cmp v.entity.key x)) h.0 ∙ e in
    rw not_below (ap (λ xs. w ∷ xs) (passes v j ws zs e h.1))

stops-own : (v : Version) (j : KeyParts) (ws zs : List Version) → key_cmp v.entity.key j ≡ Less → Each (Own j) ws
    → with_version v zs ≡ v ∷ zs → with_version v (ws ++ zs) ≡ v ∷ ws ++ zs
stops-own v j [] zs l h i = i
stops-own v j (w ∷ ws) zs l h i =
    let below : key_cmp v.entity.key w.entity.key ≡ Less = ap (key_cmp v.entity.key) h.0 ∙ l in
    rw below refl

stops : (v : Version) (es : List Entry) → AreOwn es → Above v.entity.key es → with_version v (joined es) ≡ v ∷ joined es
stops v [] o a = refl
stops v (e ∷ es) o a = stops-own v e.0 e.1 (joined es) a.0 o.0 (stops v es o.2 a.1)

pub begun_joined : (v : Version) (es : List Entry) (vs : List Version) → AreOwn es → Ascend es → at_key v.entity.key es ≡ Some vs
    → with_version v (joined es) ≡ joined (set_value (is_at (key_cmp v.entity.key)) es (vs ++ v ∷ []))
begun_joined v [] vs o a s = cc
begun_joined v (e ∷ es) vs o a s = by (key_cmp v.entity.key e.0) refl (begun_joined v es vs o.2 (ascend_tail e es a)) where
  by : (r : Ordering) → key_cmp v.entity.key e.0 ≡ r
      → (at_key v.entity.key es ≡ Some vs
      → with_version v (joined es) ≡ joined (set_value (is_at (key_cmp v.entity.key)) es (vs ++ v ∷ [])))
      → with_version v (joined (e ∷ es)) ≡ joined (set_value (is_at (key_cmp v.entity.key)) (e ∷ es) (vs ++ v ∷ []))
  by Less c i =
      let n : at_key v.entity.key es ≡ None = none_above v.entity.key es (above-down v.entity.key e.0 es c (ascend_head e es a)) in
      let rest : at_key v.entity.key es ≡ Some vs = rw c at s in
      cc
  by Equal c i =
      let same : v.entity.key ≡ e.0 = key_cmp-same v.entity.key e.0 c in
      let is : e.1 ≡ vs = (let f : Some e.1 ≡ Some vs = rw c at s in cc) in
      let above : Above v.entity.key es = subst (λ x. Above x es) (sym same) (ascend_head e es a) in
      rw c
      (passes v e.0 e.1 (joined es) (ap is_lt c) o.0
      ∙ (ap (λ xs. e.1 ++ xs) (stops v es o.2 above)
      ∙ (sym (append_assoc e.1 (v ∷ []) (joined es)) ∙ ap (λ ws. (ws ++ v ∷ []) ++ joined es) is)))
  by Greater c i =
      let rest : at_key v.entity.key es ≡ Some vs = rw c at s in
      rw c (passes v e.0 e.1 (joined es) (ap is_lt c) o.0 ∙ ap (λ xs. e.1 ++ xs) (i rest))

own-push : (k : KeyParts) (vs : List Version) (v : Version) → Each (Own k) vs → v.entity.key ≡ k → Each (Own k) (vs ++ v ∷ [])
own-push k [] v h e = (e, tt)
own-push k (w ∷ ws) v h e = (h.0, own-push k ws v h.1 e)

pub own_begun : (v : Version) (es : List Entry) (vs : List Version) → AreOwn es → at_key v.entity.key es ≡ Some vs
    → Each (Own v.entity.key) (vs ++ v ∷ [])
own_begun v es vs o s = own-push v.entity.key vs v (found_own v.entity.key es vs o s) refl

pub begun_new : (v : Version) (es : List Entry) → AreOwn es → Ascend es → at_key v.entity.key es ≡ None
    → with_version v (joined es) ≡ joined (insert_entry key_cmp es v.entity.key (v ∷ []))
begun_new v [] o a n = refl
begun_new v (e ∷ es) o a n = by (key_cmp v.entity.key e.0) refl (begun_new v es o.2 (ascend_tail e es a)) where
  by : (r : Ordering) → key_cmp v.entity.key e.0 ≡ r
      → (at_key v.entity.key es ≡ None → with_version v (joined es) ≡ joined (insert_entry key_cmp es v.entity.key (v ∷ [])))
      → with_version v (joined (e ∷ es)) ≡ joined (insert_entry key_cmp (e ∷ es) v.entity.key (v ∷ []))
  by Less c i =
      stops v (e ∷ es) o (c, above-down v.entity.key e.0 es c (ascend_head e es a))
      ∙ sym (ap (λ r. joined (match_ordering r ((v.entity.key, v ∷ []) ∷ e ∷ es) ((e.0, v ∷ []) ∷ es)
      (e ∷ insert_entry key_cmp es v.entity.key (v ∷ [])))) c)
  by Equal c i = let f : Some e.1 ≡ None = rw c at n in cc
  by Greater c i =
      let rest : at_key v.entity.key es ≡ None = rw c at n in
      passes v e.0 e.1 (joined es) (ap is_lt c) o.0
      ∙ (ap (λ xs. e.1 ++ xs) (i rest)
      ∙ sym (ap (λ r. joined (match_ordering r ((v.entity.key, v ∷ []) ∷ e ∷ es) ((e.0, v ∷ []) ∷ es)
      (e ∷ insert_entry key_cmp es v.entity.key (v ∷ [])))) c))

pub own_insert : (k : KeyParts) (es : List Entry) (ws : List Version) → at_key k es ≡ None → Each (Own k) ws → IsHistory ws → AreOwn es
    → AreOwn (insert_entry key_cmp es k ws)
own_insert k [] ws n own h o = (own, h, tt)
own_insert k (e ∷ es) ws n own h o = by (key_cmp k e.0) refl (λ m. own_insert k es ws m own h o.2) where
  by : (r : Ordering) → key_cmp k e.0 ≡ r → (at_key k es ≡ None → AreOwn (insert_entry key_cmp es k ws))
      → AreOwn (insert_entry key_cmp (e ∷ es) k ws)
  by Less c i = rw c (own, h, o)
  by Equal c i = let f : Some e.1 ≡ None = rw c at n in cc
  by Greater c i = rw c (o.0, o.1, i (rw c at n))

-- ---- a key without versions

pub joined_remove : (k : KeyParts) (es : List Entry) → at_key k es ≡ Some [] → joined (remove_entry (is_at (key_cmp k)) es) ≡ joined es
joined_remove k [] s = cc
joined_remove k (e ∷ es) s = by (key_cmp k e.0) refl (joined_remove k es) where
  by : (r : Ordering) → key_cmp k e.0 ≡ r → (at_key k es ≡ Some [] → joined (remove_entry (is_at (key_cmp k)) es) ≡ joined es)
      → joined (remove_entry (is_at (key_cmp k)) (e ∷ es)) ≡ joined (e ∷ es)
  by Less c i = rw c (ap (λ xs. e.1 ++ xs) (i (rw c at s)))
  by Equal c i =
      let is : [] ≡ e.1 = (let f : Some e.1 ≡ Some [] = rw c at s in cc) in
      rw c (ap (λ vs. vs ++ joined es) is)
  by Greater c i = rw c (ap (λ xs. e.1 ++ xs) (i (rw c at s)))

pub own_remove : (k : KeyParts) (es : List Entry) → AreOwn es → AreOwn (remove_entry (is_at (key_cmp k)) es)
own_remove k [] o = tt
own_remove k (e ∷ es) o = by (is_at (key_cmp k) e.0) (own_remove k es o.2) where
  by : (b : Bool) → AreOwn (remove_entry (is_at (key_cmp k)) es) → AreOwn (cond b es (e ∷ remove_entry (is_at (key_cmp k)) es))
  by true i = o.2
  by false i = (o.0, o.1, i)

-- ---- what is found

abbrev pub listed : Option (List Version) → List Version
listed None = []
listed (Some vs) = vs

abbrev of_key : KeyParts → Version → Bool
of_key k v = same_key v.entity.key k

all-own : (k j : KeyParts) (vs : List Version) → k ≡ j → Each (Own j) vs → filter (of_key k) vs ≡ vs
all-own k j [] e h = refl
all-own k j (v ∷ vs) e h = rw (same_self v.entity.key k (h.0 ∙ sym e)) (ap (λ ws. v ∷ ws) (all-own k j vs e h.1))

none-own : (k j : KeyParts) (vs : List Version) → same_key j k ≡ false → Each (Own j) vs → filter (of_key k) vs ≡ []
none-own k j [] e h = refl
none-own k j (v ∷ vs) e h =
    let other : same_key v.entity.key k ≡ false = ap (λ x. same_key x k) h.0 ∙ e in
    rw other (none-own k j vs e h.1)

filter-cons : (k : KeyParts) (e : Entry) (es : List Entry) (vs ws : List Version) → filter (of_key k) e.1 ≡ vs
    → filter (of_key k) (joined es) ≡ ws
    → filter (of_key k) (joined (e ∷ es)) ≡ vs ++ ws
filter-cons k e es vs ws is rest =
    filter-append (of_key k) e.1 (joined es) ∙ (ap (λ xs. xs ++ filter (of_key k) (joined es)) is ∙ ap (λ xs. vs ++ xs) rest)

none_joined : (k : KeyParts) (es : List Entry) → AreOwn es → Above k es → filter (of_key k) (joined es) ≡ []
none_joined k [] o a = refl
none_joined k (e ∷ es) o a = filter-cons k e es [] [] (none-own k e.0 e.1 (same_below e.0 k a.0) o.0) (none_joined k es o.2 a.1)

filter_joined : (k : KeyParts) (es : List Entry) → AreOwn es → Ascend es → filter (of_key k) (joined es) ≡ listed (at_key k es)
filter_joined k [] o a = refl
filter_joined k (e ∷ es) o a = by (key_cmp k e.0) refl (filter_joined k es o.2 (ascend_tail e es a)) where
  by : (r : Ordering) → key_cmp k e.0 ≡ r → filter (of_key k) (joined es) ≡ listed (at_key k es)
      → filter (of_key k) (joined (e ∷ es)) ≡ listed (at_key k (e ∷ es))
  by Less c i =
      let above : Above k es = above-down k e.0 es c (ascend_head e es a) in
      rw c (none_joined k (e ∷ es) o (c, above) ∙ sym (ap listed (none_above k es above)))
  by Equal c i =
      let same : k ≡ e.0 = key_cmp-same k e.0 c in
      rw c
      (filter-cons k e es e.1 [] (all-own k e.0 e.1 same o.0)
      (none_joined k es o.2 (subst (λ x. Above x es) (sym same) (ascend_head e es a)))
      ∙ append-nil e.1)
  by Greater c i =
      rw c (filter-cons k e es [] (listed (at_key k es)) (none-own k e.0 e.1 (same_above e.0 k c) o.0) i)

find_both : (p q : Version → Bool) (vs : List Version) → find (λ v. p v && q v) vs ≡ find q (filter p vs)
find_both p q [] = refl
find_both p q (v ∷ vs) = by (p v) refl (find_both p q vs) where
  by : (b : Bool) → p v ≡ b → find (λ v. p v && q v) vs ≡ find q (filter p vs)
      → find (λ v. p v && q v) (v ∷ vs) ≡ find q (filter p (v ∷ vs))
  by true e i = rw e (ap (cond (q v) (Some v)) i)
  by false e i = rw e i

pub find_joined : (q : Version → Bool) (k : KeyParts) (es : List Entry) → AreOwn es → Ascend es
    → find (λ v. same_key v.entity.key k && q v) (joined es) ≡ find q (listed (at_key k es))
find_joined q k es o a = find_both (of_key k) q (joined es) ∙ ap (find q) (filter_joined k es o a)

entity_seen : (stamp : ℕ) (k : KeyParts) (vs : List Version)
    → find (λ (e : EntityParts). same_key e.key k) (entities_at stamp vs)
    ≡ option_map (λ (v : Version). v.entity) (find (λ v. same_key v.entity.key k && is_seen stamp v) vs)
entity_seen stamp k [] = refl
entity_seen stamp k (v ∷ vs) = by (is_seen stamp v) (same_key v.entity.key k) refl refl (entity_seen stamp k vs) where
  by : (b c : Bool) → is_seen stamp v ≡ b → same_key v.entity.key k ≡ c
      → find (λ (e : EntityParts). same_key e.key k) (entities_at stamp vs)
      ≡ option_map (λ (v : Version). v.entity) (find (λ v. same_key v.entity.key k && is_seen stamp v) vs)
      → find (λ (e : EntityParts). same_key e.key k) (entities_at stamp (v ∷ vs))
      ≡ option_map (λ (v : Version). v.entity) (find (λ v. same_key v.entity.key k && is_seen stamp v) (v ∷ vs))
  by true true e f i = rw (e, f) refl
  by true false e f i = rw (e, f) i
  by false true e f i = rw (e, f) i
  by false false e f i = rw (e, f) i

pub seen_joined : (stamp : ℕ) (k : KeyParts) (es : List Entry) → AreOwn es → Ascend es
    → find (λ (e : EntityParts). same_key e.key k) (entities_at stamp (joined es))
    ≡ option_map (λ (v : Version). v.entity) (find (is_seen stamp) (listed (at_key k es)))
seen_joined stamp k es o a =
    entity_seen stamp k (joined es) ∙ ap (option_map (λ (v : Version). v.entity)) (find_joined (is_seen stamp) k es o a)
