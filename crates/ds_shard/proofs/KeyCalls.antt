-- What a call that reads or changes the versions of one key leaves of all.
use Rattle.std.proofs.Common.{◌≡◌, ℕ, Bool, true, false, List, [], ◌∷◌, ◌++◌, Option, Some, None, Result, Ok, Err, refl, sym, ap, ◌∙◌}
use Rattle.std.proofs.Common.{subst}
use Rattle.std.specs.Prelude.{find, option_map, OnOk, OnErr, nat_eq}
use Rattle.std.specs.List.{filter_map}
use Rattle.std.specs.Map.{set_value, remove_entry}
use Rattle.std.specs.BTreeMap.{insert_entry, is_at}
use Rattle.std.specs.declared.cmp.Ordering.{Ordering}
use Rattle.std.specs.declared.cmp.Ordering.TheVariants.{Less, Equal, Greater}
use Rattle.std.proofs.lemmas.Map.Steps.{set_value_same}
use Rattle.ds_base.specs.Keys.{KeyParts}
use Rattle.ds_base.specs.KeyOrder.{key_cmp, same_key}
use Rattle.ds_entity.specs.Entities.{EntityParts}
use Rattle.ds_rows.specs.Versions.{Version, is_seen, entities_at}
use Rattle.ds_shard.specs.Histories.{EndsFrom, IsHistory, IsOver, IsOverAt, is_open, is_current, until_stamp, before_stamp, ends_at}
use Rattle.ds_shard.specs.Histories.{outlives, with_version, joined, AreOwn, AreByKey, AreByKeyBut, IsFilled, AreFilled, AreFilledBut}
use Rattle.std.specs.List.{AllByRecursion as Each}
use Rattle.ds_shard.proofs.HistoryLaws.{end_open}
use Rattle.ds_shard.proofs.ByKey.{Entry, Own, Ascend, Keeps, at_key, listed, local, local_none, local_some, own_set, own_found, found_own}
use Rattle.ds_shard.proofs.ByKey.{over_found, begun_joined, own_begun, begun_new, own_insert, own_remove, find_joined, seen_joined}
use Rattle.ds_shard.proofs.ByKey.{outliving}
use Rattle.ds_shard.proofs.FilledKeys.{filled_set, filled_but_set, filled_but, filled_found, filled_insert, filled_remove, filled_kept}
use Rattle.ds_shard.proofs.FilledKeys.{filled-push}

-- ---- a change

found_history : (k : KeyParts) (es : List Entry) (vs : List Version) → AreOwn es → at_key k es ≡ Some vs → IsHistory vs
found_history k [] vs o s = cc
found_history k (e ∷ es) vs o s = by (key_cmp k e.0) refl (found_history k es vs o.2) where
  by : (r : Ordering) → key_cmp k e.0 ≡ r → (at_key k es ≡ Some vs → IsHistory vs) → IsHistory vs
  by Less c i = i (rw c at s)
  by Equal c i =
      let is : e.1 ≡ vs = (let f : Some e.1 ≡ Some vs = rw c at s in cc) in
      subst IsHistory is o.1
  by Greater c i = i (rw c at s)

module _ (g : Version → Option Version) (k : KeyParts) (es : List Entry) (by_key : AreByKey es) where
  pub nothing_changed : (ns : List Entry) → None ≡ at_key k es → ns ≡ es → joined ns ≡ local g k (joined es)
  nothing_changed ns found is = ap joined is ∙ sym (local_none g k es by_key.own by_key.ascend (sym found))

  pub nothing_but : (ns : List Entry) → ns ≡ es → AreByKeyBut k ns
  nothing_but ns is =
      subst (AreByKeyBut k) (sym is) (record { own = by_key.own; ascend = by_key.ascend; filled = filled_but k es by_key.filled })

  module _ (vs ws : List Version) (ns : List Entry) (found : Some vs ≡ at_key k es) (after : ws ≡ filter_map g vs)
      (is : ns ≡ set_value (is_at (key_cmp k)) es ws) where
    pub changed : joined ns ≡ local g k (joined es)
    changed =
        ap joined (is ∙ ap (set_value (is_at (key_cmp k)) es) after) ∙ sym (local_some g k es vs by_key.own by_key.ascend (sym found))

    changed_own : Keeps g → IsHistory ws → AreOwn ns
    changed_own keeps h =
        subst AreOwn (sym is)
        (own_set k es ws by_key.own
        (subst (λ xs. Each (Own k) xs) (sym after) (own_found g keeps k es vs by_key.own (sym found))) h)

    pub changed_by_key : Keeps g → IsHistory ws → Ascend ns → (IsFilled vs → IsFilled ws) → AreByKey ns
    changed_by_key keeps h a stays = record {
      own = changed_own keeps h;
      ascend = a;
      filled = subst AreFilled (sym is) (filled_set k es ws by_key.filled (stays (filled_found k es vs by_key.filled (sym found))));
    }

    pub changed_but : Keeps g → IsHistory ws → Ascend ns → AreByKeyBut k ns
    changed_but keeps h a = record {
      own = changed_own keeps h;
      ascend = a;
      filled = subst (AreFilledBut k) (sym is) (filled_but_set k es ws by_key.filled);
    }

pub over_there : (stamp : ℕ) (k j : KeyParts) (es : List Entry) (vs : List Version) → j ≡ k → AreByKey es
    → Each (IsOverAt stamp k) (joined es)
    → Some vs ≡ at_key j es → Each (IsOver stamp) vs
over_there stamp k j es vs key by_key h found = over_found stamp k es vs by_key.own h (sym (found ∙ ap (λ x. at_key x es) key))

module _ (v : Version) (k : KeyParts) (key : k ≡ v.entity.key) (es ns : List Entry) (vs ws : List Version) (by_key : AreByKey es)
    (found : Some vs ≡ at_key k es) (is : ns ≡ set_value (is_at (key_cmp k)) es ws) where
  at_own : ns ≡ set_value (is_at (key_cmp v.entity.key)) es ws
  at_own = is ∙ ap (λ x. set_value (is_at (key_cmp x)) es ws) key

  found_there : at_key v.entity.key es ≡ Some vs
  found_there = sym (found ∙ ap (λ x. at_key x es) key)

  pub begun_by_key : {A E : Type 0} (r : Result A E) → OnOk r (ws ≡ vs ++ v ∷ []) → OnErr r (ws ≡ vs) → OnOk r (IsHistory ws)
      → Ascend ns → AreByKey ns
  begun_by_key (Ok x) b u h a = record {
    own = subst AreOwn (sym at_own)
        (own_set v.entity.key es ws by_key.own
        (subst (λ xs. Each (Own v.entity.key) xs) (sym b) (own_begun v es vs by_key.own found_there)) h);
    ascend = a;
    filled = subst AreFilled (sym at_own) (filled_set v.entity.key es ws by_key.filled (subst IsFilled (sym b) (filled-push vs v)));
  }
  begun_by_key (Err e) b u h a = record {
    own = subst AreOwn (sym at_own)
        (own_set v.entity.key es ws by_key.own
        (subst (λ xs. Each (Own v.entity.key) xs) (sym u) (found_own v.entity.key es vs by_key.own found_there))
        (subst IsHistory (sym u) (found_history v.entity.key es vs by_key.own found_there)));
    ascend = a;
    filled = subst AreFilled (sym at_own)
        (filled_set v.entity.key es ws by_key.filled
        (subst IsFilled (sym u) (filled_found v.entity.key es vs by_key.filled found_there)));
  }

  pub begun_is : {A E : Type 0} (r : Result A E) → OnOk r (ws ≡ vs ++ v ∷ []) → OnOk r (joined ns ≡ with_version v (joined es))
  begun_is (Ok x) b =
      ap joined (at_own ∙ ap (set_value (is_at (key_cmp v.entity.key)) es) b)
      ∙ sym (begun_joined v es vs by_key.own by_key.ascend found_there)
  begun_is (Err e) b = tt

  pub unbegun_is : {A E : Type 0} (r : Result A E) → OnErr r (ws ≡ vs) → OnErr r (joined ns ≡ joined es)
  unbegun_is (Ok x) u = tt
  unbegun_is (Err e) u =
      ap joined (at_own ∙ (ap (set_value (is_at (key_cmp v.entity.key)) es) u
      ∙ set_value_same (is_at (key_cmp v.entity.key)) es vs found_there))

-- a list is made for the first version of a key
module _ (v : Version) (k : KeyParts) (key : k ≡ v.entity.key) (es ns : List Entry) (ws : List Version) (by_key : AreByKey es)
    (none : at_key v.entity.key es ≡ None) (first : ws ≡ v ∷ []) (is : ns ≡ insert_entry key_cmp es k ws) where
  inserted : ns ≡ insert_entry key_cmp es v.entity.key (v ∷ [])
  inserted = is ∙ (ap (λ x. insert_entry key_cmp es x ws) key ∙ ap (insert_entry key_cmp es v.entity.key) first)

  pub made_is : joined ns ≡ with_version v (joined es)
  made_is = ap joined inserted ∙ sym (begun_new v es by_key.own by_key.ascend none)

  pub made_by_key : v.until ≡ None → Ascend ns → AreByKey ns
  made_by_key u a = record {
    own = subst AreOwn (sym inserted)
        (own_insert v.entity.key es (v ∷ []) none (refl, tt) (subst (EndsFrom v.from) (sym u) tt, tt, tt) by_key.own);
    ascend = a;
    filled = subst AreFilled (sym inserted) (filled_insert v.entity.key es (v ∷ []) by_key.filled tt);
  }

-- a key without a version is taken out, or else has one
module _ (k : KeyParts) (es : List Entry) (by_key : AreByKeyBut k es) where
  pub kept_by_key : (at_key k es ≡ Some [] → ⊥) → AreByKey es
  kept_by_key has = record { own = by_key.own; ascend = by_key.ascend; filled = filled_kept k es by_key.ascend by_key.filled has }

  pub removed_by_key : (ns : List Entry) → ns ≡ remove_entry (is_at (key_cmp k)) es → Ascend ns → AreByKey ns
  removed_by_key ns is a = record {
    own = subst AreOwn (sym is) (own_remove k es by_key.own);
    ascend = a;
    filled = subst AreFilled (sym is) (filled_remove k es by_key.ascend by_key.filled);
  }

module _ (k : KeyParts) (es : List Entry) (by_key : AreByKey es) (o : Option (List Version)) (found : o ≡ at_key k es) (all : List Version)
    (view : joined es ≡ all) where
  pub current_there : option_map (λ (v : Version). v.entity) (find (λ v. is_open v.until) (listed o))
      ≡ option_map (λ (v : Version). v.entity) (find (is_current k) all)
  current_there =
      ap (option_map (λ (v : Version). v.entity))
      (ap (λ p. find (λ (v : Version). is_open v.until) (listed p)) found
      ∙ (sym (find_joined (λ v. is_open v.until) k es by_key.own by_key.ascend) ∙ ap (find (is_current k)) view))

  pub seen_there : (stamp : ℕ) → option_map (λ (v : Version). v.entity) (find (is_seen stamp) (listed o))
      ≡ find (λ (e : EntityParts). same_key e.key k) (entities_at stamp all)
  seen_there stamp =
      ap (λ p. option_map (λ (v : Version). v.entity) (find (is_seen stamp) (listed p))) found
      ∙ (sym (seen_joined stamp k es by_key.own by_key.ascend)
      ∙ ap (λ vs. find (λ (e : EntityParts). same_key e.key k) (entities_at stamp vs)) view)

-- ---- each of the three keeps the entities

pub end_keeps : (stamp : ℕ) → Keeps (λ v. Some (end_open stamp v))
end_keeps stamp v w e = by (is_open v.until) refl where
  by : (b : Bool) → is_open v.until ≡ b → w.entity ≡ v.entity
  by true o =
      let f : Some (until_stamp (Some stamp) v) ≡ Some w = rw o at e in
      let g : until_stamp (Some stamp) v ≡ w = cc in
      ap (λ (x : Version). x.entity) (sym g)
  by false o = let f : Some v ≡ Some w = rw o at e in let g : v ≡ w = cc in ap (λ (x : Version). x.entity) (sym g)

pub before_keeps : (stamp : ℕ) → Keeps (before_stamp stamp)
before_keeps stamp v w e = by (nat_eq v.from stamp) (ends_at stamp v.until) refl refl where
  by : (b c : Bool) → nat_eq v.from stamp ≡ b → ends_at stamp v.until ≡ c → w.entity ≡ v.entity
  by true c a o = let f : None ≡ Some w = rw a at e in cc
  by false true a o =
      let f : Some (until_stamp None v) ≡ Some w = rw (a, o) at e in
      let g : until_stamp None v ≡ w = cc in
      ap (λ (x : Version). x.entity) (sym g)
  by false false a o = let f : Some v ≡ Some w = rw (a, o) at e in let g : v ≡ w = cc in ap (λ (x : Version). x.entity) (sym g)

pub outliving_keeps : (floor : ℕ) → Keeps (outliving floor)
outliving_keeps floor v w e = by (outlives floor v) refl where
  by : (b : Bool) → outlives floor v ≡ b → w.entity ≡ v.entity
  by true o = let f : Some v ≡ Some w = rw o at e in let g : v ≡ w = cc in ap (λ (x : Version). x.entity) (sym g)
  by false o = let f : None ≡ Some w = rw o at e in cc
