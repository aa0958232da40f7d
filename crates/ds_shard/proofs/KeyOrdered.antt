-- The entries of a map in the order of their keys: what the map's calls leave of them.
use Rattle.std.proofs.Common.{◌≡◌, Bool, true, false, cond, List, [], ◌∷◌, Option, Some, None, refl, sym, ap, ◌∙◌, subst}
use Rattle.std.specs.Prelude.{IsSome}
use Rattle.std.specs.Map.{keys_of, lookup, set_value, remove_entry}
use Rattle.std.specs.BTreeMap.{insert_entry, is_at}
use Rattle.std.specs.Cmp.{eq_by_cmp_equiv}
use Rattle.std.specs.List.{IsDistinct}
use Rattle.std.specs.List.Sorted.{IsStrictlySortedBy}
use Rattle.std.specs.Ordering.{is_eq, match_ordering, ordering_reverse}
use Rattle.std.specs.declared.cmp.Ordering.{Ordering}
use Rattle.std.specs.declared.cmp.Ordering.TheVariants.{Less, Equal, Greater}
use Rattle.std.proofs.lemmas.Map.{lookup-set_value, lookup-remove_entry, keys-set_value}
use Rattle.std.proofs.lemmas.Map.Keys.{IsDistinct-from_sorted}
use Rattle.ds_base.specs.Keys.{KeyParts}
use Rattle.ds_base.specs.KeyOrder.{key_cmp, same_key}
use Rattle.ds_base.specs.KeyOrderLaws.{key_cmp-total, key_cmp-same}
use Rattle.ds_rows.specs.Versions.{Version}
use Rattle.ds_shard.specs.Histories.{AreByKey, in_key_order}
use Rattle.ds_shard.proofs.ByKey.{Entry, Ascend, Above, at_key, tied, turned, above-down, ascend_head, ascend_tail, none_above}

-- ---- an entry put in its place

above_inserted : (j k : KeyParts) (vs : List Version) (es : List Entry) → key_cmp j k ≡ Less → Above j es → Above j (insert_entry key_cmp es k vs)
above_inserted j k vs [] l h = (l, tt)
above_inserted j k vs (e ∷ es) l h = by (key_cmp k e.0) (above_inserted j k vs es l h.1) where
  by : (r : Ordering) → Above j (insert_entry key_cmp es k vs)
      → Above j (match_ordering r ((k, vs) ∷ e ∷ es) ((e.0, vs) ∷ es) (e ∷ insert_entry key_cmp es k vs))
  by Less i = (l, h)
  by Equal i = h
  by Greater i = (h.0, i)

ascend_inserted : (k : KeyParts) (vs : List Version) (es : List Entry) → Ascend es → Ascend (insert_entry key_cmp es k vs)
unfolding IsStrictlySortedBy
ascend_inserted k vs [] a = (tt, tt)
ascend_inserted k vs (e ∷ es) a = by (key_cmp k e.0) refl (ascend_inserted k vs es a.1) where
  by : (r : Ordering) → key_cmp k e.0 ≡ r → Ascend (insert_entry key_cmp es k vs)
      → Ascend (match_ordering r ((k, vs) ∷ e ∷ es) ((e.0, vs) ∷ es) (e ∷ insert_entry key_cmp es k vs))
  by Less c i = ((c, above-down k e.0 es c a.0), a)
  by Equal c i = a
  by Greater c i = (above_inserted e.0 k vs es (turned e.0 k ∙ ap ordering_reverse c) a.0, i)

found_inserted : (q k : KeyParts) (vs : List Version) (es : List Entry)
    → at_key q (insert_entry key_cmp es k vs) ≡ cond (same_key q k) (Some vs) (at_key q es)
found_inserted q k vs [] = refl
found_inserted q k vs (e ∷ es) = by (key_cmp k e.0) refl (found_inserted q k vs es) where
  over : (b : Bool) → cond b (Some vs) (at_key q es) ≡ cond b (Some vs) (cond b (Some e.1) (at_key q es))
  over true = refl
  over false = refl

  behind : (r : Ordering) → key_cmp k e.0 ≡ Greater → key_cmp q k ≡ r → (b : Bool) → same_key q e.0 ≡ b
      → cond b (Some e.1) (cond (is_eq r) (Some vs) (at_key q es)) ≡ cond (is_eq r) (Some vs) (cond b (Some e.1) (at_key q es))
  behind Less c s b t = refl
  behind Greater c s b t = refl
  behind Equal c s true t =
      let apart : same_key q e.0 ≡ false = ap (λ x. same_key x e.0) (key_cmp-same q k s) ∙ ap is_eq c in
      let no : true ≡ false = sym t ∙ apart in
      cc
  behind Equal c s false t = refl

  by : (r : Ordering) → key_cmp k e.0 ≡ r → at_key q (insert_entry key_cmp es k vs) ≡ cond (same_key q k) (Some vs) (at_key q es)
      → at_key q (match_ordering r ((k, vs) ∷ e ∷ es) ((e.0, vs) ∷ es) (e ∷ insert_entry key_cmp es k vs))
      ≡ cond (same_key q k) (Some vs) (at_key q (e ∷ es))
  by Less c i = refl
  by Equal c i =
      over (same_key q e.0)
      ∙ ap (λ x. cond (same_key q x) (Some vs) (at_key q (e ∷ es))) (sym (key_cmp-same k e.0 c))
  by Greater c i =
      ap (cond (same_key q e.0) (Some e.1)) i
      ∙ behind (key_cmp q k) c refl (same_key q e.0) refl

-- ---- an entry taken out

above_removed : (j k : KeyParts) (es : List Entry) → Above j es → Above j (remove_entry (is_at (key_cmp k)) es)
above_removed j k [] h = tt
above_removed j k (e ∷ es) h = by (same_key k e.0) (above_removed j k es h.1) where
  by : (b : Bool) → Above j (remove_entry (is_at (key_cmp k)) es) → Above j (cond b es (e ∷ remove_entry (is_at (key_cmp k)) es))
  by true i = h.1
  by false i = (h.0, i)

ascend_removed : (k : KeyParts) (es : List Entry) → Ascend es → Ascend (remove_entry (is_at (key_cmp k)) es)
unfolding IsStrictlySortedBy
ascend_removed k [] a = tt
ascend_removed k (e ∷ es) a = by (same_key k e.0) (ascend_removed k es a.1) where
  by : (b : Bool) → Ascend (remove_entry (is_at (key_cmp k)) es) → Ascend (cond b es (e ∷ remove_entry (is_at (key_cmp k)) es))
  by true i = a.1
  by false i = (above_removed e.0 k es a.0, i)

-- ---- all entries in order

ascend_in_order : (es : List Entry) → Ascend (in_key_order es)
unfolding IsStrictlySortedBy
ascend_in_order [] = tt
ascend_in_order (e ∷ es) = ascend_inserted e.0 e.1 (in_key_order es) (ascend_in_order es)

pub none_by_key : AreByKey (in_key_order [])
none_by_key = record { own = tt; ascend = ascend_in_order []; filled = tt }

pub found_in_order : (q : KeyParts) (es : List Entry) → at_key q (in_key_order es) ≡ at_key q es
found_in_order q [] = refl
found_in_order q (e ∷ es) = found_inserted q e.0 e.1 (in_key_order es) ∙ ap (cond (same_key q e.0) (Some e.1)) (found_in_order q es)

pub found_too : (q : KeyParts) (es : List Entry) (o : Option (List Version)) → o ≡ at_key q es → o ≡ at_key q (in_key_order es)
found_too q es o found = found ∙ sym (found_in_order q es)

-- ---- lists in order that look up the same are equal

no_value : (vs : List Version) → None ≡ Some vs → ⊥
no_value vs e = cc

same_value : (vs ws : List Version) → Some vs ≡ Some ws → vs ≡ ws
same_value vs ws e = cc

at_head : (e : Entry) (es : List Entry) → at_key e.0 (e ∷ es) ≡ Some e.1
at_head e es = rw (tied e.0) refl

below_head : (q : KeyParts) (e : Entry) (es : List Entry) → Ascend (e ∷ es) → key_cmp q e.0 ≡ Less → Above q (e ∷ es)
below_head q e es a c = (c, above-down q e.0 es c (ascend_head e es a))

above_same : (q : KeyParts) (e : Entry) (es : List Entry) → Ascend (e ∷ es) → key_cmp q e.0 ≡ Equal → Above q es
above_same q e es a c = subst (λ k. Above k es) (sym (key_cmp-same q e.0 c)) (ascend_head e es a)

-- look-ups behind the first entries are the same where all look-ups are
same_behind : (x y : Entry) (xs ys : List Entry) → Ascend (x ∷ xs) → Ascend (y ∷ ys) → x.0 ≡ y.0 → (q : KeyParts)
    → at_key q (x ∷ xs) ≡ at_key q (y ∷ ys) → at_key q xs ≡ at_key q ys
same_behind x y xs ys a b key q h = by (key_cmp q x.0) refl where
  by : (r : Ordering) → key_cmp q x.0 ≡ r → at_key q xs ≡ at_key q ys
  by Less c =
      let d : key_cmp q y.0 ≡ Less = ap (key_cmp q) (sym key) ∙ c in
      none_above q xs (below_head q x xs a c).1 ∙ sym (none_above q ys (below_head q y ys b d).1)
  by Equal c =
      let d : key_cmp q y.0 ≡ Equal = ap (key_cmp q) (sym key) ∙ c in
      none_above q xs (above_same q x xs a c) ∙ sym (none_above q ys (above_same q y ys b d))
  by Greater c =
      let d : key_cmp q y.0 ≡ Greater = ap (key_cmp q) (sym key) ∙ c in
      let rest : at_key q xs ≡ at_key q ys = rw (c, d) at h in
      rest

alike : (xs ys : List Entry) → Ascend xs → Ascend ys → ((q : KeyParts) → at_key q xs ≡ at_key q ys) → xs ≡ ys
alike [] [] a b h = refl
alike [] (y ∷ ys) a b h = absurd (no_value y.1 (h y.0 ∙ at_head y ys))
alike (x ∷ xs) [] a b h = absurd (no_value x.1 (sym (h x.0) ∙ at_head x xs))
alike (x ∷ xs) (y ∷ ys) a b h = by (key_cmp x.0 y.0) refl (alike xs ys (ascend_tail x xs a) (ascend_tail y ys b)) where
  by : (r : Ordering) → key_cmp x.0 y.0 ≡ r → (((q : KeyParts) → at_key q xs ≡ at_key q ys) → xs ≡ ys) → x ∷ xs ≡ y ∷ ys
  by Less c later =
      absurd (no_value x.1 (sym (none_above x.0 (y ∷ ys) (below_head x.0 y ys b c)) ∙ sym (h x.0) ∙ at_head x xs))
  by Equal c later =
      let key : x.0 ≡ y.0 = key_cmp-same x.0 y.0 c in
      let value : x.1 ≡ y.1 = same_value x.1 y.1 (sym (at_head x xs) ∙ h x.0 ∙ ap (λ k. at_key k (y ∷ ys)) key ∙ at_head y ys) in
      let rest : xs ≡ ys = later (λ q. same_behind x y xs ys a b key q (h q)) in
      λ t. (key t, value t) ∷ rest t
  by Greater c later =
      let d : key_cmp y.0 x.0 ≡ Less = turned y.0 x.0 ∙ ap ordering_reverse c in
      absurd (no_value y.1 (sym (none_above y.0 (x ∷ xs) (below_head y.0 x xs a d)) ∙ h y.0 ∙ at_head y ys))

-- ---- what each call of the map leaves

of_one : (k x y : KeyParts) → same_key k x ≡ true → same_key k y ≡ same_key x y
of_one k x y e = (eq_by_cmp_equiv key_cmp-total).congr k x y e

found_either : (k q : KeyParts) (es : List Entry) (w : Option (List Version))
    → cond (same_key k q) w (at_key q es) ≡ cond (same_key k q) w (at_key q (in_key_order es))
found_either k q es w = ap (cond (same_key k q) w) (sym (found_in_order q es))

module _ (k : KeyParts) (es ns : List Entry) where
  pub set_in_order : (vs ws : List Version) → Some vs ≡ at_key k es → ns ≡ set_value (same_key k) es ws
      → in_key_order ns ≡ set_value (is_at (key_cmp k)) (in_key_order es) ws
  set_in_order vs ws found is =
      let there : IsSome (at_key k es) = subst IsSome found refl in
      let there_too : IsSome (at_key k (in_key_order es)) = subst IsSome (found ∙ sym (found_in_order k es)) refl in
      let laws = eq_by_cmp_equiv key_cmp-total in
      alike (in_key_order ns) (set_value (is_at (key_cmp k)) (in_key_order es) ws) (ascend_in_order ns)
      (subst (IsStrictlySortedBy key_cmp) (sym (keys-set_value (same_key k) (in_key_order es) ws)) (ascend_in_order es))
      (λ q. found_in_order q ns
      ∙ ap (at_key q) is
      ∙ lookup-set_value laws (same_key k) (of_one k) q ws es there
      ∙ found_either k q es (Some ws)
      ∙ sym (lookup-set_value laws (same_key k) (of_one k) q ws (in_key_order es) there_too))

  pub set_ascends : (ws : List Version) → ns ≡ set_value (same_key k) es ws → Ascend (in_key_order ns)
  set_ascends ws is = ascend_in_order ns

  pub inserted_in_order : (ws : List Version) → ((q : KeyParts) → at_key q ns ≡ cond (same_key k q) (Some ws) (at_key q es))
      → in_key_order ns ≡ insert_entry key_cmp (in_key_order es) k ws
  inserted_in_order ws is =
      alike (in_key_order ns) (insert_entry key_cmp (in_key_order es) k ws) (ascend_in_order ns)
      (ascend_inserted k ws (in_key_order es) (ascend_in_order es))
      (λ q. found_in_order q ns
      ∙ is q
      ∙ found_either k q es (Some ws)
      ∙ ap (λ b. cond b (Some ws) (at_key q (in_key_order es))) ((eq_by_cmp_equiv key_cmp-total).symm k q)
      ∙ sym (found_inserted q k ws (in_key_order es)))

  pub inserted_ascends : (ws : List Version) → ((q : KeyParts) → at_key q ns ≡ cond (same_key k q) (Some ws) (at_key q es))
      → Ascend (in_key_order ns)
  inserted_ascends ws is = ascend_in_order ns

  pub removed_in_order : ((q : KeyParts) → at_key q ns ≡ cond (same_key k q) None (at_key q es))
      → in_key_order ns ≡ remove_entry (is_at (key_cmp k)) (in_key_order es)
  removed_in_order is =
      let laws = eq_by_cmp_equiv key_cmp-total in
      alike (in_key_order ns) (remove_entry (is_at (key_cmp k)) (in_key_order es)) (ascend_in_order ns)
      (ascend_removed k (in_key_order es) (ascend_in_order es))
      (λ q. found_in_order q ns
      ∙ is q
      ∙ found_either k q es None
      ∙ sym (lookup-remove_entry laws (same_key k) (of_one k) q (in_key_order es)
      (IsDistinct-from_sorted key_cmp (keys_of (in_key_order es)) (ascend_in_order es))))

  pub removed_ascends : ((q : KeyParts) → at_key q ns ≡ cond (same_key k q) None (at_key q es)) → Ascend (in_key_order ns)
  removed_ascends is = ascend_in_order ns
