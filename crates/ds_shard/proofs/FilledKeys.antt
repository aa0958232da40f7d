-- No key stays without a version.
use Rattle.std.proofs.Common.{◌≡◌, Bool, true, false, cond, List, [], ◌∷◌, ◌++◌, map, Some, refl, sym, ap, ◌∙◌, subst}
use Rattle.std.specs.Map.{set_value, remove_entry}
use Rattle.std.specs.BTreeMap.{insert_entry, is_at}
use Rattle.std.specs.Ordering.{is_eq}
use Rattle.std.specs.declared.cmp.Ordering.{Ordering}
use Rattle.std.specs.declared.cmp.Ordering.TheVariants.{Less, Equal, Greater}
use Rattle.ds_base.specs.Keys.{KeyParts}
use Rattle.ds_base.specs.KeyOrder.{key_cmp, same_key}
use Rattle.ds_base.specs.KeyOrderLaws.{key_cmp-same}
use Rattle.ds_rows.specs.Versions.{Version}
use Rattle.ds_shard.specs.Histories.{IsFilled, AreFilled, AreFilledBut}
use Rattle.ds_shard.proofs.ByKey.{Entry, Ascend, Above, at_key, ascend_head, ascend_tail}

pub filled-push : (vs : List Version) (v : Version) → IsFilled (vs ++ v ∷ [])
filled-push [] v = tt
filled-push (w ∷ ws) v = tt

pub filled-map : (f : Version → Version) (vs : List Version) → IsFilled vs → IsFilled (map f vs)
filled-map f [] h = h
filled-map f (v ∷ vs) h = tt

pub filled_set : (k : KeyParts) (es : List Entry) (ws : List Version) → AreFilled es → IsFilled ws → AreFilled (set_value (is_at (key_cmp k)) es ws)
filled_set k [] ws h f = tt
filled_set k (e ∷ es) ws h f = by (is_at (key_cmp k) e.0) (filled_set k es ws h.1 f) where
  by : (b : Bool) → AreFilled (set_value (is_at (key_cmp k)) es ws) → AreFilled (cond b ((e.0, ws) ∷ es) (e ∷ set_value (is_at (key_cmp k)) es ws))
  by true i = (f, h.1)
  by false i = (h.0, i)

pub filled_but : (k : KeyParts) (es : List Entry) → AreFilled es → AreFilledBut k es
filled_but k [] h = tt
filled_but k (e ∷ es) h = (λ other. h.0, filled_but k es h.1)

pub filled_but_set : (k : KeyParts) (es : List Entry) (ws : List Version) → AreFilled es → AreFilledBut k (set_value (is_at (key_cmp k)) es ws)
filled_but_set k [] ws h = tt
filled_but_set k (e ∷ es) ws h = by (same_key k e.0) refl (filled_but_set k es ws h.1) where
  by : (b : Bool) → same_key k e.0 ≡ b → AreFilledBut k (set_value (is_at (key_cmp k)) es ws)
      → AreFilledBut k (cond b ((e.0, ws) ∷ es) (e ∷ set_value (is_at (key_cmp k)) es ws))
  by true is i = ((λ other. let t : true ≡ false = sym is ∙ other in absurd (unlike t)), filled_but k es h.1) where
    unlike : true ≡ false → ⊥
    unlike e = cc
  by false is i = (λ other. h.0, i)

pub filled_found : (k : KeyParts) (es : List Entry) (vs : List Version) → AreFilled es → at_key k es ≡ Some vs → IsFilled vs
filled_found k [] vs h s = cc
filled_found k (e ∷ es) vs h s = by (same_key k e.0) s (filled_found k es vs h.1) where
  by : (b : Bool) → cond b (Some e.1) (at_key k es) ≡ Some vs → (at_key k es ≡ Some vs → IsFilled vs) → IsFilled vs
  by true f i = let is : e.1 ≡ vs = cc in subst IsFilled is h.0
  by false f i = i f

pub filled_insert : (k : KeyParts) (es : List Entry) (ws : List Version) → AreFilled es → IsFilled ws → AreFilled (insert_entry key_cmp es k ws)
filled_insert k [] ws h f = (f, tt)
filled_insert k (e ∷ es) ws h f = by (key_cmp k e.0) refl (filled_insert k es ws h.1 f) where
  by : (r : Ordering) → key_cmp k e.0 ≡ r → AreFilled (insert_entry key_cmp es k ws) → AreFilled (insert_entry key_cmp (e ∷ es) k ws)
  by Less c i = rw c (f, h)
  by Equal c i = rw c (f, h.1)
  by Greater c i = rw c (h.0, i)

filled_above : (k : KeyParts) (es : List Entry) → Above k es → AreFilledBut k es → AreFilled es
filled_above k [] a h = tt
filled_above k (e ∷ es) a h = (h.0 (ap is_eq a.0), filled_above k es a.1 h.1)

behind : (k : KeyParts) (e : Entry) (es : List Entry) → key_cmp k e.0 ≡ Equal → Ascend (e ∷ es) → AreFilledBut k es → AreFilled es
behind k e es c a h = filled_above k es (subst (λ x. Above x es) (sym (key_cmp-same k e.0 c)) (ascend_head e es a)) h

pub filled_remove : (k : KeyParts) (es : List Entry) → Ascend es → AreFilledBut k es → AreFilled (remove_entry (is_at (key_cmp k)) es)
filled_remove k [] a h = tt
filled_remove k (e ∷ es) a h = by (key_cmp k e.0) refl (filled_remove k es (ascend_tail e es a) h.1) where
  by : (r : Ordering) → key_cmp k e.0 ≡ r → AreFilled (remove_entry (is_at (key_cmp k)) es) → AreFilled (remove_entry (is_at (key_cmp k)) (e ∷ es))
  by Less c i = rw c (h.0 (ap is_eq c), i)
  by Equal c i = rw c (behind k e es c a h.1)
  by Greater c i = rw c (h.0 (ap is_eq c), i)

some_there : (vs : List Version) → (Some vs ≡ Some [] → ⊥) → IsFilled vs
some_there [] h = h refl
some_there (v ∷ vs) h = tt

pub filled_kept : (k : KeyParts) (es : List Entry) → Ascend es → AreFilledBut k es → (at_key k es ≡ Some [] → ⊥) → AreFilled es
filled_kept k [] a h has = tt
filled_kept k (e ∷ es) a h has = by (key_cmp k e.0) refl (filled_kept k es (ascend_tail e es a) h.1) where
  by : (r : Ordering) → key_cmp k e.0 ≡ r → ((at_key k es ≡ Some [] → ⊥) → AreFilled es) → AreFilled (e ∷ es)
  by Less c i = (h.0 (ap is_eq c), i (λ s. has (rw c s)))
  by Equal c i = (some_there e.1 (λ s. has (rw c s)), behind k e es c a h.1)
  by Greater c i = (h.0 (ap is_eq c), i (λ s. has (rw c s)))
