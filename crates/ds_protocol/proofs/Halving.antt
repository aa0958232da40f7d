-- An entity found by its key among entities in the order of their keys.
use Rattle.ds_protocol.proofs.Words.{◌≡◌, ℕ, zero, suc, ◌<◌, ◌≤◌, Bool, true, false, List, [], ◌∷◌, length, map, get_or, Some, None, Bor}
use Rattle.ds_protocol.proofs.Words.{refl, ap, sym, ◌∙◌, arith, inl, inr, length-map, get_or-map, same_key, EntityParts}
use Rattle.std.specs.Prelude.{find}
use Rattle.std.specs.Ordering.{is_lt, is_eq, ordering_index}
use Rattle.std.specs.declared.cmp.Ordering.{Ordering}
use Rattle.std.specs.List.Sorted.{IsNonDecreasingBy, IsPartitionedBy, IsPartitionPoint}
use Rattle.std.proofs.lemmas.Bool.{cases_lt}
use Rattle.std.proofs.lemmas.Cmp.{is_lt_index, is_eq_index}
use Rattle.std.proofs.lemmas.List.Sorted.{searchable_from_sorted}
use Rattle.ds_base.specs.Keys.{KeyParts}
use Rattle.ds_base.specs.KeyOrder.{key_cmp}
use Rattle.ds_base.specs.KeyOrderLaws.{key_cmp-total}
use Rattle.ds_model.specs.Results.{entity_of}
use Rattle.ds_protocol.specs.Finishing.{AreByKey, IsPlaceOf}

-- ---- answers of the order

lower : (r s : Ordering) → ordering_index r ≤ ordering_index s → is_lt s ≡ true → is_lt r ≡ true
lower r s below less = grind (arith, is_lt_index)

lower_differs : (r : Ordering) → is_lt r ≡ true → is_eq r ≡ false
lower_differs r less = grind (arith, is_lt_index, is_eq_index)

higher_differs : (r s : Ordering) → ordering_index r ≤ ordering_index s → is_lt r ≡ false → is_eq r ≡ false → is_eq s ≡ false
higher_differs r s below less same = grind (arith, is_lt_index, is_eq_index)

-- ---- the first that passes

found_first : (p : EntityParts → Bool) (es : List EntityParts) (place : ℕ) (d : EntityParts) → place < length es
    → ((j : ℕ) → j < place → p (get_or es j d) ≡ false) → p (get_or es place d) ≡ true → find p es ≡ Some (get_or es place d)
found_first p [] place d within none is = absurd (omega arith)
found_first p (e ∷ es) zero d within none is = rw is
found_first p (e ∷ es) (suc place) d within none is =
    rw (none 0 (omega arith)) (found_first p es place d (omega arith) (λ j low. none (suc j) (omega arith)) is)

found_nowhere : (p : EntityParts → Bool) (es : List EntityParts) → ((j : ℕ) (d : EntityParts) → j < length es → p (get_or es j d) ≡ false)
    → find p es ≡ None
found_nowhere p [] none = refl
found_nowhere p (e ∷ es) none = rw (none 0 e (omega arith)) (found_nowhere p es (λ j d within. none (suc j) d (omega arith)))

-- ---- entities by key

module _ (es : List (Bor EntityParts)) (k : KeyParts) where
  -- as they stand behind the references
  abbrev entities : List EntityParts
  entities = map (λ (e : Bor EntityParts). e.now) es

  -- its key comes before this one
  abbrev pub is_before : Bor EntityParts → Bool
  is_before e = is_lt (key_cmp e.now.key k)

  -- is it this one?
  abbrev has_key : EntityParts → Bool
  has_key e = same_key e.key k

  all : length entities ≡ length es
  all = length-map es (λ (e : Bor EntityParts). e.now)

  item : (j : ℕ) (d : Bor EntityParts) (e : EntityParts) → j < length es → get_or entities j e ≡ (get_or es j d).now
  item j d e within = get_or-map (λ (e : Bor EntityParts). e.now) es j d e within

  rises : AreByKey entities → IsNonDecreasingBy (λ (e : EntityParts). ordering_index (key_cmp e.key k)) entities
  rises sorted = searchable_from_sorted key_cmp-total (λ (e : EntityParts). e.key) entities k sorted

  -- ---- the place

  pub parted : AreByKey entities → IsPartitionedBy is_before es
  parted sorted i j d low within less =
      let here = rises sorted i j d.now low (omega (arith, all, within)) in
      let below : ordering_index (key_cmp (get_or es i d).now.key k) ≤ ordering_index (key_cmp (get_or es j d).now.key k) =
      rw (item i d d.now (omega arith), item j d d.now within) at here in
      lower (key_cmp (get_or es i d).now.key k) (key_cmp (get_or es j d).now.key k) below less

  pub place_is : (place : ℕ) → place ≤ length es → IsPartitionPoint (λ e. is_before e ≡ true) (λ e. is_before e ≡ false) es place
      → IsPlaceOf entities k place
  place_is place within point =
      let held : EntityParts → Bor EntityParts = λ d. record { ref_ptr = (0, 0); now = d } in
      record {
        within = omega (arith, all);
        before = λ j d low. rw (item j (held d) d (omega arith)) (point.0 j (held d) (omega arith) low);
        behind = λ j d high inside.
            let low : j < length es = omega (arith, all, inside) in
            rw (item j (held d) d low) (point.1 j (held d) high low);
      }

  -- ---- what stands there

  -- the entity at the place, where it has the key
  pub entity_at : (place : ℕ) (e : Bor EntityParts) → IsPlaceOf entities k place → place < length es → e ≡ get_or es place e
      → has_key e.now ≡ true → Some e.now ≡ entity_of entities k
  entity_at place e is within stands same =
      let here : get_or entities place e.now ≡ e.now = item place e e.now within ∙ ap (λ (x : Bor EntityParts). x.now) (sym stands) in
      sym (found_first has_key entities place e.now (omega (arith, all, within))
      (λ j low. lower_differs (key_cmp (get_or entities j e.now).key k) (is.before j e.now low)) (ap has_key here ∙ same)
      ∙ ap (λ (x : EntityParts). Some x) here)

  -- none, where it has another key
  pub no_entity_at : (place : ℕ) → AreByKey entities → IsPlaceOf entities k place
      → ((d : EntityParts) → place < length entities → has_key (get_or entities place d) ≡ false) → None ≡ entity_of entities k
  no_entity_at place sorted is differs = sym (found_nowhere has_key entities (λ j d within. elim (cases_lt j place) [
    | inl low ↦ lower_differs (key_cmp (get_or entities j d).key k) (is.before j d low)
    | inr high ↦
        let at : place < length entities = omega arith in
        higher_differs (key_cmp (get_or entities place d).key k) (key_cmp (get_or entities j d).key k)
        (rises sorted place j d high within) (is.behind place d (omega arith) at) (differs d at)
  ]))
