-- A map of entities, each beside its own key.
use Rattle.std.proofs.Common.{◌≡◌, List, [], ◌∷◌, refl, ap, sym, ◌∙◌, subst, Bool, true, false, cond, map}
use Rattle.std.specs.Prelude.{OnOk, OnErr, Result, Ok, Err}
use Rattle.std.specs.declared.alloc.AllocError.{AllocError}
use Rattle.std.specs.declared.cmp.Ordering.{Ordering}
use Rattle.std.specs.declared.cmp.Ordering.TheVariants.{Less, Equal, Greater}
use Rattle.std.specs.Ordering.{is_eq, match_ordering}
use Rattle.std.specs.BTreeMap.{insert_entry, is_at}
use Rattle.std.specs.Map.{remove_entry}
use Rattle.std.specs.List.Sorted.{IsStrictlySortedBy}
use Rattle.ds_base.specs.Keys.{KeyParts}
use Rattle.ds_base.specs.KeyOrder.{key_cmp}
use Rattle.ds_base.specs.KeyOrderLaws.{key_cmp-same}
use Rattle.ds_entity.specs.Entities.{EntityParts}
use Rattle.ds_log.specs.declared.Write.{Write}
use Rattle.ds_log.specs.declared.Write.TheVariants.{Put, Delete}
use Rattle.ds_log.specs.After.{apply_write}
use Rattle.ds_applied.specs.ByKey.{keyed, entities_in}
use Rattle.ds_entity.specs.EntityOrder.{sorted_by_key}
use Rattle.ds_applied.proofs.Sorted.{put-keyed, delete-keyed}

pub entities-keyed : (es : List EntityParts) → entities_in (map keyed es) ≡ es
entities-keyed [] = refl
entities-keyed (e ∷ es) = ap (λ fs. e ∷ fs) (entities-keyed es)

-- each entity stands beside its own key
abbrev pub IsKeyed : List (KeyParts × EntityParts) → Type 0
IsKeyed xs = xs ≡ map keyed (entities_in xs)

of_entities : (xs : List (KeyParts × EntityParts)) (es : List EntityParts) → xs ≡ map keyed es → IsKeyed xs
of_entities xs es is = is ∙ ap (map keyed) (sym (entities-keyed es) ∙ ap entities_in (sym is))

inserted : (es : List EntityParts) (e : EntityParts)
    → (fs : List EntityParts) × (insert_entry key_cmp (map keyed es) e.key e ≡ map keyed fs)
inserted [] e = (e ∷ [], refl)
inserted (f ∷ es) e = by (key_cmp e.key f.key) refl (inserted es e) where
  by : (r : Ordering) → key_cmp e.key f.key ≡ r → (fs : List EntityParts) × (insert_entry key_cmp (map keyed es) e.key e ≡ map keyed fs)
      → (fs : List EntityParts) × (match_ordering r ((e.key, e) ∷ keyed f ∷ map keyed es) ((f.key, e) ∷ map keyed es)
      (keyed f ∷ insert_entry key_cmp (map keyed es) e.key e) ≡ map keyed fs)
  by Less is rest = (e ∷ f ∷ es, refl)
  by Equal is rest = (e ∷ es, ap (λ k. (k, e) ∷ map keyed es) (sym (key_cmp-same e.key f.key is)))
  by Greater is rest = (f ∷ rest.0, ap (λ xs. keyed f ∷ xs) rest.1)

removed : (es : List EntityParts) (k : KeyParts)
    → (fs : List EntityParts) × (remove_entry (is_at (key_cmp k)) (map keyed es) ≡ map keyed fs)
removed [] k = ([], refl)
removed (f ∷ es) k = by (is_eq (key_cmp k f.key)) (removed es k) where
  by : (b : Bool) → (fs : List EntityParts) × (remove_entry (is_at (key_cmp k)) (map keyed es) ≡ map keyed fs)
      → (fs : List EntityParts) × (cond b (map keyed es) (keyed f ∷ remove_entry (is_at (key_cmp k)) (map keyed es)) ≡ map keyed fs)
  by true rest = (es, refl)
  by false rest = (f ∷ rest.0, ap (λ xs. keyed f ∷ xs) rest.1)

module _ (old new : List (KeyParts × EntityParts)) (was : IsKeyed old) where
  pub keyed_put : (e : EntityParts) (r : Result (Unit {0}) AllocError) → OnOk r (new ≡ insert_entry key_cmp old e.key e)
      → OnErr r (new ≡ old) → IsKeyed new
  keyed_put e (Ok x) ok err =
      let next = inserted (entities_in old) e in
      of_entities new next.0 (ok ∙ ap (λ xs. insert_entry key_cmp xs e.key e) was ∙ next.1)
  keyed_put e (Err x) ok err = subst IsKeyed (sym err) was

  pub keyed_delete : (k : KeyParts) → new ≡ remove_entry (is_at (key_cmp k)) old → IsKeyed new
  keyed_delete k gone =
      let next = removed (entities_in old) k in
      of_entities new next.0 (gone ∙ ap (remove_entry (is_at (key_cmp k))) was ∙ next.1)

  -- the map's entities after a put and after a delete are the model's
  module _ (now : List EntityParts) (view : entities_in old ≡ now) where
    entries_are : (es : List EntityParts) → now ≡ sorted_by_key es → old ≡ map keyed (sorted_by_key es)
    entries_are es is = was ∙ ap (map keyed) (view ∙ is)

    pub put_applied : (e : EntityParts) (w : Write) (r : Result (Unit {0}) AllocError) → w ≡ Put e
        → OnOk r (new ≡ insert_entry key_cmp old e.key e)
        → OnOk r (IsStrictlySortedBy key_cmp (map (λ (x : KeyParts × EntityParts). x.0) old))
        → OnOk r ((es : List EntityParts) → now ≡ sorted_by_key es → entities_in new ≡ sorted_by_key (apply_write es w))
    put_applied e w (Ok x) is put ordered = λ es before.
        ap entities_in (put ∙ put-keyed es e old (entries_are es before) ordered)
        ∙ entities-keyed (sorted_by_key (apply_write es (Put e)))
        ∙ ap (λ v. sorted_by_key (apply_write es v)) (sym is)
    put_applied e w (Err x) is put ordered = tt

    pub delete_applied : (k : KeyParts) (w : Write) → w ≡ Delete k → new ≡ remove_entry (is_at (key_cmp k)) old
        → IsStrictlySortedBy key_cmp (map (λ (x : KeyParts × EntityParts). x.0) old)
        → (es : List EntityParts) → now ≡ sorted_by_key es → entities_in new ≡ sorted_by_key (apply_write es w)
    delete_applied k w is gone ordered es before =
        ap entities_in (gone ∙ delete-keyed es k old (entries_are es before) ordered)
        ∙ entities-keyed (sorted_by_key (apply_write es (Delete k)))
        ∙ ap (λ v. sorted_by_key (apply_write es v)) (sym is)
