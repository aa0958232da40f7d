-- Entities by key: the sorted list of the model, and the entries of the ordered map that holds it.
use Rattle.std.proofs.Common.{◌≡◌, List, [], ◌∷◌, refl, ap, sym, ◌∙◌, subst, Bool, true, false, cond, not, map}
use Rattle.std.specs.Prelude.{filter, ⊤}
use Rattle.std.specs.Cmp.{IsTotalOrder, on_total}
use Rattle.std.specs.declared.cmp.Ordering.{Ordering}
use Rattle.std.specs.declared.cmp.Ordering.TheVariants.{Less, Equal, Greater}
use Rattle.std.specs.Ordering.{is_eq, is_gt, ordering_reverse, match_ordering}
use Rattle.std.specs.BTreeMap.{insert_entry, is_at}
use Rattle.std.specs.Map.{remove_entry}
use Rattle.std.specs.List.Sorted.{IsStrictlySortedBy}
use Rattle.std.specs.List.{AllByRecursion}
use Rattle.ds_base.specs.Keys.{KeyParts}
use Rattle.ds_base.specs.KeyOrder.{key_cmp, same_key}
use Rattle.ds_base.specs.KeyOrderLaws.{key_cmp-total, key_cmp-same}
use Rattle.ds_entity.specs.Entities.{EntityParts}
use Rattle.ds_base.specs.Sorting.{insert_by}
use Rattle.ds_base.specs.SortingLaws.{NoneBefore, insert_by-front, sorted_by-filter, sorted_by-push}
use Rattle.ds_log.specs.declared.Write.TheVariants.{Put, Delete}
use Rattle.ds_log.specs.After.{apply_write, without}
use Rattle.ds_entity.specs.EntityOrder.{entity_cmp, sorted_by_key}
use Rattle.ds_applied.specs.ByKey.{keyed}

-- every entity of the list comes after k
abbrev pub AllAfter : KeyParts → List EntityParts → Type 0
AllAfter k [] = ⊤
AllAfter k (f ∷ fs) = (key_cmp k f.key ≡ Less) × AllAfter k fs

abbrev pub StrictlySorted : List EntityParts → Type 0
StrictlySorted [] = ⊤
StrictlySorted (f ∷ fs) = AllAfter f.key fs × StrictlySorted fs

total : IsTotalOrder entity_cmp
total = on_total (λ (e : EntityParts). e.key) key_cmp-total

-- to filter and to sort in either order is the same
pub sorted_by_key-filter : (p : EntityParts → Bool) (es : List EntityParts) → sorted_by_key (filter p es) ≡ filter p (sorted_by_key es)
sorted_by_key-filter p es = sorted_by-filter total p es

-- ---- the ordered map's entries

same_key-Less : (x y : KeyParts) → key_cmp x y ≡ Less → same_key y x ≡ false
same_key-Less x y is = ap is_eq (key_cmp-total.antisymm y x ∙ ap ordering_reverse is)

same_key-Greater : (x y : KeyParts) → key_cmp x y ≡ Greater → same_key y x ≡ false
same_key-Greater x y is = ap is_eq (key_cmp-total.antisymm y x ∙ ap ordering_reverse is)

same_key-Equal : (x y : KeyParts) → key_cmp x y ≡ Equal → same_key y x ≡ true
same_key-Equal x y is = ap is_eq (key_cmp-total.antisymm y x ∙ ap ordering_reverse is)

AllAfter-earlier : (k l : KeyParts) (fs : List EntityParts) → key_cmp k l ≡ Less → AllAfter l fs → AllAfter k fs
AllAfter-earlier k l [] less rest = tt
AllAfter-earlier k l (f ∷ fs) less rest = (key_cmp-total.trans k l f.key less rest.0, AllAfter-earlier k l fs less rest.1)

AllAfter-NoneBefore : (e : EntityParts) (fs : List EntityParts) → AllAfter e.key fs → NoneBefore entity_cmp e fs
AllAfter-NoneBefore e [] rest = tt
AllAfter-NoneBefore e (f ∷ fs) rest = (ap is_gt rest.0, AllAfter-NoneBefore e fs rest.1)

without-AllAfter : (k : KeyParts) (fs : List EntityParts) → AllAfter k fs → without k fs ≡ fs
without-AllAfter k [] rest = refl
without-AllAfter k (f ∷ fs) rest =
    ap (λ b. cond (not b) (f ∷ without k fs) (without k fs)) (same_key-Less k f.key rest.0)
    ∙ ap (λ gs. f ∷ gs) (without-AllAfter k fs rest.1)

AllAfter-Equal : (k l : KeyParts) (fs : List EntityParts) → key_cmp k l ≡ Equal → AllAfter l fs → AllAfter k fs
AllAfter-Equal k l fs equal = subst (λ m. AllAfter m fs) (sym (key_cmp-same k l equal))

-- the map's insertion is the model's
pub insert_entry-keyed : (e : EntityParts) (fs : List EntityParts) → StrictlySorted fs
    → insert_entry key_cmp (map keyed fs) e.key e ≡ map keyed (insert_by entity_cmp (without e.key fs) e)
insert_entry-keyed e [] sorted = refl
insert_entry-keyed e (f ∷ fs) sorted = placed (insert_entry-keyed e fs sorted.1) (key_cmp e.key f.key) refl where
  kept : same_key f.key e.key ≡ false → without e.key (f ∷ fs) ≡ f ∷ without e.key fs
  kept other = ap (λ b. cond (not b) (f ∷ without e.key fs) (without e.key fs)) other

  dropped : same_key f.key e.key ≡ true → without e.key (f ∷ fs) ≡ without e.key fs
  dropped same = ap (λ b. cond (not b) (f ∷ without e.key fs) (without e.key fs)) same

  placed : insert_entry key_cmp (map keyed fs) e.key e ≡ map keyed (insert_by entity_cmp (without e.key fs) e) → (r : Ordering)
      → key_cmp e.key f.key ≡ r
      → match_ordering r ((e.key, e) ∷ keyed f ∷ map keyed fs) ((f.key, e) ∷ map keyed fs)
      (keyed f ∷ insert_entry key_cmp (map keyed fs) e.key e) ≡ map keyed (insert_by entity_cmp (without e.key (f ∷ fs)) e)
  placed later Less is =
      ap (map keyed)
      (sym (ap (λ gs. insert_by entity_cmp gs e)
      (kept (same_key-Less e.key f.key is) ∙ ap (λ gs. f ∷ gs) (without-AllAfter e.key fs (AllAfter-earlier e.key f.key fs is sorted.0)))
      ∙ ap (λ r. match_ordering r (e ∷ f ∷ fs) (e ∷ f ∷ fs) (f ∷ insert_by entity_cmp fs e)) is))
  placed later Equal is =
      ap (λ k. (k, e) ∷ map keyed fs) (sym (key_cmp-same e.key f.key is))
      ∙ ap (map keyed)
      (sym (ap (λ gs. insert_by entity_cmp gs e)
      (dropped (same_key-Equal e.key f.key is) ∙ without-AllAfter e.key fs (AllAfter-Equal e.key f.key fs is sorted.0))
      ∙ insert_by-front total fs e (AllAfter-NoneBefore e fs (AllAfter-Equal e.key f.key fs is sorted.0))))
  placed later Greater is =
      ap (λ gs. keyed f ∷ gs) later
      ∙ ap (map keyed)
      (sym (ap (λ gs. insert_by entity_cmp gs e) (kept (same_key-Greater e.key f.key is))
      ∙ ap (λ r. match_ordering r (e ∷ f ∷ without e.key fs) (e ∷ f ∷ without e.key fs) (f ∷ insert_by entity_cmp (without e.key fs) e))
      is))

-- and so is its removal
pub remove_entry-keyed : (k : KeyParts) (fs : List EntityParts) → StrictlySorted fs
    → remove_entry (is_at (key_cmp k)) (map keyed fs) ≡ map keyed (without k fs)
remove_entry-keyed k [] sorted = refl
remove_entry-keyed k (f ∷ fs) sorted = placed (remove_entry-keyed k fs sorted.1) (key_cmp k f.key) refl where
  kept : remove_entry (is_at (key_cmp k)) (map keyed fs) ≡ map keyed (without k fs) → same_key f.key k ≡ false
      → keyed f ∷ remove_entry (is_at (key_cmp k)) (map keyed fs) ≡ map keyed (without k (f ∷ fs))
  kept later other = ap (λ gs. keyed f ∷ gs) later ∙ ap (map keyed) (sym (ap (λ b. cond (not b) (f ∷ without k fs) (without k fs)) other))

  placed : remove_entry (is_at (key_cmp k)) (map keyed fs) ≡ map keyed (without k fs) → (r : Ordering) → key_cmp k f.key ≡ r
      → cond (is_eq r) (map keyed fs) (keyed f ∷ remove_entry (is_at (key_cmp k)) (map keyed fs)) ≡ map keyed (without k (f ∷ fs))
  placed later Less is = kept later (same_key-Less k f.key is)
  placed later Equal is =
      ap (map keyed) (sym (ap (λ b. cond (not b) (f ∷ without k fs) (without k fs)) (same_key-Equal k f.key is) ∙ without-AllAfter k fs
      (AllAfter-Equal k f.key fs is sorted.0)))
  placed later Greater is = kept later (same_key-Greater k f.key is)

StrictlySorted-keys : (fs : List EntityParts) → IsStrictlySortedBy key_cmp (map (λ (x : KeyParts × EntityParts). x.0) (map keyed fs))
    → StrictlySorted fs
unfolding IsStrictlySortedBy
StrictlySorted-keys [] sorted = tt
StrictlySorted-keys (f ∷ fs) sorted = (after_all fs sorted.0, StrictlySorted-keys fs sorted.1) where
  after_all : (gs : List EntityParts)
      → AllByRecursion (λ k. key_cmp f.key k ≡ Less) (map (λ (x : KeyParts × EntityParts). x.0) (map keyed gs)) → AllAfter f.key gs
  after_all [] all = tt
  after_all (g ∷ gs) all = (all.0, after_all gs all.1)

-- a put, in the map and in the model
pub put-keyed : (es : List EntityParts) (e : EntityParts) (entries : List (KeyParts × EntityParts))
    → entries ≡ map keyed (sorted_by_key es) → IsStrictlySortedBy key_cmp (map (λ (x : KeyParts × EntityParts). x.0) entries)
    → insert_entry key_cmp entries e.key e ≡ map keyed (sorted_by_key (apply_write es (Put e)))
put-keyed es e entries is ordered =
    ap (λ xs. insert_entry key_cmp xs e.key e) is
    ∙ insert_entry-keyed e (sorted_by_key es)
    (StrictlySorted-keys (sorted_by_key es)
    (subst (λ xs. IsStrictlySortedBy key_cmp (map (λ (x : KeyParts × EntityParts). x.0) xs)) is ordered))
    ∙ ap (map keyed) (sym (sorted_by-push entity_cmp (without e.key es) e ∙ ap (λ gs. insert_by entity_cmp gs e)
    (sorted_by_key-filter (λ x. not (same_key x.key e.key)) es)))

-- a delete, in the map and in the model
pub delete-keyed : (es : List EntityParts) (k : KeyParts) (entries : List (KeyParts × EntityParts))
    → entries ≡ map keyed (sorted_by_key es) → IsStrictlySortedBy key_cmp (map (λ (x : KeyParts × EntityParts). x.0) entries)
    → remove_entry (is_at (key_cmp k)) entries ≡ map keyed (sorted_by_key (apply_write es (Delete k)))
delete-keyed es k entries is ordered =
    ap (remove_entry (is_at (key_cmp k))) is
    ∙ remove_entry-keyed k (sorted_by_key es)
    (StrictlySorted-keys (sorted_by_key es)
    (subst (λ xs. IsStrictlySortedBy key_cmp (map (λ (x : KeyParts × EntityParts). x.0) xs)) is ordered))
    ∙ ap (map keyed) (sym (sorted_by_key-filter (λ x. not (same_key x.key k)) es))
