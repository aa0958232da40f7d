-- Entities of distinct keys that were put in the order of their keys stand in the one such order.
use Rattle.std.proofs.Common.{◌≡◌, List, [], ◌∷◌, map, refl, ap, sym, ◌∙◌, Some}
use Rattle.std.specs.Prelude.{All}
use Rattle.std.specs.Cmp.{IsTotalOrder, on_total}
use Rattle.std.specs.List.Sorted.{IsSorted, IsPermutation}
use Rattle.std.specs.Ordering.{on}
use Rattle.std.specs.declared.cmp.Ordering.{Ordering}
use Rattle.std.proofs.lemmas.List.Elements.{All-nil, All-cons, All-head, All-tail}
use Rattle.std.proofs.lemmas.List.Sorted.{IsPermutation-map, IsPermutation-trans, IsPermutation-sym, All-permutation}
use Rattle.ds_base.specs.KeyOrder.{key_cmp}
use Rattle.ds_base.specs.KeyOrderLaws.{key_cmp-total, key_cmp-same}
use Rattle.ds_entity.specs.Entities.{EntityParts}
use Rattle.ds_base.specs.SortingLaws.{NoneBefore, Ascends, Ascends-from_IsSorted, IsSorted-from_Ascends, Ascends-sorted_by}
use Rattle.ds_base.specs.SortingLaws.{IsPermutation-sorted_by, same_sorted}
use Rattle.ds_model.specs.Results.{entity_of}
use Rattle.ds_applied.specs.ByKey.{entity_cmp, sorted_by_key, KeysDiffer}
use Rattle.ds_model.proofs.DistinctKeys.{AreFound, AreFound-all}

module _ {X K : Type 0} (f : X → K) (R : K → K → Ordering) where
  none_before-map : (x : X) (ys : List X) → NoneBefore (on f R) x ys → NoneBefore R (f x) (map f ys)
  none_before-map x [] p = tt
  none_before-map x (y ∷ ys) p = (p.0, none_before-map x ys p.1)

  ascends-map : (xs : List X) → Ascends (on f R) xs → Ascends R (map f xs)
  ascends-map [] p = tt
  ascends-map (x ∷ xs) p = (none_before-map x xs p.0, ascends-map xs p.1)

module _ (all : List EntityParts) where
  abbrev IsFound : EntityParts → Type 0
  IsFound e = entity_of all e.key ≡ Some e

  as_all : (es : List EntityParts) → AreFound all es → All IsFound es
  as_all [] p = All-nil IsFound
  as_all (e ∷ es) p = All-cons IsFound e es p.0 (as_all es p.1)

  equal_by_key : (es fs : List EntityParts) → All IsFound es → All IsFound fs
      → map (λ (e : EntityParts). e.key) es ≡ map (λ (e : EntityParts). e.key) fs → es ≡ fs
  equal_by_key [] [] p q is = refl
  equal_by_key [] (f ∷ fs) p q is = absurd (none is) where
    none : [] ≡ f.key ∷ map (λ (e : EntityParts). e.key) fs → ⊥
    none is = cc
  equal_by_key (e ∷ es) [] p q is = absurd (none is) where
    none : e.key ∷ map (λ (e : EntityParts). e.key) es ≡ [] → ⊥
    none is = cc
  equal_by_key (e ∷ es) (f ∷ fs) p q is =
      let key : e.key ≡ f.key = cc in
      let rest : map (λ (e : EntityParts). e.key) es ≡ map (λ (e : EntityParts). e.key) fs = cc in
      let found : Some e ≡ Some f = sym (All-head IsFound e es p) ∙ ap (entity_of all) key ∙ All-head IsFound f fs q in
      let same : e ≡ f = cc in
      ap (λ g. g ∷ es) same ∙ ap (λ gs. f ∷ gs) (equal_by_key es fs (All-tail IsFound e es p) (All-tail IsFound f fs q) rest)

entity_total : IsTotalOrder entity_cmp
entity_total = on_total (λ (e : EntityParts). e.key) key_cmp-total

-- the same entities, sorted
sorted_only : (es fs : List EntityParts) → IsPermutation es fs → Ascends entity_cmp fs → KeysDiffer es → fs ≡ sorted_by_key es
sorted_only es fs moved up differ =
    let sorted : List EntityParts = sorted_by_key es in
    let found : All (IsFound es) es = as_all es es (AreFound-all es differ) in
    let back : IsPermutation fs sorted =
    IsPermutation-trans fs es sorted (IsPermutation-sym es fs moved) (IsPermutation-sorted_by entity_cmp es) in
    equal_by_key es fs sorted
    (All-permutation (IsFound es) es fs moved found)
    (All-permutation (IsFound es) es sorted (IsPermutation-sorted_by entity_cmp es) found)
    (same_sorted key_cmp-total key_cmp-same (map (λ (e : EntityParts). e.key) fs) (map (λ (e : EntityParts). e.key) sorted)
    (IsSorted-from_Ascends key_cmp-total (map (λ (e : EntityParts). e.key) fs) (ascends-map (λ (e : EntityParts). e.key) key_cmp fs up))
    (IsSorted-from_Ascends key_cmp-total (map (λ (e : EntityParts). e.key) sorted)
    (ascends-map (λ (e : EntityParts). e.key) key_cmp sorted (Ascends-sorted_by entity_total es)))
    (IsPermutation-map (λ (e : EntityParts). e.key) fs sorted back))

-- and where they lie behind references
pub sorted_refs : {X : Type 0} (g : X → EntityParts) (old new : List X) → IsPermutation old new → IsSorted (on g entity_cmp) new
    → KeysDiffer (map g old) → map g new ≡ sorted_by_key (map g old)
sorted_refs g old new moved up differ =
    sorted_only (map g old) (map g new) (IsPermutation-map g old new moved)
    (ascends-map g entity_cmp new (Ascends-from_IsSorted (on_total g entity_total) new up)) differ
