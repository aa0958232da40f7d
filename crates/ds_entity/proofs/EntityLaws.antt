-- What a new last id keeps of an entity.
use Rattle.std.proofs.Common.{◌≡◌, ℕ, ◌+◌, ◌≤◌, List, [], ◌∷◌, length, refl, ap, sym, ◌∙◌, true}
use Rattle.std.proofs.lemmas.List.Sums.{sum_by-cons}
use Rattle.std.specs.Prelude.{sum_by, not, position}
use Rattle.ds_base.specs.declared.key.Ident.{Ident}
use Rattle.ds_base.specs.declared.key.Ident.TheVariants.{Id, Name}
use Rattle.ds_base.specs.declared.key.Elem.{Elem}
use Rattle.ds_base.specs.Limits.{greatest_id}
use Rattle.ds_base.specs.Keys.{KeyParts, is_writable, ends_in_id, with_last_id, renumbered}
use Rattle.ds_base.proofs.KeyLaws.{reserved-with_last_id, is_key-renumbered}
use Rattle.ds_entity.specs.Entities.{elem_size, entity_size, entity_refusal, IsEntity, property_size, refusal_by, is_faulty_property}
use Rattle.ds_entity.specs.declared.entity.Property.{Property}

pub sizes-with_last_id : (es : List Elem) (id : ℕ) → ends_in_id es ≡ true → sum_by elem_size (with_last_id es id) ≡ sum_by elem_size es
sizes-with_last_id [] id ends = refl
sizes-with_last_id (e ∷ []) id ends = last e.ident refl ends where
  last : (i : Ident) → e.ident ≡ i → ends_in_id (e ∷ []) ≡ true → sum_by elem_size (with_last_id (e ∷ []) id) ≡ sum_by elem_size (e ∷ [])
  last (Id n) is ends = rw is
  last (Name x) is ends = cc
sizes-with_last_id (e ∷ f ∷ es) id ends =
    sum_by-cons elem_size e (with_last_id (f ∷ es) id) ∙ ap (λ n. elem_size e + n) (sizes-with_last_id (f ∷ es) id ends) ∙ sym (sum_by-cons elem_size e (f ∷ es))

pub entity_refusal-renumbered : (k : KeyParts) (ps : List Property) (id : ℕ) → ends_in_id k.elems ≡ true → entity_refusal (renumbered k id) ps ≡ entity_refusal k ps
entity_refusal-renumbered k ps id ends =
    ap (λ writable. refusal_by writable (position is_faulty_property ps) (entity_size (renumbered k id) ps)) (ap not (reserved-with_last_id k.elems id ends))
    ∙ ap (λ size. refusal_by (is_writable k) (position is_faulty_property ps) (length k.namespace + size + sum_by property_size ps)) (sizes-with_last_id k.elems id ends)

pub IsEntity-renumbered : (k : KeyParts) (ps : List Property) (id : ℕ) → ends_in_id k.elems ≡ true → 1 ≤ id → id ≤ greatest_id → IsEntity k ps → IsEntity (renumbered k id) ps
IsEntity-renumbered k ps id ends low high kept = record {
  lawful_key = is_key-renumbered k id low high kept.lawful_key;
  not_refused = entity_refusal-renumbered k ps id ends ∙ kept.not_refused;
  ascending = kept.ascending;
  few = kept.few;
}
