-- An entity that is shown is read back as that entity.
use Rattle.std.proofs.Common.{◌≡◌, ℕ, suc, ◌+◌, ◌≤◌, ◌||◌, ◌==◌, not, nat_lt, List, [], ◌∷◌, ◌++◌, length, Bool, true, false}
use Rattle.std.proofs.Common.{cond, Some, None, refl, ap, ◌∙◌, arith}
use Rattle.std.specs.Prelude.{Result, Ok, Err, Option, position, All}
use Rattle.std.specs.List.{list_any, prefix_len}
use Rattle.std.specs.Option.{option_to_list}
use Rattle.std.proofs.lemmas.Bool.{or_parts, ltb-false}
use Rattle.std.proofs.lemmas.List.Elements.{All-head, All-tail}
use Rattle.ds_entity.specs.Entities.{EntityParts, entity_refusal, entity_size, refusal_by, is_faulty_property}
use Rattle.ds_base.specs.Keys.{KeyParts, is_writable}
use Rattle.ds_entity.specs.declared.entity.Property.{Property}
use Rattle.ds_base.specs.declared.value.Value.{Value}
use Rattle.ds_json_reading.specs.declared.refusal.Refusal.{Refusal}
use Rattle.ds_json_reading.specs.declared.refusal.Refusal.TheVariants as refusal
use Rattle.ds_json_reading.specs.Reading.{and_then, read_as, each_member_of}
use Rattle.ds_request.specs.Entities.{PutParts, property_with, property_of, entity_of}
use Rattle.ds_json_reading.specs.Values.{property_values_of}
use Rattle.ds_reply.specs.EntityPrinting.{property_data, property_members, entity_data}
use Rattle.ds_journal_text.specs.Lawful.{IsLawfulProperty, IsLawfulEntity}
use Rattle.ds_journal_text.proofs.KeysBack.{entity_key_back}
use Rattle.ds_journal_text.proofs.ValuesBack.{property_values_back}

-- ---- what isn't refused

pub record IsSound (key : KeyParts) (properties : List Property) : Type 0 where
  pub writable : is_writable key ≡ true
  pub faultless : position is_faulty_property properties ≡ None

sound_by : (writable : Bool) (faulty : Option ℕ) (size : ℕ) → refusal_by writable faulty size ≡ None → (writable ≡ true) × (faulty ≡ None)
sound_by false faulty size h = cc
sound_by true (Some i) size h = cc
sound_by true None size h = (refl, refl)

pub sound : (key : KeyParts) (properties : List Property) → entity_refusal key properties ≡ None → IsSound key properties
sound key properties h =
    let p = sound_by (is_writable key) (position is_faulty_property properties) (entity_size key properties) h in
    record { writable = p.0; faultless = p.1 }

no_place : {X : Type 0} (faulty : X → Bool) (xs : List X) → length xs ≤ prefix_len (λ x. not (faulty x)) xs → list_any faulty xs ≡ false
no_place faulty [] all = refl
no_place faulty (x ∷ xs) all = at (faulty x) refl all (no_place faulty xs) where
  at : (here : Bool) → faulty x ≡ here → suc (length xs) ≤ cond (not here) (1 + prefix_len (λ x. not (faulty x)) xs) 0
      → (length xs ≤ prefix_len (λ x. not (faulty x)) xs → list_any faulty xs ≡ false) → (here || list_any faulty xs) ≡ false
  at true is all below = absurd (omega arith)
  at false is all below = below (omega arith)

pub none_faulty : {X : Type 0} (faulty : X → Bool) (xs : List X) → position faulty xs ≡ None → list_any faulty xs ≡ false
none_faulty faulty xs is = by (nat_lt (prefix_len (λ x. not (faulty x)) xs) (length xs)) refl is where
  by : (b : Bool) → nat_lt (prefix_len (λ x. not (faulty x)) xs) (length xs) ≡ b → cond b (Some (prefix_len (λ x. not (faulty x)) xs)) None ≡ None → list_any faulty xs ≡ false
  by true holds e = cc
  by false past e = no_place faulty xs (ltb-false _ _ past)

-- ---- properties

with_values : (name : List ℕ) (indexed : Bool) (vs : List Value) → (length vs == 0) ≡ false → property_with name (indexed, vs) ≡ Some (record { name = name; indexed = indexed; values = vs })
with_values name indexed [] some = cc
with_values name indexed (v ∷ vs) some = refl

property_back : (p : Property) → IsLawfulProperty p → is_faulty_property p ≡ false → property_of p.name (property_data p) ≡ Ok (Some p)
property_back p h faultless =
    let last = or_parts _ _ faultless in
    let some = or_parts _ _ last.0 in
    let read : Result (Option Property) Refusal = read_as (property_with p.name) (property_values_of (property_data p)) in
    let refused : Result (Option Property) Refusal = Err refusal.Value in
    ap (λ b. cond b refused read) some.0
    ∙ ap (read_as (property_with p.name)) (property_values_back p.indexed p.values h.values last.1)
    ∙ ap Ok (with_values p.name p.indexed p.values some.1)

properties_back : (ps : List Property) → All IsLawfulProperty ps → list_any is_faulty_property ps ≡ false → each_member_of property_of (property_members ps) ≡ Ok ps
properties_back [] h faultless = refl
properties_back (p ∷ ps) h faultless =
    let parts = or_parts _ _ faultless in
    ap (λ o. and_then o (λ x. read_as (λ xs. option_to_list x ++ xs) (each_member_of property_of (property_members ps))))
    (property_back p (All-head IsLawfulProperty p ps h) parts.0)
    ∙ ap (read_as (λ xs. p ∷ xs)) (properties_back ps (All-tail IsLawfulProperty p ps h) parts.1)

-- ---- entities

-- what is read of an entity
abbrev pub put_parts : EntityParts → PutParts
put_parts e = record { key = e.key; incomplete = false; properties = e.properties }

pub entity_back : (e : EntityParts) → IsLawfulEntity e → entity_of (entity_data e) ≡ Ok (put_parts e)
entity_back e h =
    let s = sound e.key e.properties h.rules.not_refused in
    let properties : Result (List Property) Refusal = each_member_of property_of (property_members e.properties) in
    ap (λ o. and_then o (λ k. read_as (λ ps. record { key = k.0; incomplete = k.1; properties = ps }) properties))
    (entity_key_back e.key h.rules.lawful_key s.writable)
    ∙ ap (read_as (λ ps. record { key = e.key; incomplete = false; properties = ps }))
    (properties_back e.properties h.properties (none_faulty is_faulty_property e.properties s.faultless))
