-- Entities as JSON.
use Rattle.std.specs.Prelude.{ℕ, List, [], ◌∷◌, Bool, not, ◌||◌, Option, Some, None, Result, Err, cond, codes, IsTrue, length, ◌<◌, ◌^◌}
use Rattle.serde_json.specs.Data.{Data, object}
use Rattle.ds_base.specs.declared.value.Value.{Value}
use Rattle.ds_entity.specs.declared.entity.Property.{Property}
use Rattle.ds_base.specs.Keys.{KeyParts, ends_in_id, is_name, is_reserved}
use Rattle.ds_entity.specs.Entities.{names_ascend}
use Rattle.ds_json_reading.specs.declared.refusal.Refusal.{Refusal}
use Rattle.ds_json_reading.specs.declared.refusal.Refusal.TheVariants as refusal
use Rattle.ds_json_reading.specs.Reading.{and_then, read_as, each_member_of, member_of, required, defaulted}
use Rattle.ds_json_reading.specs.Keys.{entity_key_of}
use Rattle.ds_json_reading.specs.Values.{property_values_of}

-- no value is no property
abbrev pub property_with : List ℕ → Bool × List Value → Option Property
property_with name p = of_values p.1 where
  of_values : List Value → Option Property
  of_values [] = None
  of_values (v ∷ vs) = Some (record { name = name; indexed = p.0; values = v ∷ vs })

-- a property's name has 1 to 1,500 bytes and isn't reserved
abbrev pub property_of : List ℕ → Data → Result (Option Property) Refusal
property_of name d =
    cond (not (is_name name) || is_reserved name) (Err refusal.Value) (read_as (property_with name) (property_values_of d))

abbrev pub properties_of : Data → Result (List Property) Refusal
properties_of (object ms) = each_member_of property_of ms
properties_of _ = Err refusal.Request

-- what a put writes
pub record PutParts : Type 0 where
  pub key : KeyParts
  pub incomplete : Bool
  pub properties : List Property

-- an entity is an object with a key, which is looked at first, and properties
abbrev pub entity_of : Data → Result PutParts Refusal
entity_of (object ms) =
    and_then (required entity_key_of (member_of (codes "key") ms)) (λ k.
    read_as (λ ps. record { key = k.0; incomplete = k.1; properties = ps })
    (defaulted [] properties_of (member_of (codes "properties") ms)))
entity_of _ = Err refusal.Request

-- the properties of every put, so that its entity can be made: names ascend, and there are fewer than 2^32 of them
pub record ArePut (properties : List Property) : Type 0 where
  pub ascending : IsTrue (names_ascend properties)
  pub few : length properties < 2 ^ 32

-- what every put keeps beside: an incomplete key ends in an id
pub record IsPut (key : KeyParts) (incomplete : Bool) (written : List Property) : Type 0 where
  pub completes : IsTrue incomplete → IsTrue (ends_in_id key.elems)
  pub properties : ArePut written
