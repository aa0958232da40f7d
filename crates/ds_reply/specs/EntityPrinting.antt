-- Entities as JSON.
use Rattle.std.specs.Prelude.{List, [], ◌∷◌, Option, Some, None, cond, codes}
use Rattle.serde_json.specs.Data.{Data, null, object, Members, no_members, member}
use Rattle.ds_entity.specs.declared.entity.Property.{Property}
use Rattle.ds_entity.specs.Entities.{EntityParts}
use Rattle.ds_json_printing.specs.Objects.{named, object_of}
use Rattle.ds_json_printing.specs.Printing.{key_data, tagged, values_data}

abbrev pub property_data : Property → Data
property_data p = cond p.indexed (values_data p.values) (tagged (codes "unindexed") (values_data p.values))

-- an entity's properties stand by name already
abbrev pub property_members : List Property → Members
property_members [] = no_members
property_members (p ∷ ps) = member p.name (property_data p) (property_members ps)

abbrev pub entity_data : EntityParts → Data
entity_data e = object_of (named (codes "key") (key_data e.key) ∷ named (codes "properties") (object (property_members e.properties)) ∷ [])

-- null, where there is none
abbrev pub optional_entity_data : Option EntityParts → Data
optional_entity_data None = null
optional_entity_data (Some e) = entity_data e
