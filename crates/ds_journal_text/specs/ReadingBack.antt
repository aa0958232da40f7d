-- That what is shown of keys and entities is read back, as a text and as JSON.
use Rattle.std.specs.Prelude.{◌≡◌, false, Some, Ok}
use Rattle.serde_json.specs.Written.{compact_text}
use Rattle.ds_entity.specs.Entities.{EntityParts}
use Rattle.ds_base.specs.Keys.{KeyParts}
use Rattle.ds_bytes.specs.Lawful.{IsLawfulKey}
use Rattle.ds_json_printing.specs.Printing.{key_data}
use Rattle.ds_reply.specs.EntityPrinting.{entity_data}
use Rattle.ds_request.specs.Entities.{entity_of}
use Rattle.ds_json_reading.specs.Keys.{key_of}
use Rattle.ds_request.specs.Requests.{line_data}
use Rattle.ds_journal_text.specs.Lawful.{IsLawfulEntity}

-- the text of a key is read as what is shown of it, and that as the key
abbrev pub KeysAreReadBack : Type 0
KeysAreReadBack =
    (k : KeyParts) → IsLawfulKey k → (line_data (compact_text (key_data k)) ≡ Some (key_data k)) × (key_of (key_data k) ≡ Ok k)

-- the text of an entity is read as what is shown of it, and that as the entity, whose key is complete
abbrev pub EntitiesAreReadBack : Type 0
EntitiesAreReadBack =
    (e : EntityParts) → IsLawfulEntity e
    → (line_data (compact_text (entity_data e)) ≡ Some (entity_data e))
    × (entity_of (entity_data e) ≡ Ok (record { key = e.key; incomplete = false; properties = e.properties }))
