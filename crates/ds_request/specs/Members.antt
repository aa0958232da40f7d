-- Several members of one object, read one after another: what the contracts of the code say beside the definitions of a request.
use Rattle.std.specs.Prelude.{◌≡◌, List, [], ◌∷◌, Bool, true, not, ◌&&◌, bytes_eq, ⊤}
use Rattle.std.specs.List.{list_any}
use Rattle.serde_json.specs.Data.{Members}
use Rattle.ds_query.specs.declared.field.Field.{Field}
use Rattle.ds_json_reading.specs.Reading.{member_of}
use Rattle.ds_query.specs.Fields.{field_name}

-- no two of the members have one name
abbrev pub is_apart : List Field → Bool
is_apart [] = true
is_apart (f ∷ fs) = not (list_any (λ g. bytes_eq (field_name f) (field_name g)) fs) && is_apart fs

-- two objects have the same members of these names
abbrev pub AgreeOn : List Field → Members → Members → Type 0
AgreeOn [] ms ns = ⊤
AgreeOn (f ∷ fs) ms ns = (member_of (field_name f) ms ≡ member_of (field_name f) ns) × AgreeOn fs ms ns
