-- Entities in the order of their keys, each found by its key.
use Rattle.std.specs.Prelude.{List, [], ◌∷◌, ◌++◌, map}
use Rattle.ds_base.specs.Keys.{KeyParts}
use Rattle.ds_entity.specs.Entities.{EntityParts}
pub use Rattle.ds_model.specs.ByKey.{entity_cmp, sorted_by_key, keyed, NoneAt, KeysDiffer}

-- the entities of a map's entries
abbrev pub entities_in : List (KeyParts × EntityParts) → List EntityParts
entities_in = map (λ (x : KeyParts × EntityParts). x.1)

-- the lists, one behind another
abbrev pub joined : List (List EntityParts) → List EntityParts
joined [] = []
joined (es ∷ lists) = es ++ joined lists
