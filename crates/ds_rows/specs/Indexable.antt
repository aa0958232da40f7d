-- What is known of the bytes, numbers and names of each entity whose rows are made.
use Rattle.std.specs.Prelude.{All, IsTrue}
use Rattle.ds_entity.specs.Entities.{EntityParts, names_ascend}
use Rattle.ds_bytes.specs.Lawful.{IsLawfulKey, IsLawfulValue}
use Rattle.ds_base.specs.Bytes.{AreBytes}
use Rattle.ds_rows.specs.IndexedValues.{property_values}

-- the key and the indexed values are such as have an encoding, and the names of its properties are bytes and ascend
pub record IsIndexable (e : EntityParts) : Type 0 where
  pub key : IsLawfulKey e.key
  pub values : All (λ p. All IsLawfulValue (property_values p)) e.properties
  pub names : All (λ p. AreBytes p.name) e.properties
  pub ascend : IsTrue (names_ascend e.properties)
