-- The rows so far and those of the properties that are left are all.
use Rattle.std.proofs.Common.{◌≡◌, ◌++◌, [], drop, take}
use Rattle.std.specs.Prelude.{flat_map, All}
use Rattle.ds_bytes.specs.Lawful.{IsLawfulValue}
use Rattle.ds_base.specs.Bytes.{AreBytes}
use Rattle.ds_rows.specs.IndexedValues.{property_values}
use Rattle.ds_rows.specs.Indexes.{property_indexes}
use Rattle.ds_rows.specs.Rows.{rows_in}
use Rattle.ds_rows.proofs.rows.put_property_rows.Given as goal

abbrev pub invariant-loop-place : goal.invariant-loop-place
invariant-loop-place l = record {
  begun : l.rows.begun ≡ [];
  so_far : l.rows.rows ++ flat_map (rows_in l.entity) (flat_map property_indexes (drop l.place l.entity.properties))
      ≡ l.initial.rows.rows ++ flat_map (rows_in l.entity) (flat_map property_indexes l.entity.properties);
  lawful : All (λ p. All IsLawfulValue (property_values p)) (take l.place l.entity.properties);
  names : All (λ p. AreBytes p.name) (take l.place l.entity.properties);
}
