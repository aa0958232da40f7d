-- The values of the names so far.
use Rattle.std.proofs.Common.{◌≡◌, map, take}
use Rattle.std.specs.Prelude.{unwrap_or}
use Rattle.ds_base.specs.declared.index_value.IndexValue.TheVariants.{Null}
use Rattle.ds_query.specs.RowValues.{value_columns, value_named}
use Rattle.ds_engine.proofs.items.projected_values.Given as goal

abbrev pub invariant-loop-name : goal.invariant-loop-name
invariant-loop-name l =
    l.projected.items ≡ map (λ name. unwrap_or (value_named name (value_columns l.columns) l.values) Null) (take l.name-index l.names)
