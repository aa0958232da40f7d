-- Rows without their places.
use Rattle.std.specs.Prelude.{◌≡◌, Bool, List, length}
use Rattle.ds_base.specs.declared.column.Column.{Column}
use Rattle.ds_base.specs.declared.index_value.IndexValue.{IndexValue}
use Rattle.ds_base.specs.Keys.{KeyParts}
use Rattle.ds_bytes.specs.Rows.{RowParts}
use Rattle.ds_pages.specs.Columns.{directions}
use Rattle.ds_query.specs.declared.branch.Range.{Range}
use Rattle.ds_model.specs.Rows.{first_value, is_within}
use Rattle.ds_plain.specs.declared.found.Found.{Found}

abbrev pub found_parts : Found → RowParts
found_parts f = record { values = f.values; key = f.key }

abbrev pub found_of : KeyParts → List IndexValue → Found
found_of key values = record { key = key; values = values }

-- its first value is within the range
abbrev pub is_in : Range → Found → Bool
is_in range f = is_within range (first_value (found_parts f))

-- it has a value for each column other than `__key__`
abbrev pub IsLong : List Column → Found → Type 0
IsLong columns f = length f.values ≡ length (directions columns)
