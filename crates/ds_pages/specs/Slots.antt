-- Where the value of a name stands among the values of a row.
use Rattle.std.specs.Prelude.{ℕ, List, bytes_eq, Option}
use Rattle.std.specs.List.{position_from}
use Rattle.ds_base.specs.declared.column.Column.{Column}
use Rattle.ds_pages.specs.Columns.{value_columns}

-- the place of the column of this name among those other than `__key__`
abbrev pub slot_of : List Column → List ℕ → Option ℕ
slot_of columns name = position_from (λ c. bytes_eq name c.name) 0 (value_columns columns)
