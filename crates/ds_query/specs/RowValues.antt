-- The values of a row and of a branch's pairs, by the names of their properties.
use Rattle.std.specs.Prelude.{ℕ, Bool, not, bytes_eq, cond, filter, map, List, [], ◌∷◌, Option, Some, None}
use Rattle.ds_base.specs.declared.column.Column.{Column}
use Rattle.ds_base.specs.declared.index_value.IndexValue.{IndexValue}
use Rattle.ds_base.specs.KeyColumn.{is_key_name}
use Rattle.ds_query.specs.declared.branch.Pair.{Pair}

-- the columns other than `__key__`, wherever it stands: a row has a value for each
abbrev pub value_columns : List Column → List Column
value_columns = filter (λ c. not (is_key_name c.name))

-- the directions of these columns, for each of which a row has a value; true for a descending one
abbrev pub directions : List Column → List Bool
directions columns = map (λ c. c.descending) (value_columns columns)

-- the value in the column of this name, if there is one
abbrev pub value_named : List ℕ → List Column → List IndexValue → Option IndexValue
value_named name [] vs = None
value_named name (c ∷ cs) [] = None
value_named name (c ∷ cs) (v ∷ vs) = cond (bytes_eq name c.name) (Some v) (value_named name cs vs)

-- the least value that the branch asks of the property; pairs ascend, so it is the first
abbrev pub asked_value : List Pair → List ℕ → Option IndexValue
asked_value [] name = None
asked_value (p ∷ ps) name = cond (bytes_eq name p.property) (Some p.value) (asked_value ps name)
