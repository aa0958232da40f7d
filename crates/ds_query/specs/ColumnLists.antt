-- What the rows of a query are sorted by.
use Rattle.std.specs.Prelude.{◌≡◌, ℕ, Bool, false, ◌&&◌, not, bytes_eq, List, [], ◌∷◌, ◌++◌}
use Rattle.std.specs.Prelude.{map, filter, fold, cond}
use Rattle.std.specs.Option.{option_to_list}
use Rattle.std.specs.List.{list_any}
use Rattle.ds_base.specs.declared.column.Column.{Column}
use Rattle.ds_query.specs.declared.query.Query.{Query}
use Rattle.ds_query.specs.Reasons.{has_name}
use Rattle.ds_query.specs.Filters.{has_equality, has_one_of, inequality_of, projected}
use Rattle.ds_base.specs.KeyColumn.{key_name, is_key_name}

-- is there a column of this name?
abbrev pub has_column : List Column → List ℕ → Bool
has_column columns name = list_any (λ c. bytes_eq name c.name) columns

-- the names are those of the columns
abbrev pub AreNamesOf : List (List ℕ) → List Column → Type 0
AreNamesOf names columns = (n : List ℕ) → has_name names n ≡ has_column columns n

-- the columns with one more at the end, unless its name is there
abbrev pub with_column : List Column → Column → List Column
with_column columns c = cond (has_column columns c.name) columns (columns ++ c ∷ [])

-- of each name the first column
abbrev pub first_of_each_name : List Column → List Column
first_of_each_name = fold with_column []

abbrev pub ascending : List ℕ → Column
ascending name = record { name = name; descending = false }

-- the orders up to the first on `__key__`, after which rows can't tie
abbrev pub up_to_key : List Column → List Column
up_to_key [] = []
up_to_key (c ∷ cs) = c ∷ cond (is_key_name c.name) [] (up_to_key cs)

-- what a query is to be sorted by, where orders on some names are dropped: its other orders, the property of its
-- inequality, its projected properties, and the key
abbrev pub wanted_columns : (List ℕ → Bool) → Query → List Column
wanted_columns dropped q =
    filter (λ c. not (dropped c.name)) (up_to_key q.orders)
    ++ map ascending (option_to_list (inequality_of q.filters))
    ++ map ascending (projected q.select)
    ++ ascending key_name ∷ []

-- the columns of each branch: an order on a property with an equality has no effect
abbrev pub columns_of : Query → List Column
columns_of q = first_of_each_name (wanted_columns (has_equality q.filters) q)

-- the columns by which the rows of all branches are united: an order on a property with an `in` stays
abbrev pub merged_of : Query → List Column
merged_of q = first_of_each_name (wanted_columns (λ name. has_equality q.filters name && not (has_one_of q.filters name)) q)
