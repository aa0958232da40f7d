-- The column of keys: its name, and what lists of columns say of it.
use Rattle.std.specs.Prelude.{ℕ, Bool, false, ◌&&◌, not, bytes_eq, codes, List, [], ◌∷◌}
use Rattle.std.specs.List.{list_any}
use Rattle.ds_base.specs.declared.column.Column.{Column}

-- the name by which filters, orders, columns and index definitions speak of the key
abbrev pub key_name : List ℕ
key_name = codes "__key__"

abbrev pub is_key_name : List ℕ → Bool
is_key_name name = bytes_eq name key_name

abbrev pub is_ascending_key : Column → Bool
is_ascending_key c = is_key_name c.name && not c.descending

-- `__key__` ascending alone: the order of keys
abbrev pub is_by_key : List Column → Bool
is_by_key [] = false
is_by_key (c ∷ []) = is_ascending_key c
is_by_key (c ∷ d ∷ cs) = false

-- whether the column `__key__` descends; where there is none the key ascends
abbrev pub key_descends : List Column → Bool
key_descends columns = list_any (λ c. is_key_name c.name && c.descending) columns
