-- The text of an index file that is written, and which definitions can be written.
use Rattle.std.specs.Prelude.{ℕ, Bool, true, false, not, ◌&&◌, nat_le, cond, List, [], ◌∷◌, ◌++◌, length, codes}
use Rattle.std.specs.List.{list_all, flat_map}
use Rattle.ds_base.specs.Limits.{most_definitions}
use Rattle.ds_base.specs.declared.column.Column.{Column}
use Rattle.ds_indexdef.specs.Forms.{is_kind, is_property}
use Rattle.ds_base.specs.KeyColumn.{key_name}
use Rattle.ds_indexdef.specs.Reading.{ends_in_key, is_builtin}
use Rattle.ds_indexdef.specs.Grammar.{are_orderly}
use Rattle.ds_indexdef.specs.declared.IndexDef.{IndexDef}

-- the bytes of a line that ends at a newline
abbrev pub line : List ℕ → List ℕ
line text = text ++ 10 ∷ []

abbrev pub name_line : List ℕ → List ℕ
name_line name = codes "  - name: " ++ name

abbrev pub direction_line : Bool → List ℕ
direction_line descending = codes "    direction: " ++ cond descending (codes "desc") (codes "asc")

abbrev pub column_lines : Column → List (List ℕ)
column_lines c = name_line c.name ∷ direction_line c.descending ∷ []

abbrev pub kind_line : List ℕ → List ℕ
kind_line kind = codes "- kind: " ++ kind

abbrev pub ancestor_line : Bool → List ℕ
ancestor_line ancestor = codes "  ancestor: " ++ cond ancestor (codes "yes") (codes "no")

-- for a definition without columns `__key__` ascending is written in their place
abbrev pub written_columns : List Column → List Column
written_columns [] = record { name = key_name; descending = false } ∷ []
written_columns (c ∷ more) = c ∷ more

abbrev pub def_lines : IndexDef → List (List ℕ)
def_lines def =
    kind_line def.kind ∷ ancestor_line def.ancestor ∷ codes "  properties:" ∷ flat_map column_lines (written_columns def.columns)

abbrev pub written_lines : List IndexDef → List (List ℕ)
written_lines defs = codes "indexes:" ∷ flat_map def_lines defs

-- the text that is written for definitions
unfoldable pub text_of : List IndexDef → List ℕ
text_of defs = flat_map line (written_lines defs)

abbrev pub has_property_names : List Column → Bool
has_property_names columns = list_all (λ c. is_property c.name) columns

-- its names keep the rules of the grammar, no property stands twice, `__key__` stands at the end alone and not ascending there,
-- and its rows aren't those of a built-in index
abbrev pub can_write_def : IndexDef → Bool
can_write_def def = (is_kind def.kind && has_property_names def.columns)
    && (are_orderly def.columns && (not (ends_in_key def.columns) && not (is_builtin def)))

-- at most 200 definitions, each of which can be written
abbrev pub can_write : List IndexDef → Bool
can_write defs = nat_le (length defs) most_definitions && list_all can_write_def defs
