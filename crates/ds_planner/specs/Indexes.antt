-- What an index is to a branch. By the Datastore's documentation an index serves a query where its properties are those of the
-- equality filters, in any order and direction, and then the query's columns; since scans are joined, some of the equality
-- properties suffice.
use Rattle.std.specs.Prelude.{ℕ, Bool, false, ◌&&◌, ◌||◌, not, ◌-◌, bytes_eq, cond}
use Rattle.std.specs.Prelude.{List, [], ◌∷◌, ◌++◌, length, take, drop}
use Rattle.std.specs.Prelude.{Option, Some, None, is_some, is_none, option_map, option_and_then, unwrap_or}
use Rattle.std.specs.List.{list_all, slice_get}
use Rattle.std.specs.Cmp.Lexicographic.{pointwise}
use Rattle.ds_base.specs.declared.column.Column.{Column}
use Rattle.ds_base.specs.Columns.{same_column}
use Rattle.ds_indexdef.specs.declared.IndexDef.{IndexDef}
use Rattle.ds_query.specs.declared.branch.Pair.{Pair}
use Rattle.ds_query.specs.declared.branch.Branch.{Branch}
use Rattle.ds_base.specs.KeyColumn.{key_name, is_key_name, is_ascending_key, is_by_key}
use Rattle.ds_query.specs.ColumnLists.{has_column, ascending}
use Rattle.ds_query.specs.Lawful.{ends_in_key, has_pair}
use Rattle.ds_planner.specs.declared.planned.PlannedIndex.{PlannedIndex}
use Rattle.ds_planner.specs.declared.planned.PlannedIndex.TheVariants as index

-- ---- columns

-- every index ends in `__key__`, ascending unless it names `__key__` last
abbrev pub by_key : List Column
by_key = ascending key_name ∷ []

abbrev pub with_key : List Column → List Column
with_key columns = cond (ends_in_key columns) columns (columns ++ by_key)

-- one column, and then `__key__` ascending
abbrev pub is_by_property : Column → List Column → Bool
is_by_property p [] = false
is_by_property p (x ∷ []) = false
is_by_property p (x ∷ y ∷ []) = same_column p x && is_ascending_key y
is_by_property p (x ∷ y ∷ z ∷ columns) = false

-- the columns in front of the last ones, where the list ends with these
abbrev pub in_front_of : List Column → List Column → Option (List Column)
in_front_of last columns =
    cond (pointwise same_column (drop (length columns - length last) columns) last)
    (Some (take (length columns - length last) columns)) None

-- ---- the columns of an index

abbrev pub is_of_kind : Option (List ℕ) → List ℕ → Bool
is_of_kind None kind = false
is_of_kind (Some k) kind = bytes_eq k kind

-- a definition that the branch may use: of its kind, and with the ancestor flag only where the branch has an ancestor
abbrev pub is_usable : Branch → IndexDef → Bool
is_usable b d = is_of_kind b.kind d.kind && (not d.ancestor || is_some b.ancestor)

abbrev pub defined_columns : Branch → Option IndexDef → Option (List Column)
defined_columns b None = None
defined_columns b (Some d) = cond (is_usable b d) (Some (with_key d.columns)) None

-- the columns of an index; none where the branch may not use it: a branch without a kind has the index of all entities alone, and
-- every other branch the indexes of its kind
abbrev pub index_columns : Branch → List IndexDef → PlannedIndex → Option (List Column)
index_columns b defs index.AllByKey = cond (is_none b.kind) (Some by_key) None
index_columns b defs index.KindByKey = cond (is_some b.kind) (Some by_key) None
index_columns b defs (index.Property name descending) =
    cond (is_some b.kind) (Some (record { name = name; descending = descending } ∷ by_key)) None
index_columns b defs (index.Composite position) = defined_columns b (slice_get defs position)

-- ---- candidates

-- the columns of an index in front of the branch's; none where it may not be used or doesn't end with exactly the branch's columns
abbrev pub leading : Branch → List IndexDef → PlannedIndex → Option (List Column)
leading b defs i = option_and_then (in_front_of b.columns) (index_columns b defs i)

abbrev pub are_paired : List Pair → Option (List Column) → Bool
are_paired pairs None = false
are_paired pairs (Some columns) = list_all (λ c. has_pair pairs c.name) columns

-- does the index end with the branch's columns, and is each column in front of them on the property of one of the pairs?
abbrev pub is_paired : Branch → List IndexDef → PlannedIndex → List Pair → Bool
is_paired b defs i pairs = are_paired pairs (leading b defs i)

-- an index that may be scanned for the branch: its properties are some of the branch's equality properties, in any order and any
-- direction, and then exactly the columns
abbrev pub is_candidate : Branch → List IndexDef → PlannedIndex → Bool
is_candidate b defs i = is_paired b defs i b.equal

-- ---- what a scan of it is bound to

abbrev pub names_column : Option (List Column) → List ℕ → Bool
names_column None name = false
names_column (Some columns) name = has_column columns name

-- a value of each property in front of the branch's columns
abbrev pub leads : Branch → List IndexDef → PlannedIndex → List ℕ → Bool
leads b defs i name = names_column (leading b defs i) name

-- does the index's definition have the ancestor flag?
abbrev pub has_flag : List IndexDef → PlannedIndex → Bool
has_flag defs (index.Composite position) = unwrap_or (option_map (λ d. d.ancestor) (slice_get defs position)) false
has_flag defs _ = false

-- the ancestor, by the flag; and where the columns are `__key__` ascending alone by any index, since what lies under the ancestor
-- is then a range of keys
abbrev pub binds_ancestor : Branch → List IndexDef → PlannedIndex → Bool
binds_ancestor b defs i = is_by_key b.columns || has_flag defs i
