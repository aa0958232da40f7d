-- What the rows of a planned scan begin with: what tells their index, and the values to which the scan is bound.
use Rattle.std.specs.Prelude.{ℕ, Bool, List, [], ◌∷◌, ◌++◌, Option, Some, None, option_map, unwrap_or}
use Rattle.std.specs.List.{slice_get}
use Rattle.ds_base.specs.declared.column.Column.{Column}
use Rattle.ds_base.specs.declared.index_value.IndexValue.{IndexValue}
use Rattle.ds_indexdef.specs.declared.IndexDef.{IndexDef}
use Rattle.ds_bytes.specs.Encoding.{encoding}
use Rattle.ds_query.specs.declared.branch.Pair.{Pair}
use Rattle.ds_query.specs.declared.branch.Branch.{Branch}
use Rattle.ds_planner.specs.declared.planned.PlannedIndex.{PlannedIndex as Planned}
use Rattle.ds_planner.specs.declared.planned.PlannedIndex.TheVariants as planned
use Rattle.ds_planner.specs.declared.planned.PlannedScan.{PlannedScan}
use Rattle.ds_rows.specs.Indexes.{RowIndex, AllByKey, KindByKey, ByProperty, Composite}
use Rattle.ds_rows.specs.Rows.{index_front, ancestor_bytes}
use Rattle.ds_query.specs.RowValues.{asked_value}

-- the index of the tables that is planned; none where no definition stands at its position
abbrev pub index_in : List IndexDef → Planned → Option RowIndex
index_in defs planned.AllByKey = Some AllByKey
index_in defs planned.KindByKey = Some KindByKey
index_in defs (planned.Property name descending) = Some (ByProperty name descending)
index_in defs (planned.Composite position) = option_map (Composite position) (slice_get defs position)

-- the columns of an index in front of the key that ends each row, and that key where the definition names it last
abbrev pub columns_of : RowIndex → List Column
columns_of (ByProperty name descending) = record { name = name; descending = descending } ∷ []
columns_of (Composite n d) = d.columns
columns_of _ = []

-- the value in its column's direction, and what follows; nothing where there is no value
abbrev pub bound_or : Bool → Option IndexValue → List ℕ → List ℕ
bound_or descending None more = []
bound_or descending (Some v) more = encoding descending v ++ more

-- the values of the columns up to the first on whose property there is no pair
abbrev pub bound_bytes : List Pair → List Column → List ℕ
bound_bytes pairs [] = []
bound_bytes pairs (c ∷ cs) = bound_or c.descending (asked_value pairs c.name) (bound_bytes pairs cs)

-- what the rows of an index begin with that have the scan's ancestor and values
abbrev pub prefix_in : Branch → PlannedScan → RowIndex → List ℕ
prefix_in q s i =
    index_front i q.namespace (unwrap_or q.kind []) ++ (ancestor_bytes s.ancestor ++ bound_bytes s.equal (columns_of i))

-- what the rows of a planned scan begin with
abbrev pub scan_prefix : Branch → List IndexDef → PlannedScan → List ℕ
scan_prefix q defs s = unwrap_or (option_map (prefix_in q s) (index_in defs s.index)) []
