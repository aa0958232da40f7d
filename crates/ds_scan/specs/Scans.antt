-- What a planned scan binds, as a branch of its own, and what is known of the values that it is bound to.
use Rattle.std.specs.Prelude.{Bool, true, false, List, [], ◌∷◌, Option, Some, None, IsTrue}
use Rattle.ds_base.specs.declared.column.Column.{Column}
use Rattle.ds_base.specs.declared.index_value.IndexValue.{IndexValue}
use Rattle.ds_base.specs.declared.index_value.IndexValue.TheVariants as class
use Rattle.ds_base.specs.Keys.{KeyParts}
use Rattle.ds_bytes.specs.Lawful.{IsLawfulKey, IsLawfulValue}
use Rattle.ds_indexdef.specs.declared.IndexDef.{IndexDef}
use Rattle.ds_query.specs.declared.branch.Bound.{Bound}
use Rattle.ds_query.specs.declared.branch.Pair.{Pair}
use Rattle.ds_query.specs.declared.branch.Branch.{Branch}
use Rattle.ds_base.specs.KeyColumn.{is_key_name, is_by_key}
use Rattle.ds_planner.specs.declared.planned.PlannedScan.{PlannedScan}
use Rattle.ds_rows.specs.Indexes.{RowIndex}
use Rattle.ds_query.specs.RowValues.{asked_value}
use Rattle.ds_scan.specs.Bounds.{first_bound, last_bound}
use Rattle.ds_scan.specs.Prefixes.{columns_of, index_in}

-- the branch with the pairs and the ancestor that a scan's index is bound to alone, and without its range
abbrev pub scan_branch : Branch → PlannedScan → Branch
scan_branch q s = record q { equal = s.equal; ancestor = s.ancestor; range = record { lower = None; upper = None } }

-- ---- what has an encoding

abbrev pub IsLawfulAncestor : Option KeyParts → Type 0
IsLawfulAncestor None = Unit {0}
IsLawfulAncestor (Some a) = IsLawfulKey a

abbrev pub IsLawfulOr : Option IndexValue → Type 0 → Type 0
IsLawfulOr None more = Unit {0}
IsLawfulOr (Some v) more = IsLawfulValue v × more

-- the values of the columns up to the first on whose property there is no pair
abbrev pub AreLawfulBound : List Pair → List Column → Type 0
AreLawfulBound pairs [] = Unit {0}
AreLawfulBound pairs (c ∷ cs) = IsLawfulOr (asked_value pairs c.name) (AreLawfulBound pairs cs)

-- the ancestor and the values that a scan of an index is bound to
abbrev pub IsLawfulIn : PlannedScan → Option RowIndex → Type 0
IsLawfulIn s None = Unit {0}
IsLawfulIn s (Some i) = IsLawfulAncestor s.ancestor × AreLawfulBound s.equal (columns_of i)

abbrev pub IsLawfulScan : List IndexDef → PlannedScan → Type 0
IsLawfulScan defs s = IsLawfulIn s (index_in defs s.index)

-- a value in a column: in the column of keys a key
abbrev pub IsLawfulInColumn : Bool → IndexValue → Type 0
IsLawfulInColumn true (class.Key k) = IsLawfulKey k
IsLawfulInColumn true _ = Unit {0}
IsLawfulInColumn false v = IsLawfulValue v

abbrev pub IsLawfulFirst : List Column → IndexValue → Type 0
IsLawfulFirst [] v = Unit {0}
IsLawfulFirst (c ∷ cs) v = IsLawfulInColumn (is_key_name c.name) v

abbrev pub IsLawfulBound : List Column → Option Bound → Type 0
IsLawfulBound columns None = Unit {0}
IsLawfulBound columns (Some b) = IsLawfulFirst columns b.value

-- the bounds of a branch, and its ancestor where the rows are in the order of keys
pub record IsLawfulEnds (q : Branch) : Type 0 where
  pub ancestor : IsTrue (is_by_key q.columns) → IsLawfulAncestor q.ancestor
  pub first : IsLawfulBound q.columns (first_bound q.columns q.range)
  pub last : IsLawfulBound q.columns (last_bound q.columns q.range)
