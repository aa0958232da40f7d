-- What every branch, normal form and window keeps that a query is answered by.
use Rattle.std.specs.Prelude.{◌≡◌, ℕ, ◌<◌, Bool, true, false, ◌&&◌, not, bytes_eq, IsTrue}
use Rattle.std.specs.Prelude.{List, [], ◌∷◌, length, filter, All, Option, Some, None}
use Rattle.std.specs.List.{list_all, list_any}
use Rattle.std.specs.List.Sorted.{IsStrictlySortedBy}
use Rattle.ds_base.specs.declared.index_value.IndexValue.{IndexValue}
use Rattle.ds_base.specs.declared.index_value.IndexValue.TheVariants as index
use Rattle.ds_base.specs.declared.column.Column.{Column}
use Rattle.ds_base.specs.Keys.{is_namespace}
use Rattle.ds_query.specs.declared.branch.Pair.{Pair}
use Rattle.ds_query.specs.declared.branch.Bound.{Bound}
use Rattle.ds_query.specs.declared.branch.Range.{Range}
use Rattle.ds_query.specs.declared.branch.Branch.{Branch}
use Rattle.ds_query.specs.declared.branch.Normal.{Normal}
use Rattle.ds_query.specs.declared.branch.Window.{Window}
use Rattle.ds_query.specs.Filters.{projected}
use Rattle.ds_base.specs.KeyColumn.{key_name, is_key_name}
use Rattle.ds_query.specs.Reasons.{repeats}
use Rattle.ds_query.specs.ColumnLists.{has_column, ascending}
use Rattle.ds_query.specs.Branching.{pair_cmp}

-- ---- columns

-- no two columns have one name
abbrev pub names_differ : List Column → Bool
names_differ [] = true
names_differ (c ∷ cs) = not (has_column cs c.name) && names_differ cs

-- the last column is `__key__`
abbrev pub ends_in_key : List Column → Bool
ends_in_key [] = false
ends_in_key (c ∷ []) = is_key_name c.name
ends_in_key (c ∷ d ∷ cs) = ends_in_key (d ∷ cs)

-- the first column is `__key__`
abbrev pub starts_with_key : List Column → Bool
starts_with_key [] = false
starts_with_key (c ∷ cs) = is_key_name c.name

-- ---- pairs and bounds

-- is there a pair on the property of this name?
abbrev pub has_pair : List Pair → List ℕ → Bool
has_pair pairs name = list_any (λ p. bytes_eq name p.property) pairs

abbrev pub is_key_bound : Option Bound → Bool
is_key_bound None = true
is_key_bound (Some b) = is_key b.value where
  is_key : IndexValue → Bool
  is_key (index.Key k) = true
  is_key _ = false

-- each bound that there is is a key
abbrev pub bounds_are_keys : Range → Bool
bounds_are_keys r = is_key_bound r.lower && is_key_bound r.upper

-- ---- branches

-- what alone a branch without a kind asks: the order of keys
pub record IsKindless (b : Branch) : Type 0 where
  pub no_pair : b.equal ≡ []
  pub no_projection : projected b.select ≡ []
  pub key_order : b.columns ≡ ascending key_name ∷ []

pub record IsLawfulBranch (b : Branch) : Type 0 where
  pub namespace : IsTrue (is_namespace b.namespace)
  pub no_key_pair : IsTrue (list_all (λ p. not (is_key_name p.property)) b.equal)
  -- by property and then by value, so each stands once
  pub pairs_ascend : IsStrictlySortedBy pair_cmp b.equal
  pub names_differ : IsTrue (names_differ b.columns)
  -- no column is on the property of a pair
  pub apart : IsTrue (list_all (λ c. not (has_pair b.equal c.name)) b.columns)
  pub key_last : IsTrue (ends_in_key b.columns)
  -- the range is on the first column
  pub key_bounds : IsTrue (starts_with_key b.columns) → IsTrue (bounds_are_keys b.range)
  -- each projected property is a column other than `__key__`, and named once
  pub projected_columns : IsTrue (list_all (λ name. has_column b.columns name && not (is_key_name name)) (projected b.select))
  pub projected_once : IsTrue (not (repeats (projected b.select)))
  pub kindless : b.kind ≡ None → IsKindless b

-- two branches of one query: they differ in their pairs and ranges alone
pub record AreAlike (a b : Branch) : Type 0 where
  pub namespace : a.namespace ≡ b.namespace
  pub kind : a.kind ≡ b.kind
  pub ancestor : a.ancestor ≡ b.ancestor
  pub columns : a.columns ≡ b.columns
  pub select : a.select ≡ b.select

-- ---- normal forms

pub record IsLawfulNormal (n : Normal) : Type 0 where
  pub some : 0 < length n.branches
  pub lawful : All IsLawfulBranch n.branches
  pub alike : All (λ a. All (AreAlike a) n.branches) n.branches
  -- without `!=` and `in` there is one branch, and its columns are the merged ones
  pub single : n.several ≡ false → length n.branches ≡ 1
  pub single_columns : n.several ≡ false → All (λ b. b.columns ≡ n.merged) n.branches
  pub names_differ : IsTrue (names_differ n.merged)
  pub key_last : IsTrue (ends_in_key n.merged)
  -- without those on properties of a branch's pairs, the merged columns are the branch's, in their order
  pub merged : All (λ b. filter (λ c. not (has_pair b.equal c.name)) n.merged ≡ b.columns) n.branches

-- ---- windows

-- where a query has `!=` or `in`, a window has neither a start nor an end. That the places of a window are rows of the
-- branch's columns is said where rows are encoded.
pub record IsPlaceless (w : Window) : Type 0 where
  pub start : w.start ≡ None
  pub end : w.end ≡ None

abbrev pub SuitsSeveral : Bool → Window → Type 0
SuitsSeveral true w = IsPlaceless w
SuitsSeveral false w = Unit {0}
