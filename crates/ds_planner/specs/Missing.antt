-- What no index serves, and the definition that would serve it.
use Rattle.std.specs.Prelude.{ℕ, Bool, true, false, ◌&&◌, not, bytes_eq, cond, List, [], ◌∷◌, ◌++◌, map, flat_map, filter, length}
use Rattle.std.specs.Prelude.{Option, Some, is_some, option_map, unwrap_or}
use Rattle.std.specs.List.{list_any, find, range_with_len}
use Rattle.ds_base.specs.declared.column.Column.{Column}
use Rattle.ds_indexdef.specs.declared.IndexDef.{IndexDef}
use Rattle.ds_query.specs.declared.branch.Pair.{Pair}
use Rattle.ds_query.specs.declared.branch.Branch.{Branch}
use Rattle.ds_query.specs.declared.refusal.Constraint.{Constraint}
use Rattle.ds_query.specs.declared.refusal.Constraint.TheVariants as constraint
use Rattle.ds_query.specs.ColumnLists.{ascending}
use Rattle.ds_planner.specs.declared.planned.PlannedIndex.{PlannedIndex}
use Rattle.ds_planner.specs.declared.planned.PlannedIndex.TheVariants as index
use Rattle.ds_planner.specs.Indexes.{is_candidate, leads, binds_ancestor}
use Rattle.ds_base.specs.KeyColumn.{is_ascending_key}
use Rattle.ds_planner.specs.Suits.{are_some}

-- ---- candidates

-- both indexes of a property
abbrev pub two_ways : List ℕ → List PlannedIndex
two_ways name = index.Property name false ∷ index.Property name true ∷ []

-- the composite indexes, those of each property that the branch names, and those by key: each index that may be a candidate
abbrev pub indexes : Branch → List IndexDef → List PlannedIndex
indexes b defs =
    map index.Composite (range_with_len 0 (length defs))
    ++ (flat_map (λ p. two_ways p.property) b.equal
    ++ (flat_map (λ c. two_ways c.name) b.columns
    ++ (index.KindByKey ∷ index.AllByKey ∷ [])))

abbrev pub candidates : Branch → List IndexDef → List PlannedIndex
candidates b defs = filter (is_candidate b defs) (indexes b defs)

-- ---- what is missing

-- the first pair whose property leads none of these indexes
abbrev pub first_unled : Branch → List IndexDef → List PlannedIndex → Option Pair
first_unled b defs found = find (λ p. not (list_any (λ i. leads b defs i p.property) found)) b.equal

-- the columns where there is no candidate, else the ancestor where no candidate binds it, else the first pair, by property and
-- then value, whose property is in none
abbrev pub constraint_among : Branch → List IndexDef → List PlannedIndex → Option Constraint
constraint_among b defs found =
    cond (not (are_some found)) (Some constraint.Columns)
    (cond (is_some b.ancestor && not (list_any (binds_ancestor b defs) found)) (Some constraint.Ancestor)
    (option_map constraint.Equal (first_unled b defs found)))

abbrev pub constraint_of : Branch → List IndexDef → Option Constraint
constraint_of b defs = constraint_among b defs (candidates b defs)

-- ---- the definition that would serve

-- is the next pair on the same property?
abbrev pub goes_on : Pair → List Pair → Bool
goes_on p [] = false
goes_on p (q ∷ qs) = bytes_eq p.property q.property

-- the properties of pairs, which stand together for each property: each once, ascending
abbrev pub equal_columns : List Pair → List Column
equal_columns [] = []
equal_columns (p ∷ ps) = cond (goes_on p ps) (equal_columns ps) (ascending p.property ∷ equal_columns ps)

-- the columns without a final `__key__` ascending
abbrev pub without_key : List Column → List Column
without_key [] = []
without_key (c ∷ []) = cond (is_ascending_key c) [] (c ∷ [])
without_key (c ∷ d ∷ cs) = c ∷ without_key (d ∷ cs)

-- the branch's kind, an ancestor flag exactly where it has an ancestor, its equality properties by name, and then its columns. A
-- branch without a kind misses nothing, so it needs no definition.
abbrev pub suggestion_of : Branch → IndexDef
suggestion_of b = record {
  kind = unwrap_or b.kind [];
  ancestor = is_some b.ancestor;
  columns = equal_columns b.equal ++ without_key b.columns;
}

-- what no index serves, and the definition with which the branch would be served
pub record Missing : Type 0 where
  pub constraint : Constraint
  pub suggestion : IndexDef

abbrev pub missing_of : Branch → List IndexDef → Option Missing
missing_of b defs = option_map (λ c. record { constraint = c; suggestion = suggestion_of b }) (constraint_of b defs)
