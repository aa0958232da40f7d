-- Which of all suiting and lean plans is made.
use Rattle.std.specs.Prelude.{Bool, ◌&&◌, ◌||◌, not, cond, List, [], ◌∷◌, ◌++◌, map, fold, Option, Some, None, option_to_list}
use Rattle.std.specs.List.{list_any, list_all, find}
use Rattle.ds_indexdef.specs.declared.IndexDef.{IndexDef}
use Rattle.ds_query.specs.declared.branch.Pair.{Pair}
use Rattle.ds_query.specs.declared.branch.Branch.{Branch}
use Rattle.ds_query.specs.Lawful.{has_pair}
use Rattle.ds_planner.specs.declared.planned.PlannedIndex.{PlannedIndex}
use Rattle.ds_planner.specs.declared.planned.PlannedScan.{PlannedScan}
use Rattle.ds_planner.specs.Indexes.{leads, binds_ancestor}
use Rattle.ds_planner.specs.Parts.{Part, asked, conditions}
use Rattle.ds_planner.specs.Suits.{chooses, properties_differ, bound_ancestor}
use Rattle.ds_planner.specs.Lean.{binds}
use Rattle.ds_planner.specs.Missing.{candidates}

-- could a scan of the index bind the part?
abbrev pub can_bind : Branch → List IndexDef → Part → PlannedIndex → Bool
can_bind b defs part i =
    list_all (λ p. leads b defs i p.property) part.equal && (not part.ancestor || binds_ancestor b defs i)

-- the pair may be chosen for a scan that binds the part: it is one of the part's, or the part has none on its property
abbrev pub agrees : Part → Pair → Bool
agrees part q = not (has_pair part.equal q.property) || chooses part.equal q

-- one more pair, where the index has its property, none of this property is chosen before, and it agrees with the part
abbrev pub with_choice : Branch → List IndexDef → PlannedIndex → Part → List Pair → Pair → List Pair
with_choice b defs i part chosen q =
    cond (leads b defs i q.property && (not (has_pair chosen q.property) && agrees part q)) (chosen ++ q ∷ []) chosen

-- the scan of an index for a part: the part's pairs, and of each other property of the index the first pair
abbrev pub scan_for : Branch → List IndexDef → Part → PlannedIndex → PlannedScan
scan_for b defs part i = record {
  index = i;
  equal = fold (with_choice b defs i part) [] b.equal;
  ancestor = bound_ancestor b defs i;
}

-- the first candidate that alone can bind all that is asked for
abbrev pub sole_index : Branch → List IndexDef → Option PlannedIndex
sole_index b defs = cond (properties_differ b.equal) (find (can_bind b defs (asked b)) (candidates b defs)) None

-- for a part that no scan binds yet, one more scan: of the first candidate that can bind it
abbrev pub with_part : Branch → List IndexDef → List PlannedScan → Part → List PlannedScan
with_part b defs scans part =
    cond (list_any (λ s. binds b defs s part) scans) scans
    (scans ++ map (scan_for b defs part) (option_to_list (find (can_bind b defs part) (candidates b defs))))

abbrev pub scans_by : Branch → List IndexDef → Option PlannedIndex → List PlannedScan
scans_by b defs (Some i) = scan_for b defs (asked b) i ∷ []
scans_by b defs None = fold (with_part b defs) [] (conditions b)

-- one scan where one suffices, else scans part by part
abbrev pub scans_of : Branch → List IndexDef → List PlannedScan
scans_of b defs = scans_by b defs (sole_index b defs)
