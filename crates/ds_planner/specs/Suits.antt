-- Which scans answer a branch together.
use Rattle.std.specs.Prelude.{Bool, true, false, ◌&&◌, ◌||◌, not, cond, List, [], ◌∷◌, Option, Some, None, is_none}
use Rattle.std.specs.List.{list_any, list_all}
use Rattle.std.specs.Ordering.{eq_by_cmp}
use Rattle.ds_base.specs.Keys.{KeyParts}
use Rattle.ds_base.specs.KeyOrder.{same_key}
use Rattle.ds_indexdef.specs.declared.IndexDef.{IndexDef}
use Rattle.ds_query.specs.declared.branch.Pair.{Pair}
use Rattle.ds_query.specs.declared.branch.Branch.{Branch}
use Rattle.ds_query.specs.Branching.{pair_cmp}
use Rattle.ds_query.specs.Lawful.{has_pair}
use Rattle.ds_planner.specs.declared.planned.PlannedIndex.{PlannedIndex}
use Rattle.ds_planner.specs.declared.planned.PlannedScan.{PlannedScan}
use Rattle.ds_planner.specs.Indexes.{is_paired, leads, has_flag, is_candidate, binds_ancestor}

-- is the pair among these?
abbrev pub chooses : List Pair → Pair → Bool
chooses pairs p = list_any (eq_by_cmp pair_cmp p) pairs

-- no two pairs are on one property
abbrev pub properties_differ : List Pair → Bool
properties_differ [] = true
properties_differ (p ∷ ps) = not (has_pair ps p.property) && properties_differ ps

abbrev pub same_ancestor : Option KeyParts → Option KeyParts → Bool
same_ancestor None None = true
same_ancestor (Some a) (Some b) = same_key a b
same_ancestor _ _ = false

-- the branch's ancestor, for an index whose definition has the ancestor flag
abbrev pub bound_ancestor : Branch → List IndexDef → PlannedIndex → Option KeyParts
bound_ancestor b defs i = cond (has_flag defs i) b.ancestor None

-- one of the branch's pairs for each equality property of the index, and for no other property
abbrev pub is_choice : Branch → List IndexDef → PlannedIndex → List Pair → Bool
is_choice b defs i pairs =
    list_all (chooses b.equal) pairs
    && list_all (λ p. leads b defs i p.property) pairs
    && is_paired b defs i pairs
    && properties_differ pairs

-- a candidate with such pairs, and with the branch's ancestor exactly where its definition has the ancestor flag
abbrev pub is_scan : Branch → List IndexDef → PlannedScan → Bool
is_scan b defs s =
    is_candidate b defs s.index
    && is_choice b defs s.index s.equal
    && same_ancestor s.ancestor (bound_ancestor b defs s.index)

abbrev pub are_some : {A : Type 0} → List A → Bool
are_some [] = false
are_some (x ∷ xs) = true

-- scans of candidates, at least one, each pair chosen by one of them, and the ancestor bound by one if there is an ancestor
abbrev pub suits : Branch → List IndexDef → List PlannedScan → Bool
suits b defs scans =
    are_some scans
    && list_all (is_scan b defs) scans
    && list_all (λ p. list_any (λ s. chooses s.equal p) scans) b.equal
    && (is_none b.ancestor || list_any (λ s. binds_ancestor b defs s.index) scans)
