-- Which scans are none too many.
use Rattle.std.specs.Prelude.{Bool, ◌&&◌, ◌||◌, not, IsTrue, List, [], ◌∷◌, ◌++◌}
use Rattle.std.specs.List.{list_all}
use Rattle.std.specs.List.Sorted.{IsPermutation}
use Rattle.ds_indexdef.specs.declared.IndexDef.{IndexDef}
use Rattle.ds_query.specs.declared.branch.Branch.{Branch}
use Rattle.ds_planner.specs.declared.planned.PlannedScan.{PlannedScan}
use Rattle.ds_planner.specs.Indexes.{binds_ancestor}
use Rattle.ds_planner.specs.Parts.{Part, parts}
use Rattle.ds_planner.specs.Suits.{chooses}

-- does the scan bind all that the part asks for?
abbrev pub binds : Branch → List IndexDef → PlannedScan → Part → Bool
binds b defs s part = list_all (chooses s.equal) part.equal && (not part.ancestor || binds_ancestor b defs s.index)

-- each scan binds the part at its place, and there are as many parts as scans
abbrev pub BindEach : Branch → List IndexDef → List PlannedScan → List Part → Type 0
BindEach b defs [] [] = Unit {0}
BindEach b defs (s ∷ scans) (part ∷ given) = IsTrue (binds b defs s part) × BindEach b defs scans given
BindEach b defs _ _ = ⊥

-- each scan can be given a part of the branch that it binds, no two scans the same part: the parts are those given and others
pub record IsLean (b : Branch) (defs : List IndexDef) (scans : List PlannedScan) : Type 0 where
  pub given : List Part
  pub others : List Part
  pub each_once : IsPermutation (given ++ others) (parts b)
  pub bound : BindEach b defs scans given
