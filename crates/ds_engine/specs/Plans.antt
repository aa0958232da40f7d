-- Plans for the branches of a query, and what the first branch without one misses.
use Rattle.std.specs.Prelude.{List, [], ◌∷◌, Option, None, IsTrue, ⊤}
use Rattle.std.specs.Option.{option_or}
use Rattle.ds_indexdef.specs.declared.IndexDef.{IndexDef}
use Rattle.ds_query.specs.declared.branch.Branch.{Branch}
use Rattle.ds_planner.specs.declared.planned.ScanPlan.{ScanPlan}
use Rattle.ds_planner.specs.Lean.{IsLean}
use Rattle.ds_planner.specs.Missing.{Missing, missing_of}
use Rattle.ds_planner.specs.Suits.{suits}

-- the plan answers the branch, and no scan of it is one too many
pub record IsPlanFor (definitions : List IndexDef) (q : Branch) (p : ScanPlan) : Type 0 where
  pub serves : IsTrue (suits q definitions p.scans)
  pub lean : IsLean q definitions p.scans

-- branch by branch, a plan for it
abbrev pub ArePlansFor : List IndexDef → List Branch → List ScanPlan → Type 0
ArePlansFor definitions [] [] = ⊤
ArePlansFor definitions (q ∷ qs) (p ∷ ps) = IsPlanFor definitions q p × ArePlansFor definitions qs ps
ArePlansFor definitions [] (p ∷ ps) = ⊥
ArePlansFor definitions (q ∷ qs) [] = ⊥

-- what no index serves of the first branch that misses one
abbrev pub first_missing : List IndexDef → List Branch → Option Missing
first_missing definitions [] = None
first_missing definitions (q ∷ qs) = option_or (missing_of q definitions) (first_missing definitions qs)
