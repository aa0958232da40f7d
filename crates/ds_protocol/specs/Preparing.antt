-- What is promised of a search that is prepared, and of one that is refused.
use Rattle.std.specs.Prelude.{◌≡◌, Bool, List, [], ◌∷◌, Some, None, is_some, IsTrue, ⊤}
use Rattle.ds_indexdef.specs.declared.IndexDef.{IndexDef}
use Rattle.ds_query.specs.declared.branch.Branch.{Branch}
use Rattle.ds_query.specs.declared.branch.Normal.{Normal}
use Rattle.ds_query.specs.declared.branch.Window.{Window}
use Rattle.ds_query.specs.Normals.{normal_form}
use Rattle.ds_cursor.specs.Cursors.{IsPlaceIn}
use Rattle.ds_planner.specs.declared.planned.ScanPlan.{ScanPlan}
use Rattle.ds_planner.specs.Lean.{IsLean}
use Rattle.ds_planner.specs.Suits.{suits}
use Rattle.ds_reply.specs.declared.reply.Body.{Body}
use Rattle.ds_model.specs.Answers.{window_of}
use Rattle.ds_model.specs.Asked.{Search}
use Rattle.ds_model.specs.Refusals.{Places, PlacesRead, IfUnrefused, form_refusal, search_refusal, ancestor_group_refusal}
use Rattle.ds_model.specs.Sessions.{Session}

-- a session is in a transaction exactly where this is true
abbrev pub IsInside : Bool → Session → Type 0
IsInside inside s = is_some s.transaction ≡ inside

-- the places of a window are rows of the branch's columns
pub record ArePlacesOf (w : Window) (q : Branch) : Type 0 where
  pub start : IsPlaceIn q.columns w.start
  pub end : IsPlaceIn q.columns w.end

-- Nothing but its group is left to refuse the search in such a session: its form is fine, its texts are cursors, and each branch has an
-- index. The normal form and the window are the search's.
pub record IsReady (definitions : List IndexDef) (inside : Bool) (search : Search) (normal : Normal) (window : Window) : Type 0 where
  pub places : Places
  pub formed : (s : Session) → IsInside inside s → form_refusal s search.query ≡ None
  pub read : PlacesRead (normal_form search.query).branches search places
  pub unrefused : (s : Session) → IsInside inside s
      → search_refusal definitions s search places ≡ ancestor_group_refusal s.transaction search.query.ancestor
  pub normal_is : normal ≡ normal_form search.query
  pub window_is : window ≡ window_of search places

-- The search is refused with this in such a session, before its group is looked at.
pub record IsRefused (definitions : List IndexDef) (inside : Bool) (search : Search) (b : Body) : Type 0 where
  pub places : Places
  pub read : (s : Session) → IsInside inside s
      → IfUnrefused (form_refusal s search.query) (PlacesRead (normal_form search.query).branches search places)
  pub told : (s : Session) → IsInside inside s → search_refusal definitions s search places ≡ Some b

-- ---- plans

-- the plan answers the branch, and no scan of it is one too many
pub record IsPlanFor (definitions : List IndexDef) (q : Branch) (p : ScanPlan) : Type 0 where
  pub serves : IsTrue (suits q definitions p.scans)
  pub lean : IsLean q definitions p.scans

-- branch by branch, a plan for it
abbrev pub ArePlansFor : List IndexDef → List Branch → List ScanPlan → Type 0
ArePlansFor definitions [] [] = ⊤
ArePlansFor definitions (q ∷ qs) (p ∷ ps) = IsPlanFor definitions q p × ArePlansFor definitions qs ps
ArePlansFor definitions _ _ = ⊥
