-- Branch after branch a plan is found.
use Rattle.ds_protocol.proofs.Words.{◌≡◌, ℕ, zero, suc, ◌+◌, ◌<◌, List, [], ◌∷◌, ◌++◌, length, take, drop, get_or, arith, None, add-one}
use Rattle.ds_protocol.proofs.Words.{IndexDef, Branch, missing_refusal, ArePlansFor}
use Rattle.std.proofs.Common.{drop-cons}
use Rattle.std.proofs.lemmas.Grind.{common_steps}
use Rattle.ds_planner.specs.declared.planned.ScanPlan.{ScanPlan}
use Rattle.ds_planner.specs.Missing.{missing_of}
use Rattle.ds_protocol.specs.Preparing.{IsPlanFor}

-- a plan for one branch more
plans_more : (definitions : List IndexDef) (qs : List Branch) (i : ℕ) (ps : List ScanPlan) (q : Branch) (p : ScanPlan) → i < length qs
    → q ≡ get_or qs i q → ArePlansFor definitions (take i qs) ps → IsPlanFor definitions q p
    → ArePlansFor definitions (take (suc i) qs) (ps ++ p ∷ [])
plans_more definitions [] i ps q p below item all one = absurd (omega arith)
plans_more definitions (b ∷ qs) zero ps q p below item all one = grind arith
plans_more definitions (b ∷ qs) (suc i) ps q p below item all one = grind (arith, plans_more definitions qs i)

pub plans_step : (definitions : List IndexDef) (qs : List Branch) (i : ℕ) (ps new : List ScanPlan) (q : Branch) (p : ScanPlan)
    → i < length qs → q ≡ get_or qs i q → ArePlansFor definitions (take i qs) ps → IsPlanFor definitions q p → new ≡ ps ++ p ∷ []
    → ArePlansFor definitions (take (i + 1) qs) new
plans_step definitions qs i ps new q p below item all one is = rw (is, add-one) (plans_more definitions qs i ps q p below item all one)

-- one branch more misses no index
pub missing_step : (definitions : List IndexDef) (qs : List Branch) (i : ℕ) (q : Branch) → i < length qs → q ≡ get_or qs i q
    → missing_of q definitions ≡ None → missing_refusal definitions (drop (i + 1) qs) ≡ missing_refusal definitions (drop i qs)
missing_step definitions qs i q below item none = grind (arith, common_steps, drop-cons qs i q)
