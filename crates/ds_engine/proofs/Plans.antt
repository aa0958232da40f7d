-- Branch after branch a plan is found.
use Rattle.std.proofs.Common.{◌≡◌, ℕ, zero, suc, ◌+◌, ◌<◌, List, [], ◌∷◌, ◌++◌, length, take, drop, get_or, subst, sym, ap, ◌∙◌, refl}
use Rattle.std.proofs.Common.{arith}
use Rattle.std.proofs.Common.{Option, Some, None}
use Rattle.std.specs.Option.{option_or}
use Rattle.std.proofs.lemmas.List.{take_more}
use Rattle.ds_indexdef.specs.declared.IndexDef.{IndexDef}
use Rattle.ds_query.specs.declared.branch.Branch.{Branch}
use Rattle.ds_planner.specs.declared.planned.ScanPlan.{ScanPlan}
use Rattle.ds_planner.specs.Missing.{Missing, missing_of}
use Rattle.ds_engine.specs.Plans.{ArePlansFor, IsPlanFor, first_missing}

plans-more : (definitions : List IndexDef) (qs : List Branch) (ps : List ScanPlan) (q : Branch) (p : ScanPlan)
    → ArePlansFor definitions qs ps → IsPlanFor definitions q p → ArePlansFor definitions (qs ++ q ∷ []) (ps ++ p ∷ [])
plans-more definitions [] [] q p all one = (one, tt)
plans-more definitions [] (b ∷ ps) q p all one = absurd all
plans-more definitions (a ∷ qs) [] q p all one = absurd all
plans-more definitions (a ∷ qs) (b ∷ ps) q p all one = (all.0, plans-more definitions qs ps q p all.1 one)

-- a plan for one branch more
pub plans-step : (definitions : List IndexDef) (qs : List Branch) (i : ℕ) (ps new : List ScanPlan) (q : Branch) (p : ScanPlan)
    → ArePlansFor definitions (take i qs) ps → IsPlanFor definitions q p → i < length qs → q ≡ get_or qs i q → new ≡ ps ++ p ∷ []
    → ArePlansFor definitions (take (i + 1) qs) new
plans-step definitions qs i ps new q p all one below item is =
    subst (ArePlansFor definitions (take (i + 1) qs)) (sym is)
    (subst (λ front. ArePlansFor definitions front (ps ++ p ∷ []))
    (ap (λ b. take i qs ++ b ∷ []) item ∙ sym (take_more qs i q below))
    (plans-more definitions (take i qs) ps q p all one))

-- there are as many plans as branches
pub as_many : (definitions : List IndexDef) (qs : List Branch) (ps : List ScanPlan) → ArePlansFor definitions qs ps → length ps ≡ length qs
as_many definitions [] [] all = refl
as_many definitions [] (p ∷ ps) all = absurd all
as_many definitions (q ∷ qs) [] all = absurd all
as_many definitions (q ∷ qs) (p ∷ ps) all = ap suc (as_many definitions qs ps all.1)

-- each is for the branch at its place
pub plan_at : (definitions : List IndexDef) (qs : List Branch) (ps : List ScanPlan) (i : ℕ) (q : Branch) (p : ScanPlan)
    → ArePlansFor definitions qs ps → i < length qs → q ≡ get_or qs i q → p ≡ get_or ps i p → IsPlanFor definitions q p
plan_at definitions [] ps i q p all below here there = absurd (omega (arith, below))
plan_at definitions (b ∷ qs) [] i q p all below here there = absurd all
plan_at definitions (b ∷ qs) (a ∷ ps) zero q p all below here there =
    subst (λ x. IsPlanFor definitions x p) (sym here) (subst (IsPlanFor definitions b) (sym there) all.0)
plan_at definitions (b ∷ qs) (a ∷ ps) (suc i) q p all below here there =
    plan_at definitions qs ps i q p all.1 (omega (arith, below)) here there

-- ---- what is missing

or_first : (o p : Option Missing) → o ≡ None → option_or o p ≡ p
or_first None p none = refl
or_first (Some m) p none = cc

-- one branch more misses no index
pub missing-step : (definitions : List IndexDef) (qs : List Branch) (i : ℕ) (q : Branch) → i < length qs → q ≡ get_or qs i q
    → missing_of q definitions ≡ None
    → first_missing definitions (drop (i + 1) qs) ≡ first_missing definitions (drop i qs)
missing-step definitions qs i q below item none =
    ap (λ n. first_missing definitions (drop n qs)) (let e : i + 1 ≡ suc i = omega arith in e) ∙ here qs i below item where
      here : (bs : List Branch) (j : ℕ) → j < length bs → q ≡ get_or bs j q
          → first_missing definitions (drop (suc j) bs) ≡ first_missing definitions (drop j bs)
      here [] j low is = absurd (omega arith)
      here (b ∷ bs) zero low is =
          sym (or_first (missing_of b definitions) (first_missing definitions bs) (ap (λ x. missing_of x definitions) (sym is) ∙ none))
      here (b ∷ bs) (suc j) low is = here bs j (omega arith) is

-- the first branch that misses one
pub missing-here : (definitions : List IndexDef) (qs : List Branch) (i : ℕ) (q : Branch) (m : Missing) → i < length qs
    → q ≡ get_or qs i q → missing_of q definitions ≡ Some m → first_missing definitions (drop i qs) ≡ Some m
missing-here definitions [] i q m below item is = absurd (omega (arith, below))
missing-here definitions (b ∷ qs) zero q m below item is =
    ap (λ o. option_or o (first_missing definitions qs)) (ap (λ x. missing_of x definitions) (sym item) ∙ is)
missing-here definitions (b ∷ qs) (suc i) q m below item is = missing-here definitions qs i q m (omega (arith, below)) item is
