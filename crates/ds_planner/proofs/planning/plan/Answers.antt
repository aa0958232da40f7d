use Rattle.std.proofs.Common.{◌≡◌, Some, None, sym, ap, ◌∙◌, subst, length}
use Rattle.std.specs.Prelude.{All, option_map}
use Rattle.std.specs.List.Sorted.{IsStrictlySortedBy}
use Rattle.ds_query.specs.Branching.{pair_cmp}
use Rattle.ds_planner.specs.declared.planned.PlannedScan.{PlannedScan}
use Rattle.ds_planner.specs.declared.planning.PlanRefused.TheVariants as refused
use Rattle.ds_planner.specs.Suits.{suits}
use Rattle.ds_planner.specs.Lean.{IsLean}
use Rattle.ds_planner.specs.Missing.{constraint_among, constraint_of}
use Rattle.ds_planner.proofs.Served.{served, told}
use Rattle.ds_planner.proofs.PlanLaws.{planned_good, lean_few, one_scan, planned_ascend}
use Rattle.ds_planner.proofs.planning.plan.Goals as goal

pub returns-in-Some-clause-missing : goal.returns-in-Some-clause-missing
returns-in-Some-clause-missing c = λ _.
    let b = c.args.branch.now in
    let defs = c.args.defs.now in
    let found = c.as_slice.ensures.value ∙ c.in_ok-found.ensures in
    let constraint : constraint_of b defs ≡ Some c.in-Some.constraint = ap (constraint_among b defs) (sym found) ∙ sym c.in_ok-constraint.ensures ∙ c.in-Some.is in
    (told b c.in-Some.constraint, ap (option_map (told b)) constraint, ap (refused.MissingIndex c.in-Some.constraint) c.in_ok-suggestion_of-in-Some.ensures)

pub returns-clause-suits : goal.returns-clause-suits
returns-clause-suits c =
    let b = c.args.branch.now in
    let defs = c.args.defs.now in
    let found = c.as_slice.ensures.value ∙ c.in_ok-found.ensures in
    let nothing : constraint_of b defs ≡ None = ap (constraint_among b defs) (sym found) ∙ sym c.in_ok-constraint.ensures ∙ c.in-None.is in
    ap (suits b defs) c.in_ok-scans_of-in-None.ensures ∙ (planned_good b defs (served b defs nothing)).suits

pub returns-clause-lean : goal.returns-clause-lean
returns-clause-lean c =
    let b = c.args.branch.now in
    let defs = c.args.defs.now in
    let found = c.as_slice.ensures.value ∙ c.in_ok-found.ensures in
    let nothing : constraint_of b defs ≡ None = ap (constraint_among b defs) (sym found) ∙ sym c.in_ok-constraint.ensures ∙ c.in-None.is in
    subst (IsLean b defs) (sym c.in_ok-scans_of-in-None.ensures) (planned_good b defs (served b defs nothing)).lean

pub returns-clause-few : goal.returns-clause-few
returns-clause-few c = lean_few c.args.branch.now c.args.defs.now c.in_ok-scans_of-in-None.field-0 (returns-clause-lean c)

pub returns-clause-one : goal.returns-clause-one
returns-clause-one c = λ scan h. ap length c.in_ok-scans_of-in-None.ensures ∙ one_scan c.args.branch.now c.args.defs.now scan c.requires.lawful h

pub returns-clause-ascending : goal.returns-clause-ascending
returns-clause-ascending c = subst (All (λ (s : PlannedScan). IsStrictlySortedBy pair_cmp s.equal)) (sym c.in_ok-scans_of-in-None.ensures) (planned_ascend c.args.branch.now c.args.defs.now c.requires.lawful.pairs_ascend)
