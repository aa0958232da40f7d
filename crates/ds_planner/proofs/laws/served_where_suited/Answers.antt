use Rattle.ds_planner.specs.Choices.{scans_of}
use Rattle.ds_planner.proofs.Served.{served, nothing_missing, missing_none, none_missing}
use Rattle.ds_planner.proofs.PlanLaws.{planned_good, suited, suited_served}
use Rattle.ds_planner.proofs.laws.served_where_suited.Goals as goal

pub returns : goal.returns
returns c =
    let b = c.args.branch.now in
    let defs = c.args.defs.now in (
      λ h. (scans_of b defs, (planned_good b defs (served b defs (none_missing b defs h))).suits),
      λ w. missing_none b defs (nothing_missing b defs (suited_served b defs w.0 c.requires.lawful.key_last (suited b defs w.0 w.1))),
    )
