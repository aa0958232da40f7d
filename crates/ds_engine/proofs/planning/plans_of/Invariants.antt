-- The branches so far miss no index, and there is a plan for each.
use Rattle.std.proofs.Common.{◌≡◌, take, drop}
use Rattle.ds_engine.specs.Plans.{ArePlansFor, first_missing}
use Rattle.ds_engine.proofs.planning.plans_of.Given as goal

abbrev pub invariant-loop-branch : goal.invariant-loop-branch
invariant-loop-branch l = record {
  missing : first_missing l.defs (drop l.branch-index l.branches) ≡ first_missing l.defs l.branches;
  planned : ArePlansFor l.defs (take l.branch-index l.branches) l.plans.items;
}
