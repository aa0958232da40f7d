-- The branches so far miss no index, and there is a plan for each.
use Rattle.ds_protocol.proofs.Words.{◌≡◌, take, drop, missing_refusal, ArePlansFor}
use Rattle.ds_protocol.proofs.preparing.plans_of.Given as goal

abbrev pub invariant-loop-branch : goal.invariant-loop-branch
invariant-loop-branch l = record {
  missing : missing_refusal l.defs (drop l.branch-index l.branches) ≡ missing_refusal l.defs l.branches;
  planned : ArePlansFor l.defs (take l.branch-index l.branches) l.plans.items;
}
