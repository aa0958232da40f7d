use Rattle.ds_planner.specs.Indexes.{is_candidate}
use Rattle.ds_planner.specs.Missing.{indexes, candidates}
use Rattle.ds_planner.proofs.Members.{filter_member, contained, member_contained}
use Rattle.ds_planner.proofs.Served.{candidate_listed}
use Rattle.ds_planner.proofs.laws.candidates_are_all.Goals as goal

pub returns : goal.returns
returns c = λ i.
    let b = c.args.branch.now in
    let defs = c.args.defs.now in (
      λ h. contained (candidates b defs) i (candidate_listed b defs c.requires.lawful.key_last i h),
      λ m. (filter_member (is_candidate b defs) (indexes b defs) i (member_contained (candidates b defs) i m)).1,
    )
