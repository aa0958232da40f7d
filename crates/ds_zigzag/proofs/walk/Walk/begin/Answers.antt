use Rattle.ds_zigzag.proofs.Walks.{walk_within}
use Rattle.ds_zigzag.proofs.walk.Walk.begin.Goals as goal

pub returns-in_err-at-clause-stops : goal.returns-in_err-at-clause-stops
returns-in_err-at-clause-stops c = walk_within c.args.scans

pub returns-in_err-extend_from_slice-clause-stops : goal.returns-in_err-extend_from_slice-clause-stops
returns-in_err-extend_from_slice-clause-stops c = walk_within c.args.scans

pub returns-clause-stops : goal.returns-clause-stops
returns-clause-stops c = walk_within c.args.scans
