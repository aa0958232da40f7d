use Rattle.std.proofs.Common.{◌+◌, arith}
use Rattle.std.proofs.lemmas.Bool.{eqb-true}
use Rattle.ds_lanes.specs.Hits.{visible_at}
use Rattle.ds_lanes.proofs.Loads.{seen}
use Rattle.ds_lanes.proofs.Marked.{block_passed}
use Rattle.ds_lanes.proofs.columns.are_unseen.Goals as goal

pub returns : goal.returns
returns c = λ quiet.
    let from = c.args.from.now in
    let to = c.args.to.now in
    let at = c.args.at in
    let i = c.args.i in
    block_passed (visible_at from to at) i 4 63 _ _ _ _
    (seen from to _ at i 4 c.begun_ends.ensures.long c.begun_ends.ensures.each).marks
    (seen from to _ at (i + 4) 4 c.begun_ends-2.ensures.long c.begun_ends-2.ensures.each).marks
    (seen from to _ at (i + 8) 4 c.begun_ends-3.ensures.long c.begun_ends-3.ensures.each).marks
    (seen from to _ at (i + 12) 4 c.begun_ends-4.ensures.long c.begun_ends-4.ensures.each).marks (omega arith) (eqb-true _ _ quiet)
