use Rattle.std.proofs.Common.{◌+◌, arith}
use Rattle.std.proofs.lemmas.Bool.{eqb-true}
use Rattle.ds_lanes.specs.Hits.{zero_at}
use Rattle.ds_lanes.proofs.Loads.{zeros}
use Rattle.ds_lanes.proofs.Marked.{block_passed}
use Rattle.ds_lanes.proofs.zeros.lacks_zero.Goals as goal

pub returns : goal.returns
returns c = λ quiet.
    let bytes = c.args.bytes.now in
    let at = c.args.at in
    block_passed (zero_at bytes) at 32 7 _ _ _ _
    (zeros bytes at 32 (omega arith)).marks (zeros bytes (at + 32) 32 (omega arith)).marks
    (zeros bytes (at + 64) 32 (omega arith)).marks (zeros bytes (at + 96) 32 (omega arith)).marks (omega arith) (eqb-true _ _ quiet)
