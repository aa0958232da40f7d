use Rattle.std.proofs.Common.{◌+◌, arith}
use Rattle.std.proofs.lemmas.Bool.{eqb-true}
use Rattle.ds_lanes.specs.Hits.{differ_at}
use Rattle.ds_lanes.proofs.Loads.{differing}
use Rattle.ds_lanes.proofs.Marked.{block_passed}
use Rattle.ds_lanes.proofs.prefixes.are_equal.Goals as goal

pub returns : goal.returns
returns c = λ quiet.
    let a = c.args.a.now in
    let b = c.args.b.now in
    let at = c.args.at in
    block_passed (differ_at a b) at 32 7 _ _ _ _
    (differing a b at 32 (omega arith) (omega arith)).marks (differing a b (at + 32) 32 (omega arith) (omega arith)).marks
    (differing a b (at + 64) 32 (omega arith) (omega arith)).marks (differing a b (at + 96) 32 (omega arith) (omega arith)).marks (omega arith) (eqb-true _ _ quiet)
