use Rattle.std.proofs.Common.{◌≡◌, true, arith}
use Rattle.ds_request.proofs.CommonLaws.{object_request}
use Rattle.ds_request.proofs.common.read_into.Goals as goal

pub returns : goal.returns
returns c =
    let filled : c.fill_from.result ≡ true = grind arith in
    let all = c.fill_from.ensures filled in
    object_request c.args.text.now all.0 c.request_of.result all.1 (c.request_of.ensures all.0 all.2)
