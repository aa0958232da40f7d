use Rattle.std.proofs.Common.{◌≡◌, Ok, arith}
use Rattle.serde_json.specs.Data.{string}
use Rattle.ds_member_reading.specs.Forms.{op_of}
use Rattle.ds_member_reading.proofs.TermLaws.{filter_made}
use Rattle.ds_member_reading.proofs.terms.filter.Goals as goal

pub returns : goal.returns
returns c = λ d is.
    let named : op_of (string c.args.op.now) ≡ Ok c.in-Ok.op = grind arith in
    filter_made c.args.property.now c.args.op.now d c.in_ok-property.property c.in-Ok.op c.in_ok-values.values c.in_ok-property.ensures named (c.in_ok-values.ensures d is)
