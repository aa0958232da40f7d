use Rattle.std.proofs.Common.{Ok, codes, sym, ap, ◌∙◌}
use Rattle.ds_json_reading.specs.Reading.{member_of}
use Rattle.ds_member_reading.specs.Forms.{client_of}
use Rattle.ds_member_reading.proofs.MemberLaws.{required_is, defaulted_is}
use Rattle.ds_request.specs.Requests.{operation_of}
use Rattle.ds_request.proofs.CommonLaws.{request_made}
use Rattle.ds_request.proofs.common.calls.request_of.Goals as goal

pub returns : goal.returns
returns c = λ ms h.
    let client = c.unwrap_or-client.result in
    let one = c.in_ok-call.ensures client ms h in
    let whose = defaulted_is client_of 0 (member_of (codes "client") ms) c.args.table.now.slots.1.1.0.found h.1.1.0 ∙ ap Ok (sym c.unwrap_or-client.ensures) in
    let what = required_is operation_of (member_of (codes "op") ms) c.in_ok-operation.operation (h.0 ∙ ap Ok c.in_ok-operation.was) in
    (request_made ms client c.in_ok-operation.operation c.in_ok-call.call whose what one.0, one.1)
