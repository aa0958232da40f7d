use Rattle.std.proofs.Common.{Ok, codes, ap, ◌∙◌}
use Rattle.ds_json_reading.specs.Reading.{read_as, member_of}
use Rattle.ds_query.specs.declared.field.Field.TheVariants as field
use Rattle.ds_request.specs.declared.call.Call.TheVariants as call
use Rattle.ds_member_reading.specs.Forms.{count_of}
use Rattle.ds_request.specs.Lawful.{IsLawfulCall}
use Rattle.ds_request.specs.Requests.{told_at, allocate_ids_call_of}
use Rattle.ds_request.proofs.LawfulLemmas.{value_kept, allocate_ids_lawful}
use Rattle.ds_member_reading.proofs.MemberLaws.{required_is}
use Rattle.ds_request.proofs.common.calls.allocate_ids.Goals as goal

pub returns-in-Some : goal.returns-in-Some
returns-in-Some c = λ client ms h.
    let made = ap (λ r. read_as call.AllocateIds (told_at client field.Count r)) (required_is count_of (member_of (codes "count") ms) c.in-Some.count (h ∙ ap Ok c.in-Some.is)) in
    (made, value_kept IsLawfulCall (allocate_ids_call_of client ms) (call.AllocateIds c.in-Some.count) made (allocate_ids_lawful client ms))
