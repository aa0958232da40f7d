use Rattle.std.proofs.Common.{◌≡◌, true, Ok, codes, ap, ◌∙◌, arith}
use Rattle.ds_base.specs.Keys.{is_writable}
use Rattle.ds_json_reading.specs.Reading.{read_as, member_of}
use Rattle.ds_json_reading.specs.Keys.{key_of}
use Rattle.ds_query.specs.declared.field.Field.TheVariants as field
use Rattle.ds_request.specs.declared.call.Call.TheVariants as call
use Rattle.ds_request.specs.Requests.{told_at}
use Rattle.ds_member_reading.proofs.MemberLaws.{required_is}
use Rattle.ds_request.proofs.CommonLaws.{writable_required}
use Rattle.ds_request.proofs.common.calls.delete.Goals as goal

pub returns-else-not-writable : goal.returns-else-not-writable
returns-else-not-writable c = λ client ms h.
    let m = member_of (codes "key") ms in
    let writable : is_writable c.in-Some.key ≡ true = grind arith in (
      ap (λ r. read_as call.Delete (told_at client field.Key r)) (writable_required m c.in-Some.key (required_is key_of m c.in-Some.key (h ∙ ap Ok c.in-Some.is)) writable),
      tt,
    )
