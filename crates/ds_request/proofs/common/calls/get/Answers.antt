use Rattle.std.proofs.Common.{Ok, codes, ap, ◌∙◌}
use Rattle.ds_json_reading.specs.Reading.{read_as, member_of}
use Rattle.ds_json_reading.specs.Keys.{key_of}
use Rattle.ds_query.specs.declared.field.Field.TheVariants as field
use Rattle.ds_request.specs.declared.call.Call.TheVariants as call
use Rattle.ds_request.specs.Requests.{told_at}
use Rattle.ds_member_reading.proofs.MemberLaws.{required_is}
use Rattle.ds_request.proofs.common.calls.get.Goals as goal

pub returns-in-Some : goal.returns-in-Some
returns-in-Some c = λ client ms h. (
  ap (λ r. read_as call.Get (told_at client field.Key r)) (required_is key_of (member_of (codes "key") ms) c.in-Some.key (h ∙ ap Ok c.in-Some.is)),
  tt,
)
