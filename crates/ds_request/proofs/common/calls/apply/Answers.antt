use Rattle.std.proofs.Common.{Ok, codes, ap, ◌∙◌}
use Rattle.ds_json_reading.specs.Reading.{read_as, member_of}
use Rattle.ds_member_reading.specs.Forms.{shard_of}
use Rattle.ds_query.specs.declared.field.Field.TheVariants as field
use Rattle.ds_request.specs.declared.call.Call.TheVariants as call
use Rattle.ds_request.specs.Requests.{told_at}
use Rattle.ds_member_reading.proofs.MemberLaws.{required_is}
use Rattle.ds_request.proofs.common.calls.apply.Goals as goal

pub returns-in-Some : goal.returns-in-Some
returns-in-Some c = λ client ms h. (
  ap (λ r. read_as call.Apply (told_at client field.Shard r)) (required_is shard_of (member_of (codes "shard") ms) c.in-Some.shard (h ∙ ap Ok c.in-Some.is)),
  tt,
)
