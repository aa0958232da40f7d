use Rattle.std.proofs.Common.{Ok, codes, sym, ap, ◌∙◌}
use Rattle.ds_json_reading.specs.Reading.{read_as, member_of}
use Rattle.ds_query.specs.declared.field.Field.TheVariants as field
use Rattle.ds_request.specs.declared.call.Call.TheVariants as call
use Rattle.ds_request.specs.Entities.{PutParts, entity_of}
use Rattle.ds_request.specs.Requests.{told_at}
use Rattle.ds_member_reading.proofs.MemberLaws.{required_is}
use Rattle.ds_request.proofs.common.calls.put.Goals as goal

pub returns-in-Some : goal.returns-in-Some
returns-in-Some c = λ client ms h. (
  ap (λ r. read_as (λ (p : PutParts). call.Put p.key p.incomplete p.properties) (told_at client field.Entity r)) (required_is entity_of (member_of (codes "entity") ms) c.in-Some.written (h ∙ ap Ok c.in-Some.is))
      ∙ ap Ok (sym c.into_call.ensures.call),
  c.into_call.ensures.lawful,
)
