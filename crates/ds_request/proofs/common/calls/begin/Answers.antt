use Rattle.std.proofs.Common.{false, Ok, codes, sym, ap, ◌∙◌}
use Rattle.ds_json_reading.specs.Reading.{read_as, member_of}
use Rattle.ds_query.specs.declared.field.Field.TheVariants as field
use Rattle.ds_request.specs.declared.call.Call.TheVariants as call
use Rattle.ds_member_reading.specs.Forms.{flag_of}
use Rattle.ds_request.specs.Requests.{told_at}
use Rattle.ds_member_reading.proofs.MemberLaws.{defaulted_is}
use Rattle.ds_request.proofs.common.calls.begin.Goals as goal

pub returns : goal.returns
returns c = λ client ms h. (
  ap (λ r. read_as call.Begin (told_at client field.Xg r)) (defaulted_is flag_of false (member_of (codes "xg") ms) c.args.xg h) ∙ ap (λ b. Ok (call.Begin b)) (sym c.unwrap_or.ensures),
  tt,
)
