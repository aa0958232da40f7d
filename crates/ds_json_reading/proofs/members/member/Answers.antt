use Rattle.std.proofs.Common.{ap, ◌∙◌}
use Rattle.ds_json_reading.specs.Reading.{unless_null}
use Rattle.ds_json_reading.proofs.MembersLemmas.{member_found, seen_behind}
use Rattle.ds_json_reading.proofs.members.member.Goals as goal

pub returns : goal.returns
returns c =
    c.unless_null_behind.ensures ∙ ap unless_null (seen_behind c.get-found.result) ∙ member_found c.args.members.now c.args.name.now _ c.get-found.ensures.value
