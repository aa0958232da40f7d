use Rattle.std.proofs.Common.{◌∙◌}
use Rattle.ds_json_reading.proofs.MembersLemmas.{member_found, other_stays}
use Rattle.ds_json_reading.proofs.members.take_member.Goals as goal

pub returns-clause-taken : goal.returns-clause-taken
returns-clause-taken c = c.unless_null.ensures ∙ member_found c.args.members.now c.args.name.now _ c.remove-found.ensures.value

pub returns-clause-others : goal.returns-clause-others
returns-clause-others c = λ other apart. other_stays c.args.members.now c.remove-found.new.self c.args.name.now other c.remove-found.ensures.updates apart
