use Rattle.std.proofs.Common.{arith}
use Rattle.ds_request.proofs.EntitiesLemmas.{properties_ascend}
use Rattle.ds_request.proofs.forms.entities.read_each_property.Goals as goal

pub returns-clause-lawful : goal.returns-clause-lawful
returns-clause-lawful c = record {
  ascending = properties_ascend c.args.members.entries c.in_ok-properties.properties c.in_ok-properties.ensures.ascending c.in_ok-properties.ensures.read;
  few = omega arith;
}
