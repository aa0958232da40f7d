use Rattle.std.proofs.Common.{◌∙◌}
use Rattle.ds_query.proofs.NameLemmas.{contains-has_name}
use Rattle.ds_query.proofs.names.NameSet.contains.Goals as goal

pub returns : goal.returns
returns c = rw (← c.self.view_is) (c.contains.ensures ∙ contains-has_name c.self.inside.names.keys c.args.name.now)
