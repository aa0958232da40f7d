use Rattle.std.proofs.Common.{◌∙◌}
use Rattle.ds_query.proofs.SplitLemmas.{length-choices_unequal, length-choices_other}
use Rattle.ds_query.proofs.splitting.count_choices.Goals as goal

pub returns-in-NotEqual : goal.returns-in-NotEqual
returns-in-NotEqual c = length-choices_unequal c.args.filter.now c.in-NotEqual.is c.requires

pub returns-in_default : goal.returns-in_default
returns-in_default c = c.len.ensures ∙ length-choices_other c.args.filter.now c.in_default.not-NotEqual
