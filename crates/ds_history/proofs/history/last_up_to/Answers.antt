use Rattle.std.proofs.Common.{◌∙◌, ap, Some}
use Rattle.ds_history.proofs.Numbers.{last_none, last_some, up_to_within}
use Rattle.ds_history.proofs.history.last_up_to.Goals as goal

pub commit_of-requires : goal.commit_of-requires
commit_of-requires c = up_to_within c.args.place _ _ c.up_to-count.ensures.value

pub returns-then-count-eq0 : goal.returns-then-count-eq0
returns-then-count-eq0 c = last_none c.args.place _ _ c.up_to-count.ensures.value c.if-count-eq0.true

pub returns-else-count-eq0 : goal.returns-else-count-eq0
returns-else-count-eq0 c = ap Some c.commit_of.ensures ∙ last_some c.args.place _ _ c.up_to-count.ensures.value c.if-count-eq0.false
