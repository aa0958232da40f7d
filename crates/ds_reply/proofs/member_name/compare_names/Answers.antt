use Rattle.std.proofs.Common.{◌∙◌}
use Rattle.ds_reply.proofs.NameOrder.{ranks-compare}
use Rattle.ds_reply.proofs.member_name.compare_names.Goals as goal

pub returns : goal.returns
returns c = rw (c.cmp.ensures, c.rank.ensures, c.rank-2.ensures) (ranks-compare c.args.name c.args.other)
