use Rattle.std.proofs.Common.{sym, subst}
use Rattle.ds_shard.specs.Histories.{BeginsBy, IsHistory}
use Rattle.std.specs.List.{AllByRecursion as Each}
use Rattle.ds_shard.proofs.HistoryLaws.{history-ended}
use Rattle.ds_shard.proofs.version_list.VersionList.end.Goals as goal

pub invariant_of-self : goal.invariant_of-self
invariant_of-self c =
    subst IsHistory (sym c.end_last.ensures)
    (history-ended c.args.stamp _ (subst (Each (BeginsBy c.args.stamp)) (sym c.self.view_is) c.requires) c.self.invariant)

pub returns-clause-history : goal.returns-clause-history
returns-clause-history c =
    subst IsHistory (sym c.end_last.ensures)
    (history-ended c.args.stamp _ (subst (Each (BeginsBy c.args.stamp)) (sym c.self.view_is) c.requires) c.self.invariant)
