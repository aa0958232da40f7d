use Rattle.std.proofs.Common.{sym, subst}
use Rattle.ds_shard.specs.Histories.{IsHistory, outlives}
use Rattle.ds_shard.proofs.HistoryLaws.{history-filter}
use Rattle.ds_shard.proofs.version_list.VersionList.trim.Goals as goal

pub invariant_of-self : goal.invariant_of-self
invariant_of-self c = subst IsHistory (sym c.trim_front.ensures) (history-filter (outlives c.args.floor) _ c.self.invariant)

pub returns-clause-history : goal.returns-clause-history
returns-clause-history c = subst IsHistory (sym c.trim_front.ensures) (history-filter (outlives c.args.floor) _ c.self.invariant)
