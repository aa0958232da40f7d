use Rattle.std.proofs.Common.{sym, subst}
use Rattle.ds_shard.specs.Histories.{IsHistory}
use Rattle.ds_shard.proofs.HistoryLaws.{history-undone}
use Rattle.ds_shard.proofs.version_list.VersionList.undo.Goals as goal

pub invariant_of-self : goal.invariant_of-self
invariant_of-self c =
    subst IsHistory (sym c.open_last.ensures) (history-undone c.args.stamp _ c.take_off.ensures.begun c.take_off.ensures.history)

pub returns-clause-history : goal.returns-clause-history
returns-clause-history c =
    subst IsHistory (sym c.open_last.ensures) (history-undone c.args.stamp _ c.take_off.ensures.begun c.take_off.ensures.history)
