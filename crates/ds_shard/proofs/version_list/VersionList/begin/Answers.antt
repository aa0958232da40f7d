use Rattle.std.proofs.Common.{refl, sym, subst}
use Rattle.ds_shard.specs.Histories.{IsOver}
use Rattle.std.specs.List.{AllByRecursion as Each}
use Rattle.ds_shard.proofs.HistoryLaws.{history_more}
use Rattle.ds_shard.proofs.version_list.VersionList.begin.Goals as goal

pub invariant_of-self-2 : goal.invariant_of-self-2
invariant_of-self-2 c =
    history_more c.self.inside.items.items _ _ c.args.stamp (rw c.make_room.ensures at c.in_ok-push_back.ensures.items) refl refl c.self.invariant
    (subst (Each (IsOver c.args.stamp)) (sym c.self.view_is) c.requires)

pub returns-clause-history : goal.returns-clause-history
returns-clause-history c =
    history_more c.self.inside.items.items _ _ c.args.stamp (rw c.make_room.ensures at c.in_ok-push_back.ensures.items) refl refl c.self.invariant
    (subst (Each (IsOver c.args.stamp)) (sym c.self.view_is) c.requires)
