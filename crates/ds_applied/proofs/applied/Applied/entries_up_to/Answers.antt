use Rattle.std.proofs.Common.{◌<◌, ◌≤◌, ◌∙◌, ap, sym, subst, length}
use Rattle.ds_model.specs.Sessions.{list_of}
use Rattle.ds_applied.specs.AppliedLists.{AppliedParts}
use Rattle.ds_applied.proofs.CountSteps.{list_index}
use Rattle.ds_applied.proofs.FollowLaws.{list_followed}
use Rattle.ds_applied.proofs.applied.Applied.entries_up_to.Goals as goal

pub returns-clause-value : goal.returns-clause-value
returns-clause-value c = λ journal follows.
    c.entries_up_to.ensures.value journal c.args.self.now.commits c.args.shard c.args.self.now.shards
    (list_index c.self.inside.shards.items c.args.shard c.index.result.now
    (subst (λ (p : AppliedParts). c.args.shard < p.shards) (sym c.self.view_is) c.requires.shard) c.index.ensures
    ∙ ap (λ (p : AppliedParts). list_of p.lists c.args.shard) c.self.view_is
    ∙ list_followed journal c.args.self.now c.args.shard follows c.requires.shard) c.requires.place

pub returns-clause-within : goal.returns-clause-within
returns-clause-within c =
    subst (λ es. c.entries_up_to.result ≤ length es)
    (list_index c.self.inside.shards.items c.args.shard c.index.result.now
    (subst (λ (p : AppliedParts). c.args.shard < p.shards) (sym c.self.view_is) c.requires.shard) c.index.ensures
    ∙ ap (λ (p : AppliedParts). list_of p.lists c.args.shard) c.self.view_is)
    c.entries_up_to.ensures.within
