use Rattle.std.proofs.Common.{◌≡◌, ◌<◌, ◌∙◌, ap, arith, get_or, length, refl, rules}
use Rattle.ds_applied.specs.AppliedLists.{left_by}
use Rattle.ds_applied.specs.ByKey.{joined}
use Rattle.ds_applied.proofs.ViewSteps.{list_here, counted_here, count_within, views_more, views_all}
use Rattle.ds_applied.proofs.applied.Applied.all_visible.Goals as goal

pub index-requires : goal.index-requires
index-requires c =
    let below : c.loop-shard.shard < length c.args.counts.now = search rules in
    let here = counted_here c.self.inside.shards.items c.self.inside.commits c.args.self.now c.self.view_is c.args.counts.now
    c.loop-shard.shard c.requires below in
    omega (arith, here, c.self.inside.shards.ok.0)

pub visible-requires : goal.visible-requires
visible-requires c =
    let below : c.loop-shard.shard < length c.args.counts.now = search rules in
    count_within c.self.inside.shards.items c.self.inside.commits c.args.self.now c.self.view_is c.args.counts.now c.loop-shard.shard
    c.index.result.now
    c.requires below c.index.ensures

pub loop-shard-preserved : goal.loop-shard-preserved
loop-shard-preserved c =
    let below : c.loop-shard.shard < length c.args.counts.now = search rules in
    let here = counted_here c.self.inside.shards.items c.self.inside.commits c.args.self.now c.self.view_is c.args.counts.now
    c.loop-shard.shard c.requires below in
    ap joined c.in_ok-push.ensures.items
    ∙ views_more c.args.self.now.lists c.args.counts.now c.loop-shard.shard
    (get_or c.args.counts.now c.loop-shard.shard 0) c.loop-shard.shards.items
    c.in_ok-visible.visible c.requires below refl c.loop-shard.invariant
    (c.in_ok-visible.ensures ∙ ap (λ es. left_by es (get_or c.args.counts.now c.loop-shard.shard 0))
    (list_here c.self.inside.shards.items c.self.inside.commits c.args.self.now c.self.view_is c.loop-shard.shard
    c.index.result.now here c.index.ensures))

pub returns : goal.returns
returns c =
    let whole : c.loop-shard.shard ≡ length c.args.counts.now = search rules in
    c.of_shards.ensures ∙ c.loop-shard.invariant ∙ views_all c.args.self.now.lists c.args.counts.now c.loop-shard.shard c.requires whole
