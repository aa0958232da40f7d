use Rattle.std.proofs.Common.{◌≡◌, ◌<◌, ◌∙◌, ap, arith, get_or, length, refl, rules, take}
use Rattle.ds_model.specs.Sessions.{last_commit}
use Rattle.ds_applied.proofs.PlaceLaws.{place_more, place_all}
use Rattle.ds_applied.proofs.ViewSteps.{list_here, counted_here, count_within}
use Rattle.ds_applied.proofs.applied.Applied.counted_place.Goals as goal

pub index-requires : goal.index-requires
index-requires c =
    let below : c.loop-shard.shard < length c.args.counts.now = search rules in
    let here = counted_here c.self.inside.shards.items c.self.inside.commits c.args.self.now c.self.view_is c.args.counts.now
    c.loop-shard.shard c.requires below in
    omega (arith, here, c.self.inside.shards.ok.0)

pub last_commit-requires : goal.last_commit-requires
last_commit-requires c =
    let below : c.loop-shard.shard < length c.args.counts.now = search rules in
    count_within c.self.inside.shards.items c.self.inside.commits c.args.self.now c.self.view_is c.args.counts.now c.loop-shard.shard
    c.index.result.now
    c.requires below c.index.ensures

pub loop-shard-preserved : goal.loop-shard-preserved
loop-shard-preserved c =
    let below : c.loop-shard.shard < length c.args.counts.now = search rules in
    let here = counted_here c.self.inside.shards.items c.self.inside.commits c.args.self.now c.self.view_is c.args.counts.now
    c.loop-shard.shard c.requires below in
    c.max-place.ensures
    ∙ place_more c.args.self.now.lists c.args.counts.now c.loop-shard.shard
    (get_or c.args.counts.now c.loop-shard.shard 0) c.loop-shard.place
    c.last_commit.result c.requires below refl c.loop-shard.invariant
    (c.last_commit.ensures ∙ ap (λ es. last_commit (take (get_or c.args.counts.now c.loop-shard.shard 0) es))
    (list_here c.self.inside.shards.items c.self.inside.commits c.args.self.now c.self.view_is c.loop-shard.shard
    c.index.result.now here c.index.ensures))

pub returns : goal.returns
returns c =
    let whole : c.loop-shard.shard ≡ length c.args.counts.now = search rules in
    c.loop-shard.invariant ∙ place_all c.args.self.now.lists c.args.counts.now c.loop-shard.shard c.requires whole
