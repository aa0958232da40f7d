use Rattle.ds_log.proofs.RoutingSteps.{routed_more}
use Rattle.ds_log.proofs.projection.route.Goals as goal

pub loop-group-preserved : goal.loop-group-preserved
loop-group-preserved c =
    rw c.in_ok-push.ensures.items
    (routed_more c.args.number c.args.shards c.args.commit.now.writes c.loop-group.routed.items c.loop-group.yielded c.in-Some.group
    c.in_ok-shard.shard c.in_ok-entry.entry c.in_ok-entry.ensures c.in_ok-shard.ensures.value c.in_ok-shard.ensures.below
    c.loop-group.invariant.0 c.loop-group.invariant.1)
