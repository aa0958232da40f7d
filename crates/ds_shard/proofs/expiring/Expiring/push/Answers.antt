use Rattle.std.proofs.Common.{sym, subst}
use Rattle.ds_shard.specs.Expiries.{AreBy, DoNotFall}
use Rattle.ds_shard.proofs.Ends.{fall-push}
use Rattle.ds_shard.proofs.expiring.Expiring.push.Goals as goal

pub invariant_of-self-2 : goal.invariant_of-self-2
invariant_of-self-2 c =
    let by = subst (AreBy c.args.stamp) (sym c.self.view_is) c.requires in
    subst DoNotFall (sym c.in_ok-push_back.ensures.items)
    (fall-push c.self.inside.queue.items (record { stamp = c.args.stamp; key = c.args.key }) by c.self.invariant)
