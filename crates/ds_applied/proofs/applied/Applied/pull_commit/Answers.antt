use Rattle.std.proofs.Common.{length, map}
use Rattle.ds_log.specs.Routing.{entry_of}
use Rattle.ds_applied.proofs.Within.{pulled_within}
use Rattle.ds_applied.proofs.applied.Applied.pull_commit.Goals as goal

pub invariant_of-self-2 : goal.invariant_of-self-2
invariant_of-self-2 c =
    pulled_within c.self.inside.shards.items c.make_room.new.shards.items c.put_all.new.shards.items (length c.make_room.new.shards.items)
    (map entry_of c.in_ok-routed.routed.items) c.put_all.ensures.entries c.put_all.ensures.applied c.in_ok-make_room.ensures.entries
    c.in_ok-make_room.ensures.applied c.self.invariant
