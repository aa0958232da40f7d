use Rattle.std.proofs.Common.{◌≡◌, map}
use Rattle.std.specs.VecDeque.{deque_len}
use Rattle.ds_shard.specs.Histories.{BeginsBy, IsHistory, version_of}
use Rattle.std.specs.List.{AllByRecursion as Each}
use Rattle.ds_shard.proofs.LastVersions.{back}
use Rattle.ds_shard.proofs.version_list.take_off.Given as goal

abbrev pub invariant-loop-items : goal.invariant-loop-items
invariant-loop-items l = record {
  history : IsHistory (map version_of l.items.items);
  begun : Each (BeginsBy l.stamp) (map version_of l.items.items);
  same : back l.stamp l.items.items ≡ back l.stamp l.initial.items.items;
}

abbrev pub decreases-loop-items : goal.decreases-loop-items
decreases-loop-items l = deque_len l.items
