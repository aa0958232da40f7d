use Rattle.std.proofs.Common.{◌≡◌, map}
use Rattle.std.specs.VecDeque.{deque_len}
use Rattle.ds_shard.specs.Histories.{IsHistory, version_of, trimmed}
use Rattle.ds_shard.proofs.version_list.trim_front.Given as goal

abbrev pub invariant-loop-items : goal.invariant-loop-items
invariant-loop-items l = record {
  history : IsHistory (map version_of l.items.items);
  same : trimmed l.floor (map version_of l.items.items) ≡ trimmed l.floor (map version_of l.initial.items.items);
}

abbrev pub decreases-loop-items : goal.decreases-loop-items
decreases-loop-items l = deque_len l.items
