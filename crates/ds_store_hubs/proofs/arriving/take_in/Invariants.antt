use Rattle.std.proofs.Common.{◌≡◌, ◌+◌, ◌≤◌, ◌++◌, length}
use Rattle.std.specs.VecDeque.{deque_len, deque_capacity}
use Rattle.ds_log.specs.UpTo.{commits_of, last_number}
use Rattle.ds_store_hubs.specs.Rising.{Rises}
use Rattle.ds_store_hubs.proofs.arriving.take_in.Given as goal

-- with what is left all are taken in, for which there is room
abbrev pub invariant-loop-entry : goal.invariant-loop-entry
invariant-loop-entry l = record {
  room : deque_len l.waiting + length l.entry-iterator.rest.items ≤ deque_capacity l.waiting;
  spare : length l.entry-iterator.rest.items ≤ l.commits.spare;
  rises : Rises (last_number l.commits.commits) l.entry-iterator.rest.items;
  waiting : l.waiting.items ++ l.entry-iterator.rest.items ≡ l.fn.waiting.items ++ l.fn.entries.items;
  commits : l.commits.commits ++ commits_of l.entry-iterator.rest.items ≡ l.fn.commits.commits ++ commits_of l.fn.entries.items;
}
