use Rattle.std.proofs.Common.{◌≡◌, ◌+◌, ◌++◌, length, All}
use Rattle.std.specs.Prelude.{IfSome}
use Rattle.ds_shard.specs.States.{IsOfShard}
use Rattle.ds_store_hubs.proofs.arriving.add_waiting.Given as goal

-- what is published, is pending and waits is still the same list, so many entries more are pending, and what waits is of the shard
abbrev pub invariant-loop-done : goal.invariant-loop-done
invariant-loop-done l = record {
  hub : l.writer.hub ≡ l.fn.writer.hub;
  start : l.writer.start ≡ l.fn.writer.start;
  published : l.writer.published ≡ l.fn.writer.published;
  kept : (l.writer.published ++ l.writer.pending) ++ l.waiting.items ≡ (l.fn.writer.published ++ l.fn.writer.pending) ++ l.fn.waiting.items;
  added : length l.writer.pending ≡ length l.fn.writer.pending + l._done;
  belong : IfSome l.writer.start (λ start. All (IsOfShard start.place) l.waiting.items);
}
