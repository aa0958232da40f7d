use Rattle.std.proofs.Common.{◌≡◌, ℕ, ◌+◌, ◌<◌, length, All}
use mathlib.Core.List.{IsPrefix}
use Rattle.ds_log.specs.Logs.{shard_list}
use Rattle.ds_model.specs.Sessions.{list_of}
use Rattle.ds_store_passes.specs.Passes.{PassParts}
use Rattle.ds_store_shards.proofs.ending.confirm_shards.Given as goal

abbrev pub invariant-loop-shard : goal.invariant-loop-shard
invariant-loop-shard g l = record {
  some_left : l.number + length l.shard-iterator.rest.items ≡ length g.J.Names.shards;
  begin : (s : ℕ) → s < l.number
      → All (λ (p : PassParts). IsPrefix (list_of p.lists s) (shard_list l.journal.published s (length g.J.Names.shards))) l.passes;
}
