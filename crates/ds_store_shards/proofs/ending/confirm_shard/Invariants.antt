use Rattle.std.proofs.Common.{ℕ, ◌<◌, length, get_or}
use mathlib.Core.List.{IsPrefix}
use Rattle.ds_log.specs.Logs.{shard_list}
use Rattle.ds_model.specs.Sessions.{list_of}
use Rattle.ds_store_passes.specs.Passes.{PassParts}
use Rattle.ds_store_shards.proofs.ending.confirm_shard.Given as goal

abbrev pub invariant-loop-pass : goal.invariant-loop-pass
invariant-loop-pass g l =
    (k : ℕ) (d : PassParts) → k < l.pass-index
    → IsPrefix (list_of (get_or l.passes k d).lists l.number) (shard_list l.journal.published l.number (length g.J.Names.shards))
