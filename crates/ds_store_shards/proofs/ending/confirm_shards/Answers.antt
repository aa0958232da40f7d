use Rattle.std.proofs.Common.{length, ap, arith, below_more, All}
use mathlib.Core.List.{IsPrefix}
use Rattle.ds_log.specs.Logs.{shard_list}
use Rattle.ds_model.specs.Sessions.{list_of}
use Rattle.ds_store_passes.specs.Passes.{PassParts}
use Rattle.ds_store_shards.proofs.ending.confirm_shards.Goals as goal

pub loop-shard-preserved : goal.loop-shard-preserved
loop-shard-preserved g c =
    let left = ap length c.in-Some.ensures.steps.0 in
    let before = c.loop-shard.invariant in
    record {
      some_left = omega (arith, left, before.some_left);
      begin = below_more
          (λ s. All (λ (p : PassParts). IsPrefix (list_of p.lists s) (shard_list c.args.journal.now.published s (length g.J.Names.shards)))
          c.args.passes.now)
          c.loop-shard.number before.begin c.confirm_shard.ensures;
    }
