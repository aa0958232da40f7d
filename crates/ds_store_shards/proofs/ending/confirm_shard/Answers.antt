use Rattle.std.proofs.Common.{ℕ, length, subst, get_or, below_more}
use Rattle.std.proofs.lemmas.List.Elements.{at_read}
use mathlib.Core.List.{IsPrefix}
use Rattle.ds_log.specs.Logs.{shard_list}
use Rattle.ds_model.specs.Sessions.{list_of}
use Rattle.ds_store_passes.specs.Passes.{PassParts}
use Rattle.ds_store_shards.proofs.ending.confirm_shard.Goals as goal

pub loop-pass-preserved : goal.loop-pass-preserved
loop-pass-preserved g c k d low =
    let shards = length g.J.Names.shards in
    let journal = c.args.journal.now.published in
    let P : PassParts → Type 0 = λ p. IsPrefix (list_of p.lists c.args.number) (shard_list journal c.args.number shards) in
    let here : P c.pass-item.result =
    subst (λ (n : ℕ). IsPrefix (list_of c.pass-item.result.lists n) (shard_list journal n shards)) c.is_of.ensures c.confirm_slot.ensures in
    below_more (λ j. P (get_or c.args.passes.now j d)) c.loop-pass.pass-index (λ j less. c.loop-pass.invariant j d less)
    (at_read c.args.passes.now P c.loop-pass.pass-index c.pass-item.result c.loop-pass-test.true c.pass-item.is here d) k low
