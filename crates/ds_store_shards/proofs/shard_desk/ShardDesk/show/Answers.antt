use Rattle.std.proofs.Common.{ap, subst}
use Rattle.std.specs.Prelude.{unwrap_or, []}
use mathlib.Core.List.{IsPrefix}
use Rattle.ds_model.specs.Sessions.{list_of}
use Rattle.ds_store_passes.proofs.SlotLists.{longer_there}
use Rattle.ds_store_shards.proofs.shard_desk.ShardDesk.show.Goals as goal

pub returns-clause-before : goal.returns-clause-before
returns-clause-before g c =
    let n = c.args.self.now.number in
    let before = c.args.pass.now.lists in
    subst (IsPrefix (list_of before n)) (ap (λ o. unwrap_or o []) c.see_shard.ensures.seen) (longer_there before c.see_shard.new.self.lists
    n c.see_shard.ensures.grown)
