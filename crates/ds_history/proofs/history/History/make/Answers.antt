use Rattle.std.proofs.Common.{[], subst, sym}
use Rattle.ds_applied.specs.AppliedLists.{AppliedParts, Follows}
use Rattle.ds_applied.proofs.FollowLaws.{Follows-append, Follows-made}
use Rattle.ds_history.proofs.history.History.make.Goals as goal

pub pull-requires : goal.pull-requires
pull-requires c =
    subst (λ (a : AppliedParts). Follows c.as_slice.result.now a) (sym c.in_ok-applied.ensures)
    (Follows-append [] c.as_slice.result.now _ (Follows-made c.args.shards))
