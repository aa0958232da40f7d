use Rattle.std.proofs.Common.{rules}
use Rattle.std.specs.Ordering.{is_lt}
use Rattle.std.proofs.lemmas.Fn.{always_returns_same}
use Rattle.std.proofs.lemmas.List.MinMax.{ranks_by}
use Rattle.ds_base.specs.KeyOrderLaws.{key_cmp-total}
use Rattle.ds_entity.specs.EntityOrder.{entity_cmp}
use Rattle.ds_applied.proofs.SortedRefs.{sorted_refs}
use Rattle.ds_applied.proofs.visible.sorted.Goals as goal

pub returns : goal.returns
returns c =
    sorted_refs (λ r. r.now) _ _ c.sort_by.ensures.permutation
    (c.in_ok-sort_by.ensures.sorted (λ x y. is_lt (entity_cmp x.now y.now)) (ranks_by key_cmp-total (λ r. r.now.key))
    (always_returns_same _ _ _ (λ a r g called. search rules)))
