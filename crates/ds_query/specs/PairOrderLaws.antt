-- The laws of the order of pairs: it is total, and answers Equal for equal pairs alone.
use Rattle.std.specs.Prelude.{◌≡◌, ◌↔◌}
use Rattle.std.specs.Cmp.{IsTotalOrder, on_total, then_total}
use Rattle.std.specs.Cmp.Lexicographic.{nat_list_cmp_total}
use Rattle.std.specs.declared.cmp.Ordering.TheVariants.{Equal}
use Rattle.std.specs.FinMap.{IsAntisymmetric}
use Rattle.ds_base.specs.KeyOrder.{bytes_cmp}
use Rattle.ds_base.specs.IndexOrder.{index_value_cmp}
use Rattle.ds_base.specs.OrderLaws.{both_Equal, Equal-same}
use Rattle.ds_base.specs.KeyOrderLaws.{bytes_cmp-same}
use Rattle.ds_base.specs.IndexOrderLaws.{index_value_cmp-total, index_value_cmp-same}
use Rattle.ds_query.specs.declared.branch.Pair.{Pair}
use Rattle.ds_query.specs.Branching.{pair_cmp}

pub pair_cmp-total : IsTotalOrder pair_cmp
pair_cmp-total =
    then_total (on_total (λ (p : Pair). p.property) nat_list_cmp_total)
    (on_total (λ (p : Pair). p.value) index_value_cmp-total)

pub pair_cmp-same : IsAntisymmetric pair_cmp
pair_cmp-same p q e =
    let both = both_Equal (bytes_cmp p.property q.property) (index_value_cmp p.value q.value) e in
    λ i. record { property = bytes_cmp-same p.property q.property both.0 i; value = index_value_cmp-same p.value q.value both.1 i }

pub pair_cmp-Equal : (p q : Pair) → (pair_cmp p q ≡ Equal) ↔ (p ≡ q)
pair_cmp-Equal = Equal-same pair_cmp-total pair_cmp-same
