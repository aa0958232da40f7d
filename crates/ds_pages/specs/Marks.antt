-- What makes two rows one result, as a value: the key, and in a projection the projected values.
use Rattle.std.specs.Prelude.{◌≡◌, ◌↔◌, ℕ, Bool, List, map, unwrap_or, slice_get, Option, Some, None}
use Rattle.std.specs.Cmp.{IsTotalOrder, on_total, then_total}
use Rattle.std.specs.Cmp.Lexicographic.{slice_cmp}
use Rattle.std.specs.FinMap.{IsAntisymmetric, slice_cmp-IsAntisymmetric}
use Rattle.std.specs.Ordering.{ordering_then, eq_by_cmp}
use Rattle.std.specs.declared.cmp.Ordering.{Ordering}
use Rattle.std.specs.declared.cmp.Ordering.TheVariants.{Equal}
use Rattle.std.proofs.lemmas.Cmp.{lists_total}
use Rattle.ds_base.specs.declared.index_value.IndexValue.{IndexValue}
use Rattle.ds_base.specs.declared.index_value.IndexValue.TheVariants.{Null}
use Rattle.ds_base.specs.KeyOrder.{key_cmp}
use Rattle.ds_base.specs.IndexOrder.{index_value_cmp}
use Rattle.ds_base.specs.OrderLaws.{both_Equal, Equal-same}
use Rattle.ds_base.specs.KeyOrderLaws.{key_cmp-total, key_cmp-same}
use Rattle.ds_base.specs.IndexOrderLaws.{index_value_cmp-total, index_value_cmp-same}
use Rattle.ds_query.specs.declared.row.Row.{Row}
use Rattle.ds_pages.specs.declared.marks.Mark.{Mark}

-- by key, and then value by value
abbrev pub mark_cmp : Mark → Mark → Ordering
mark_cmp x y = ordering_then (key_cmp x.key y.key) (slice_cmp index_value_cmp x.values y.values)

pub mark_cmp-total : IsTotalOrder mark_cmp
mark_cmp-total =
    then_total (on_total (λ (m : Mark). m.key) key_cmp-total)
    (on_total (λ (m : Mark). m.values) (lists_total index_value_cmp-total))

pub mark_cmp-same : IsAntisymmetric mark_cmp
mark_cmp-same x y e =
    let both = both_Equal (key_cmp x.key y.key) (slice_cmp index_value_cmp x.values y.values) e in
    λ i. record {
      key = key_cmp-same x.key y.key both.0 i;
      values = slice_cmp-IsAntisymmetric index_value_cmp-same x.values y.values both.1 i;
    }

pub mark_cmp-Equal : (x y : Mark) → (mark_cmp x y ≡ Equal) ↔ (x ≡ y)
mark_cmp-Equal = Equal-same mark_cmp-total mark_cmp-same

-- the value that stands at a place among those of a row; null where there is none
abbrev pub value_at : List IndexValue → Option ℕ → IndexValue
value_at values None = Null
value_at values (Some slot) = unwrap_or (slice_get values slot) Null

-- the mark of a row, by where the projected values stand
abbrev pub mark_of : List (Option ℕ) → Row → Mark
mark_of slots r = record { key = r.key; values = map (value_at r.values) slots }

-- two rows have one mark
abbrev pub is_same : List (Option ℕ) → Row → Row → Bool
is_same slots x y = eq_by_cmp mark_cmp (mark_of slots x) (mark_of slots y)
