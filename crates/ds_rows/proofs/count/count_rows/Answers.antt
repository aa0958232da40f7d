use Rattle.std.proofs.Common.{◌≡◌, ◌+◌, ◌*◌, ℕ, List, map, min, cond, ap, ◌∙◌}
use Rattle.std.specs.Prelude.{sum_by}
use Rattle.ds_base.specs.Limits.{greatest_told}
use Rattle.ds_indexdef.specs.declared.IndexDef.{IndexDef}
use Rattle.ds_rows.specs.IndexedValues.{value_count, kind_in}
use Rattle.ds_rows.specs.Counts.{row_count, composite_count}
use Rattle.ds_rows.proofs.Products.{two_each, counts_joined}
use Rattle.ds_rows.proofs.count.count_rows.Goals as goal

pub returns : goal.returns
returns c =
    let e = c.args.entity.now in
    let theirs : c.as_slice.result.now ≡ map value_count e.properties =
    c.as_slice.ensures.value ∙ c.in_ok-counts.ensures ∙ ap (map value_count) (c.as_slice-properties.ensures
    ∙ c.properties.ensures.value) in
    let single : c.single_count-single.result ≡ min (1 + sum_by (λ p. 2 * value_count p) e.properties) greatest_told =
    c.single_count-single.ensures ∙ ap (λ (ns : List ℕ). min (1 + sum_by (λ n. 2 * n) ns) greatest_told) theirs
    ∙ ap (λ n. min (1 + n) greatest_told) (two_each e.properties) in
    let given : c.composite_counts-composite.result
    ≡ min (sum_by (λ d. cond (kind_in d.kind e.key)
    (composite_count e d) 0) c.as_slice-2.result.now) greatest_told = c.composite_counts-composite.ensures in
    let composite = given
    ∙ ap (λ (ds : List IndexDef). min (sum_by (λ d. cond (kind_in d.kind e.key)
    (composite_count e d) 0) ds) greatest_told) c.as_slice-2.ensures.value in
    c.checked.ensures (row_count c.args.defs.now e)
    (counts_joined _ _ _ _ _ _ single composite c.saturating_add.ensures c.min.ensures)
