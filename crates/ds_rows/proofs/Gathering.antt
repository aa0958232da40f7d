-- The values of a property, gathered one after another.
use Rattle.std.proofs.Common.{◌≡◌, ℕ, ◌+◌, ◌++◌, ◌∷◌, [], ◌<◌, List, length, get_or, fold, take, ap, sym, ◌∙◌}
use Rattle.std.specs.Prelude.{filter_map}
use Rattle.std.specs.BTreeSet.{insert_key}
use Rattle.std.proofs.lemmas.List.{take_more}
use Rattle.std.proofs.lemmas.List.Elements.{filter_map-append}
use Rattle.std.proofs.lemmas.List.Sums.{fold-append}
use Rattle.ds_base.specs.declared.value.Value.{Value}
use Rattle.ds_base.specs.declared.index_value.IndexValue.{IndexValue}
use Rattle.ds_base.specs.IndexOrder.{index_value_cmp}
use Rattle.ds_base.specs.Values.{index_of}

-- one more value
pub gathered_step : (vs items : List Value) (i : ℕ) (v : Value) (before after : List IndexValue) → items ≡ vs → i < length items → v
    ≡ get_or items i v
    → before ≡ fold (insert_key index_value_cmp) [] (filter_map index_of (take i vs))
    → after ≡ fold (insert_key index_value_cmp) before (filter_map index_of (v ∷ []))
    → after ≡ fold (insert_key index_value_cmp) [] (filter_map index_of (take (i + 1) vs))
gathered_step vs items i v before after same within is so_far more =
    let put : List IndexValue → List IndexValue → List IndexValue = fold (insert_key index_value_cmp) in
    more
    ∙ ap (λ (b : List IndexValue). put b (filter_map index_of (v ∷ []))) (so_far
    ∙ ap (λ (ws : List Value). put [] (filter_map index_of (take i ws))) (sym same))
    ∙ sym (fold-append (insert_key index_value_cmp) [] (filter_map index_of (take i items)) (filter_map index_of (v ∷ [])))
    ∙ ap (put []) (sym (filter_map-append index_of (take i items) (v ∷ [])))
    ∙ ap (λ (ws : List Value). put [] (filter_map index_of ws)) (ap (λ (w : Value). take i items ++ w ∷ []) is
    ∙ sym (take_more items i v within))
    ∙ ap (λ (ws : List Value). put [] (filter_map index_of (take (i + 1) ws))) same
