-- Columns that are put together, of each name the first.
use Rattle.std.proofs.Common.{◌≡◌, ℕ, List, [], ◌∷◌, ◌++◌, Bool, not, Option, map, filter, fold, sym, ap, ◌∙◌}
use Rattle.std.specs.Option.{option_to_list}
use Rattle.std.proofs.lemmas.List.Sums.{fold-append}
use Rattle.ds_base.specs.declared.column.Column.{Column}
use Rattle.ds_query.specs.declared.query.Filter.{Filter}
use Rattle.ds_query.specs.declared.query.Query.{Query}
use Rattle.ds_query.specs.Filters.{inequality_of, projected}
use Rattle.ds_base.specs.KeyColumn.{key_name}
use Rattle.ds_query.specs.ColumnLists.{with_column, first_of_each_name, ascending, up_to_key, wanted_columns}

-- ---- what the code puts together, step by step

pub columns_put : (dropped : List ℕ → Bool) (q : Query) (first a b c d orders : List Column) (filters : List Filter) (property : Option (List ℕ)) (names : List (List ℕ))
    → first ≡ [] → orders ≡ q.orders → filters ≡ q.filters → property ≡ inequality_of filters → names ≡ projected q.select
    → a ≡ fold with_column first (filter (λ x. not (dropped x.name)) (up_to_key orders)) → b ≡ fold with_column a (map ascending (option_to_list property)) → c ≡ fold with_column b (map ascending names) → d ≡ with_column c (ascending key_name)
    → d ≡ first_of_each_name (wanted_columns dropped q)
columns_put dropped q first a b c d orders filters property names e_first e_orders e_filters e_property e_names e_a e_b e_c e_d =
    let ordered : List Column = filter (λ x. not (dropped x.name)) (up_to_key q.orders) in
    let ranged : List Column = map ascending (option_to_list (inequality_of q.filters)) in
    let given : List Column = map ascending (projected q.select) in
    let a_is : a ≡ fold with_column [] ordered = e_a ∙ (λ i. fold with_column (e_first i) (filter (λ x. not (dropped x.name)) (up_to_key (e_orders i)))) in
    let b_is : b ≡ fold with_column [] (ordered ++ ranged) = e_b ∙ (λ i. fold with_column (a_is i) (map ascending (option_to_list ((e_property ∙ ap inequality_of e_filters) i)))) ∙ sym (fold-append with_column [] ordered ranged) in
    let c_is : c ≡ fold with_column [] (ordered ++ ranged ++ given) = e_c ∙ (λ i. fold with_column (b_is i) (map ascending (e_names i))) ∙ sym (fold-append with_column [] (ordered ++ ranged) given) in
    e_d ∙ ap (λ cs. with_column cs (ascending key_name)) c_is ∙ sym (fold-append with_column [] (ordered ++ ranged ++ given) (ascending key_name ∷ []))
