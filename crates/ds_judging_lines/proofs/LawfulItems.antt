-- What queries tell of lawful entities is lawful.
use Rattle.std.proofs.Common.{◌≡◌, ℕ, zero, suc, ◌<◌, ◌≤◌, ◌^◌, List, [], ◌∷◌, ◌++◌, drop, fold, take, arith}
use Rattle.std.proofs.Common.{Bool, true, false, cond, Option, Some, None}
use Rattle.std.specs.Prelude.{All, IfSome, bytes_eq, filter, filter_map, find, flat_map, map, unwrap_or}
use Rattle.std.specs.BTreeSet.{insert_key}
use Rattle.std.specs.List.{AllByRecursion, cons_option, list_any}
use Rattle.std.specs.Option.{option_map_or}
use Rattle.std.specs.Ordering.{match_ordering}
use Rattle.std.specs.declared.cmp.Ordering.{Ordering}
use Rattle.std.specs.declared.cmp.Ordering.TheVariants.{Less, Equal, Greater}
use Rattle.std.proofs.lemmas.Bool.{ltb-false, or_parts}
use Rattle.std.proofs.lemmas.List.Elements.{All-from_recursion, recursion_from_All}
use Rattle.ds_base.specs.declared.column.Column.{Column}
use Rattle.ds_entity.specs.declared.entity.Property.{Property}
use Rattle.ds_base.specs.declared.index_value.IndexValue.{IndexValue}
use Rattle.ds_base.specs.declared.index_value.IndexValue.TheVariants.{Null}
use Rattle.ds_base.specs.declared.value.Value.{Value}
use Rattle.ds_base.specs.declared.value.Value.TheVariants as value
use Rattle.ds_entity.specs.Entities.{EntityParts, is_faulty_property}
use Rattle.ds_base.specs.Values.{is_faulty_value}
use Rattle.ds_base.specs.IndexOrder.{index_value_cmp}
use Rattle.ds_base.specs.KeyOrder.{same_key}
use Rattle.ds_base.specs.Keys.{KeyParts}
use Rattle.ds_base.specs.Limits.{greatest_rating}
use Rattle.ds_base.specs.Sorting.{sorted_by}
use Rattle.ds_base.specs.Values.{index_of}
use Rattle.ds_bytes.specs.Lawful.{IsLawfulKey}
use Rattle.ds_bytes.specs.Lawful as bytes
use Rattle.ds_bytes.specs.Rows.{RowParts}
use Rattle.ds_query.specs.declared.branch.Branch.{Branch}
use Rattle.ds_query.specs.declared.branch.Normal.{Normal}
use Rattle.ds_query.specs.declared.branch.Pair.{Pair}
use Rattle.ds_query.specs.declared.branch.Window.{Window}
use Rattle.ds_query.specs.declared.query.Select.{Select}
use Rattle.ds_query.specs.declared.query.Select.TheVariants as select
use Rattle.ds_query.specs.declared.row.Place.{Place}
use Rattle.ds_query.specs.Filters.{projected}
use Rattle.ds_query.specs.RowValues.{asked_value, value_columns, value_named}
use Rattle.ds_pages.specs.Extended.{else_asked}
use Rattle.ds_rows.specs.IndexedValues.{each_way, indexed_values, property_values}
use Rattle.ds_journal_text.specs.Lawful.{IsLawfulEntity, IsLawfulProperty, IsLawfulValue}
use Rattle.ds_journal_text.proofs.EntitiesBack.{none_faulty, sound}
use Rattle.ds_reply_lines.specs.LawfulResults.{IsLawfulItem}
use Rattle.ds_model.specs.Results.{at_most, branch_results, entity_of, extended, first_rows, is_between, item_of, items_of}
use Rattle.ds_model.specs.Results.{query_rows, result, same_mark, united, value_in}
use Rattle.ds_model.specs.Rows.{compare_rows, entity_rows, first_value, is_found, is_within, rows}
use Rattle.ds_model.proofs.AllOf.{all_of, all-append, all-filter, all-flat_map, all-map, all-sorted}

abbrev ValuesLawful : List IndexValue → Type 0
ValuesLawful = AllByRecursion bytes.IsLawfulValue

-- ---- the values of an entity

indexed_lawful : (vs : List Value) (indexed : Bool) → AllByRecursion IsLawfulValue vs → list_any (is_faulty_value indexed) vs ≡ false
    → ValuesLawful (filter_map index_of vs)
indexed_lawful [] indexed all faultless = tt
indexed_lawful (v ∷ vs) indexed all faultless =
    let parts = or_parts (is_faulty_value indexed v) (list_any (is_faulty_value indexed) vs) faultless in
    by v all.0 parts.0 (indexed_lawful vs indexed all.1 parts.1)
  where
    by : (v : Value) → IsLawfulValue v → is_faulty_value indexed v ≡ false → ValuesLawful (filter_map index_of vs)
        → ValuesLawful (cons_option (index_of v) (filter_map index_of vs))
    by value.Null l s rest = (tt, rest)
    by (value.Int n) l s rest = (l, rest)
    by (value.Date n) l s rest = (l, rest)
    by (value.Rating n) l s rest =
        let small : n ≤ greatest_rating = ltb-false greatest_rating n s in
        (record { sfits = (let fits : n < 2 ^ 63 = omega arith in fits) }, rest)
    by (value.Bool b) l s rest = (tt, rest)
    by (value.Bytes b) l s rest = (l, rest)
    by (value.Str b) l s rest = (l.bytes, rest)
    by (value.Text b) l s rest = rest
    by (value.Blob b) l s rest = rest
    by (value.Key k) l s rest = (l, rest)

inserted : (done : List IndexValue) (v : IndexValue) → bytes.IsLawfulValue v → ValuesLawful done
    → ValuesLawful (insert_key index_value_cmp done v)
inserted [] v l all = (l, tt)
inserted (w ∷ ws) v l all = by (index_value_cmp v w) (inserted ws v l all.1) where
  by : (r : Ordering) → ValuesLawful (insert_key index_value_cmp ws v)
      → ValuesLawful (match_ordering r (v ∷ w ∷ ws) (w ∷ ws) (w ∷ insert_key index_value_cmp ws v))
  by Less rest = (l, all)
  by Equal rest = all
  by Greater rest = (all.0, rest)

all_inserted : (done vs : List IndexValue) → ValuesLawful done → ValuesLawful vs
    → ValuesLawful (fold (insert_key index_value_cmp) done vs)
all_inserted done [] all more = all
all_inserted done (v ∷ vs) all more = all_inserted (insert_key index_value_cmp done v) vs (inserted done v more.0 all) more.1

faultless_values : (p : Property) → is_faulty_property p ≡ false → list_any (is_faulty_value p.indexed) p.values ≡ false
faultless_values p faultless = (or_parts _ _ faultless).1

property_lawful : (p : Property) → IsLawfulProperty p → is_faulty_property p ≡ false → ValuesLawful (property_values p)
property_lawful p l faultless = by p.indexed where
  values : ValuesLawful (fold (insert_key index_value_cmp) [] (filter_map index_of p.values))
  values = all_inserted [] (filter_map index_of p.values) tt
      (indexed_lawful p.values p.indexed (recursion_from_All IsLawfulValue p.values l.values) (faultless_values p faultless))

  by : (b : Bool) → ValuesLawful (cond b (fold (insert_key index_value_cmp) [] (filter_map index_of p.values)) [])
  by true = values
  by false = tt

named_lawful : (ps : List Property) (name : List ℕ) → AllByRecursion IsLawfulProperty ps → list_any is_faulty_property ps ≡ false
    → ValuesLawful (option_map_or property_values (find (λ p. bytes_eq p.name name) ps) [])
named_lawful [] name all faultless = tt
named_lawful (p ∷ ps) name all faultless =
    let parts = or_parts (is_faulty_property p) (list_any is_faulty_property ps) faultless in
    by (bytes_eq p.name name) (property_lawful p all.0 parts.0) (named_lawful ps name all.1 parts.1)
  where
    by : (b : Bool) → ValuesLawful (property_values p)
        → ValuesLawful (option_map_or property_values (find (λ p. bytes_eq p.name name) ps) [])
        → ValuesLawful (option_map_or property_values (cond b (Some p) (find (λ p. bytes_eq p.name name) ps)) [])
    by true first others = first
    by false first others = others

values_lawful : (e : EntityParts) (name : List ℕ) → IsLawfulEntity e → ValuesLawful (indexed_values e name)
values_lawful e name l =
    named_lawful e.properties name (recursion_from_All IsLawfulProperty e.properties l.properties)
    (none_faulty is_faulty_property e.properties (sound e.key e.properties l.rules.not_refused).faultless)

-- ---- rows

each_lawful : (lists : List (List IndexValue)) → AllByRecursion ValuesLawful lists → AllByRecursion ValuesLawful (each_way lists)
each_lawful [] all = (tt, tt)
each_lawful (values ∷ more) all =
    let others = each_lawful more all.1 in
    all-flat_map ValuesLawful (λ v. map (λ vs. v ∷ vs) (each_way more)) values (firsts values all.0 others)
  where
    firsts : (values : List IndexValue) → ValuesLawful values → AllByRecursion ValuesLawful (each_way more)
        → AllByRecursion (λ v. AllByRecursion ValuesLawful (map (λ vs. v ∷ vs) (each_way more))) values
    firsts [] all others = tt
    firsts (v ∷ values) all others =
        (all-map ValuesLawful ValuesLawful (λ vs. v ∷ vs) (λ vs is. (all.0, is)) (each_way more) others, firsts values all.1 others)

pub record IsLawfulRow (row : RowParts) : Type 0 where
  pub key : IsLawfulKey row.key
  pub values : ValuesLawful row.values

entity_rows_lawful : (columns : List Column) (e : EntityParts) → IsLawfulEntity e → AllByRecursion IsLawfulRow (entity_rows columns e)
entity_rows_lawful columns e l =
    all-map ValuesLawful IsLawfulRow (λ vs. record { values = vs; key = e.key }) (λ vs is. record { key = l.key; values = is })
    (each_way (map (λ (c : Column). indexed_values e c.name) (value_columns columns)))
    (each_lawful (map (λ (c : Column). indexed_values e c.name) (value_columns columns))
    (all-map (λ (c : Column). Unit {0}) ValuesLawful (λ (c : Column). indexed_values e c.name) (λ c any. values_lawful e c.name l)
    (value_columns columns) (all_of (λ (c : Column). Unit {0}) (λ c. tt) (value_columns columns))))

rows_of : (columns : List Column) (es : List EntityParts) → AllByRecursion IsLawfulEntity es
    → AllByRecursion (λ e. AllByRecursion IsLawfulRow (entity_rows columns e)) es
rows_of columns [] all = tt
rows_of columns (e ∷ es) all = (entity_rows_lawful columns e all.0, rows_of columns es all.1)

rows_lawful : (q : Branch) (es : List EntityParts) → AllByRecursion IsLawfulEntity es → AllByRecursion IsLawfulRow (rows q es)
rows_lawful q es all =
    all-filter IsLawfulRow (λ row. is_within q.range (first_value row)) (flat_map (entity_rows q.columns) (filter (is_found q) es))
    (all-flat_map IsLawfulRow (entity_rows q.columns) (filter (is_found q) es)
    (rows_of q.columns (filter (is_found q) es) (all-filter IsLawfulEntity (is_found q) es all)))

-- ---- rows in the merged columns

-- the values that a branch asks are lawful
abbrev pub AskedLawful : Branch → Type 0
AskedLawful q = AllByRecursion (λ (p : Pair). bytes.IsLawfulValue p.value) q.equal

abbrev IfLawful : Option IndexValue → Type 0
IfLawful None = Unit {0}
IfLawful (Some v) = bytes.IsLawfulValue v

value_lawful : (name : List ℕ) (cs : List Column) (vs : List IndexValue) → ValuesLawful vs → IfLawful (value_named name cs vs)
value_lawful name [] vs all = tt
value_lawful name (c ∷ cs) [] all = tt
value_lawful name (c ∷ cs) (v ∷ vs) all = by (bytes_eq name c.name) (value_lawful name cs vs all.1) where
  by : (b : Bool) → IfLawful (value_named name cs vs) → IfLawful (cond b (Some v) (value_named name cs vs))
  by true rest = all.0
  by false rest = rest

asked_lawful : (ps : List Pair) (name : List ℕ) → AllByRecursion (λ (p : Pair). bytes.IsLawfulValue p.value) ps
    → IfLawful (asked_value ps name)
asked_lawful [] name all = tt
asked_lawful (p ∷ ps) name all = by (bytes_eq name p.property) (asked_lawful ps name all.1) where
  by : (b : Bool) → IfLawful (asked_value ps name) → IfLawful (cond b (Some p.value) (asked_value ps name))
  by true rest = all.0
  by false rest = rest

else_lawful : (own asked : Option IndexValue) → IfLawful own → IfLawful asked → bytes.IsLawfulValue (else_asked own asked)
else_lawful (Some v) asked l m = l
else_lawful None (Some v) l m = m
else_lawful None None l m = tt

extended_lawful : (merged : List Column) (q : Branch) (row : RowParts) → AskedLawful q → IsLawfulRow row
    → IsLawfulRow (extended merged q row)
extended_lawful merged q row asks l = record {
  key = l.key;
  values =
      all-map (λ (c : Column). Unit {0}) bytes.IsLawfulValue
      (λ (c : Column). else_asked (value_named c.name (value_columns q.columns) row.values) (asked_value q.equal c.name))
      (λ c any. else_lawful (value_named c.name (value_columns q.columns) row.values) (asked_value q.equal c.name)
      (value_lawful c.name (value_columns q.columns) row.values l.values) (asked_lawful q.equal c.name asks))
      (value_columns merged) (all_of (λ (c : Column). Unit {0}) (λ c. tt) (value_columns merged));
}

-- ---- pages

kept_lawful : (same : RowParts → RowParts → Bool) (kept rs : List RowParts) → AllByRecursion IsLawfulRow kept
    → AllByRecursion IsLawfulRow rs
    → AllByRecursion IsLawfulRow (fold (λ kept x. cond (list_any (same x) kept) kept (kept ++ x ∷ [])) kept rs)
kept_lawful same kept [] p q = p
kept_lawful same kept (r ∷ rs) p q =
    kept_lawful same (cond (list_any (same r) kept) kept (kept ++ r ∷ [])) rs (by (list_any (same r) kept)) q.1
  where
    by : (b : Bool) → AllByRecursion IsLawfulRow (cond b kept (kept ++ r ∷ []))
    by true = p
    by false = all-append IsLawfulRow kept (r ∷ []) p (q.0, tt)

firsts_lawful : (columns : List Column) (names : List (List ℕ)) (rs : List RowParts) → AllByRecursion IsLawfulRow rs
    → AllByRecursion IsLawfulRow (first_rows columns names rs)
firsts_lawful columns names rs p =
    kept_lawful (same_mark columns names) [] (sorted_by (compare_rows columns) rs) tt
    (all-sorted IsLawfulRow (compare_rows columns) rs p)

branches_lawful : (start end : Option Place) (qs : List Branch) (es : List EntityParts) → AllByRecursion IsLawfulEntity es
    → AllByRecursion IsLawfulRow (flat_map (λ q. branch_results q start end es) qs)
branches_lawful start end [] es all = tt
branches_lawful start end (q ∷ qs) es all =
    all-append IsLawfulRow (branch_results q start end es) (flat_map (λ p. branch_results p start end es) qs)
    (firsts_lawful q.columns (projected q.select) (filter (is_between q.columns start end) (rows q es))
    (all-filter IsLawfulRow (is_between q.columns start end) (rows q es) (rows_lawful q es all)))
    (branches_lawful start end qs es all)

united_lawful : (merged : List Column) (qs : List Branch) (es : List EntityParts) → AllByRecursion AskedLawful qs
    → AllByRecursion IsLawfulEntity es → AllByRecursion IsLawfulRow (flat_map (λ q. map (extended merged q) (rows q es)) qs)
united_lawful merged [] es asks all = tt
united_lawful merged (q ∷ qs) es asks all =
    all-append IsLawfulRow (map (extended merged q) (rows q es)) (flat_map (λ p. map (extended merged p) (rows p es)) qs)
    (all-map IsLawfulRow IsLawfulRow (extended merged q) (λ row is. extended_lawful merged q row asks.0 is) (rows q es)
    (rows_lawful q es all))
    (united_lawful merged qs es asks.1 all)

taken_rows : (n : ℕ) (rs : List RowParts) → AllByRecursion IsLawfulRow rs → AllByRecursion IsLawfulRow (take n rs)
taken_rows zero rs p = tt
taken_rows (suc n) [] p = tt
taken_rows (suc n) (r ∷ rs) p = (p.0, taken_rows n rs p.1)

left_rows : (n : ℕ) (rs : List RowParts) → AllByRecursion IsLawfulRow rs → AllByRecursion IsLawfulRow (drop n rs)
left_rows zero rs p = p
left_rows (suc n) [] p = tt
left_rows (suc n) (r ∷ rs) p = left_rows n rs p.1

limited_rows : (limit : Option ℕ) (rs : List RowParts) → AllByRecursion IsLawfulRow rs → AllByRecursion IsLawfulRow (at_most limit rs)
limited_rows None rs p = p
limited_rows (Some n) rs p = taken_rows n rs p

result_lawful : (n : Normal) (w : Window) (es : List EntityParts) → AllByRecursion AskedLawful n.branches → AllByRecursion IsLawfulEntity es
    → AllByRecursion IsLawfulRow (result n w es).rows
result_lawful n w es asks all =
    limited_rows w.limit (drop w.offset (query_rows n w es)) (left_rows w.offset (query_rows n w es) (by n.several))
  where
    by : (several : Bool)
        → AllByRecursion IsLawfulRow (cond several (first_rows n.merged [] (united n es))
        (flat_map (λ q. branch_results q w.start w.end es) n.branches))
    by true = firsts_lawful n.merged [] (united n es) (united_lawful n.merged n.branches es asks all)
    by false = branches_lawful w.start w.end n.branches es all

-- ---- what is told of rows

pub found_lawful : (es : List EntityParts) (k : KeyParts) → AllByRecursion IsLawfulEntity es → IfSome (entity_of es k) IsLawfulEntity
found_lawful [] k all = tt
found_lawful (e ∷ es) k all = by (same_key e.key k) (found_lawful es k all.1) where
  by : (b : Bool) → IfSome (find (λ e. same_key e.key k) es) IsLawfulEntity
      → IfSome (cond b (Some e) (find (λ e. same_key e.key k) es)) IsLawfulEntity
  by true others = all.0
  by false others = others

item_lawful : (columns : List Column) (selected : Select) (es : List EntityParts) (row : RowParts) → AllByRecursion IsLawfulEntity es
    → IsLawfulRow row → IsLawfulItem (item_of columns selected es row)
item_lawful columns select.Entities es row all l = record {
  key = l.key;
  entity = found_lawful es row.key all;
  projected = All-from_recursion bytes.IsLawfulValue [] tt;
}
item_lawful columns select.Keys es row all l = record {
  key = l.key;
  entity = tt;
  projected = All-from_recursion bytes.IsLawfulValue [] tt;
}
item_lawful columns (select.Projection names) es row all l = record {
  key = l.key;
  entity = tt;
  projected = All-from_recursion bytes.IsLawfulValue (map (λ name. unwrap_or (value_in columns row name) Null) names)
      (all-map (λ (name : List ℕ). Unit {0}) bytes.IsLawfulValue (λ name. unwrap_or (value_in columns row name) Null)
      (λ name any. given (value_in columns row name) (value_lawful name (value_columns columns) row.values l.values))
      names (all_of (λ (name : List ℕ). Unit {0}) (λ name. tt) names));
} where
  given : (v : Option IndexValue) → IfLawful v → bytes.IsLawfulValue (unwrap_or v Null)
  given (Some v) l = l
  given None l = tt

pub items_lawful : (n : Normal) (w : Window) (selected : Select) (es : List EntityParts) → AllByRecursion AskedLawful n.branches
    → AllByRecursion IsLawfulEntity es → All IsLawfulItem (items_of n.merged selected es (result n w es).rows)
items_lawful n w selected es asks all =
    All-from_recursion IsLawfulItem (items_of n.merged selected es (result n w es).rows)
    (all-map IsLawfulRow IsLawfulItem (item_of n.merged selected es) (λ row l. item_lawful n.merged selected es row all l)
    (result n w es).rows (result_lawful n w es asks all))
