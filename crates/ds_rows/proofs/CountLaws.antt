-- The count of index rows is the number of rows without the one in the index of all entities.
use Rattle.std.specs.Prelude.{◌≡◌, ℕ, ◌+◌, ◌*◌, ◌<◌, Bool, true, false, List, [], ◌∷◌, ◌++◌, cond, filter, flat_map, length, map}
use Rattle.std.specs.Prelude.{get_or, sum_by, Option, Some, None, IsTrue, refl}
use Rattle.std.specs.List.{enumerate_from}
use Rattle.std.specs.Option.{option_map_or}
use Rattle.std.proofs.Common.{suc, ap, sym, ◌∙◌, arith, length-append}
use Rattle.std.proofs.lemmas.List.{length-map}
use Rattle.std.proofs.lemmas.List.Concat.{length-flat_map}
use Rattle.std.proofs.lemmas.List.Sums.{sum_by-append, sum_by-cons}
use Rattle.std.proofs.Math.Nat.{mul_comm}
use Rattle.ds_base.specs.declared.column.Column.{Column}
use Rattle.ds_entity.specs.declared.entity.Property.{Property}
use Rattle.ds_base.specs.declared.index_value.IndexValue.{IndexValue}
use Rattle.ds_base.specs.declared.index_value.IndexValue.TheVariants as class
use Rattle.ds_base.specs.Keys.{KeyParts}
use Rattle.ds_entity.specs.Entities.{EntityParts, names_ascend}
use Rattle.ds_indexdef.specs.declared.IndexDef.{IndexDef}
use Rattle.ds_rows.specs.IndexedValues.{kind_in, property_values, indexed_values, column_values, each_way}
use Rattle.ds_base.specs.KeyColumn.{is_key_name}
use Rattle.ds_rows.specs.Counts.{product, column_count, composite_count, row_count}
use Rattle.ds_rows.specs.Indexes.{RowIndex, AllByKey, KindByKey, ByProperty, Composite, front_columns, property_indexes}
use Rattle.ds_rows.specs.Indexes.{composite_indexes, indexes_of}
use Rattle.ds_rows.specs.Rows.{ancestors, row_ancestors, index_lists, row_with, index_rows, index_row_bytes, rows_in, rows_of}
use Rattle.ds_rows.specs.Ways.{ways_count}
use Rattle.ds_rows.proofs.Lookups.{found_at}
use Rattle.ds_rows.proofs.IndexedRows.{length_ancestors}
use Rattle.ds_rows.proofs.WayLaws.{count_is}

-- ---- one index

length_rows : (k : KeyParts) (ways : List (List IndexValue)) (befores : List (Option KeyParts))
    → length (flat_map (λ a. map (row_with k a) ways) befores) ≡ length befores * length ways
length_rows k ways [] = omega arith
length_rows k ways (a ∷ befores) =
    omega (
      arith,
      length-append (map (row_with k a) ways) (flat_map (λ a. map (row_with k a) ways) befores),
      length-map ways (row_with k a),
      length_rows k ways befores,
    )

rows_in_index : (e : EntityParts) (i : RowIndex) → length (rows_in e i) ≡ length (row_ancestors i e.key) * ways_count (index_lists e i)
rows_in_index e i =
    length-map (index_rows e i) (index_row_bytes i)
    ∙ length_rows e.key (each_way (index_lists e i)) (row_ancestors i e.key)
    ∙ ap (λ n. length (row_ancestors i e.key) * n) (count_is (index_lists e i))

-- ---- properties

in_property : (e : EntityParts) (name : List ℕ) (descending : Bool) → length (rows_in e (ByProperty name descending))
    ≡ length (indexed_values e name)
in_property e name descending =
    let one : 1 * (length (indexed_values e name) * 1) ≡ length (indexed_values e name) = omega arith in
    rows_in_index e (ByProperty name descending) ∙ one

in_properties : (e : EntityParts) (ps : List Property) → ((k : ℕ) (d : Property) → k < length ps → indexed_values e (get_or ps k d).name
    ≡ property_values (get_or ps k d))
    → sum_by (λ i. length (rows_in e i)) (flat_map property_indexes ps) ≡ sum_by (λ p. 2 * length (property_values p)) ps
in_properties e [] own = refl
in_properties e (p ∷ ps) own =
    let here : length (indexed_values e p.name) ≡ length (property_values p) = ap length (own 0 p (omega arith)) in
    let asc = in_property e p.name false ∙ here in
    let desc = in_property e p.name true ∙ here in
    let rest = in_properties e ps (λ k d below. own (suc k) d (omega arith)) in
    let size : RowIndex → ℕ = λ i. length (rows_in e i) in
    sum_by-cons size (ByProperty p.name false) (ByProperty p.name true ∷ flat_map property_indexes ps)
    ∙ ap (λ n. size (ByProperty p.name false) + n) (sum_by-cons size (ByProperty p.name true) (flat_map property_indexes ps))
    ∙ (λ t. asc t + (desc t + rest t))
    ∙ twice (length (property_values p)) (sum_by (λ p. 2 * length (property_values p)) ps)
    ∙ sym (sum_by-cons (λ (q : Property). 2 * length (property_values q)) p ps) where
      twice : (n m : ℕ) → n + (n + m) ≡ 2 * n + m
      twice n m = omega arith

-- ---- composites

in_column : (e : EntityParts) (name : List ℕ) → length (column_values e name) ≡ column_count e name
in_column e name = by (is_key_name name) where
  by : (b : Bool) → length (cond b (class.Key e.key ∷ []) (indexed_values e name)) ≡ cond b 1 (length (indexed_values e name))
  by true = refl
  by false = refl

in_columns : (e : EntityParts) (cs : List Column) → ways_count (map (λ (c : Column). column_values e c.name) (front_columns cs))
    ≡ product (map (λ (c : Column). column_count e c.name) cs)
in_columns e [] = refl
in_columns e (c ∷ []) = by (is_key_name c.name) refl where
  by : (b : Bool) → is_key_name c.name ≡ b
      → ways_count (map (λ (c : Column). column_values e c.name) (cond b [] (c ∷ []))) ≡ column_count e c.name * 1
  by true named = ap (λ (b : Bool). cond b 1 (length (indexed_values e c.name)) * 1) (sym named)
  by false named = ap (λ n. n * 1) (in_column e c.name)
in_columns e (c ∷ d ∷ cs) = λ t. in_column e c.name t * in_columns e (d ∷ cs) t

ancestors_of_row : (n : ℕ) (d : IndexDef) (k : KeyParts) → length (row_ancestors (Composite n d) k) ≡ cond d.ancestor (length k.elems) 1
ancestors_of_row n d k = by d.ancestor where
  by : (b : Bool) → length (cond b (map (λ a. Some a) (ancestors k)) (None ∷ [])) ≡ cond b (length k.elems) 1
  by true = length-map (ancestors k) (λ (a : KeyParts). Some a) ∙ length_ancestors k
  by false = refl

in_composite : (e : EntityParts) (n : ℕ) (d : IndexDef) → length (rows_in e (Composite n d)) ≡ composite_count e d
in_composite e n d =
    rows_in_index e (Composite n d) ∙ (λ t. ancestors_of_row n d e.key t * in_columns e d.columns t)
    ∙ mul_comm (cond d.ancestor (length e.key.elems) 1) (product (map (λ (c : Column). column_count e c.name) d.columns))

in_composites : (e : EntityParts) (n : ℕ) (defs : List IndexDef)
    → sum_by (λ i. length (rows_in e i)) (map (λ (placed : ℕ × IndexDef). Composite placed.0 placed.1)
    (filter (λ (placed : ℕ × IndexDef). kind_in placed.1.kind e.key) (enumerate_from n defs)))
    ≡ sum_by (λ d. cond (kind_in d.kind e.key) (composite_count e d) 0) defs
in_composites e n [] = refl
in_composites e n (d ∷ defs) =
    by (kind_in d.kind e.key) (in_composites e (n + 1) defs)
    ∙ sym (sum_by-cons (λ (d : IndexDef). cond (kind_in d.kind e.key) (composite_count e d) 0) d defs) where
      by : (b : Bool)
          → sum_by (λ i. length (rows_in e i)) (map (λ (placed : ℕ × IndexDef). Composite placed.0 placed.1)
          (filter (λ (placed : ℕ × IndexDef). kind_in placed.1.kind e.key) (enumerate_from (n + 1) defs)))
          ≡ sum_by (λ d. cond (kind_in d.kind e.key) (composite_count e d) 0) defs
          → sum_by (λ i. length (rows_in e i)) (map (λ (placed : ℕ × IndexDef). Composite placed.0 placed.1)
          (cond b ((n, d) ∷ filter (λ (placed : ℕ × IndexDef). kind_in placed.1.kind e.key) (enumerate_from (n + 1) defs))
          (filter (λ (placed : ℕ × IndexDef). kind_in placed.1.kind e.key) (enumerate_from (n + 1) defs))))
          ≡ cond b (composite_count e d) 0 + sum_by (λ d. cond (kind_in d.kind e.key) (composite_count e d) 0) defs
      by true rest =
          sum_by-cons (λ (i : RowIndex). length (rows_in e i)) (Composite n d) (map (λ (placed : ℕ × IndexDef). Composite placed.0 placed.1)
          (filter (λ (placed : ℕ × IndexDef). kind_in placed.1.kind e.key) (enumerate_from (n + 1) defs)))
          ∙ (λ t. in_composite e n d t + rest t)
      by false rest = rest ∙ none (sum_by (λ d. cond (kind_in d.kind e.key) (composite_count e d) 0) defs) where
        none : (m : ℕ) → m ≡ 0 + m
        none m = omega arith

-- ---- all

-- One row more than are counted.
pub all_counted : (defs : List IndexDef) (e : EntityParts) → IsTrue (names_ascend e.properties) → length (rows_of defs e)
    ≡ row_count defs e + 1
all_counted defs e t =
    let size : RowIndex → ℕ = λ i. length (rows_in e i) in
    let rest : List RowIndex = flat_map property_indexes e.properties ++ composite_indexes defs e in
    let properties = in_properties e e.properties
    (λ k d below. ap (λ (o : Option Property). option_map_or property_values o []) (found_at e.properties t k d
    (get_or e.properties k d).name below refl)) in
    let composites = in_composites e 0 defs in
    let sum : sum_by size rest
    ≡ sum_by (λ p. 2 * length (property_values p)) e.properties + sum_by (λ d. cond (kind_in d.kind e.key)
    (composite_count e d) 0) defs =
    sum_by-append size (flat_map property_indexes e.properties) (composite_indexes defs e) ∙ (λ t. properties t + composites t) in
    length-flat_map (rows_in e) (indexes_of defs e)
    ∙ sum_by-cons size AllByKey (KindByKey ∷ rest)
    ∙ ap (λ n. 1 + n) (sum_by-cons size KindByKey rest ∙ ap (λ n. 1 + n) sum)
    ∙ both (sum_by (λ p. 2 * length (property_values p)) e.properties) (sum_by (λ d. cond (kind_in d.kind e.key)
    (composite_count e d) 0) defs) where
      both : (a b : ℕ) → 1 + (1 + (a + b)) ≡ 1 + a + b + 1
      both a b = omega arith
