-- The rows of entities whose names, texts and values are bytes: each has a value for each column, so its place tells its order.
use Rattle.std.proofs.Common.{◌≡◌, ℕ, List, [], ◌∷◌, length, refl, ◌∙◌, arith}
use Rattle.std.specs.Prelude.{All, map, filter, flat_map}
use Rattle.std.proofs.lemmas.List.Elements.{All-nil, All-cons, All-head, All-tail, All-append, All-filter}
use Rattle.ds_base.specs.declared.column.Column.{Column}
use Rattle.ds_base.specs.declared.index_value.IndexValue.{IndexValue}
use Rattle.ds_entity.specs.Entities.{EntityParts}
use Rattle.ds_bytes.specs.Lawful.{IsKeyOfBytes, IsValueOfBytes}
use Rattle.ds_bytes.specs.Rows.{IsRow}
use Rattle.ds_cursor.specs.RowsOfColumns.{directions}
use Rattle.ds_query.specs.declared.branch.Branch.{Branch}
use Rattle.ds_rows.specs.IndexedValues.{indexed_values, each_way}
use Rattle.ds_model.specs.Rows.{rows, entity_rows, is_found, is_within, first_value}
use Rattle.ds_query.specs.RowValues.{value_columns}

-- the entity's key and its indexed values are written in bytes, as every reader makes them
pub record IsEntityOfBytes (e : EntityParts) : Type 0 where
  pub key : IsKeyOfBytes e.key
  pub values : (name : List ℕ) → All IsValueOfBytes (indexed_values e name)

-- one value for each of the lists
pub record IsWay (lists : List (List IndexValue)) (vs : List IndexValue) : Type 0 where
  pub long : length vs ≡ length lists
  pub values : All IsValueOfBytes vs

abbrev OfBytes : List IndexValue → Type 0
OfBytes = All IsValueOfBytes

ways-first : (values : List IndexValue) (more : List (List IndexValue)) (v : IndexValue) (ways : List (List IndexValue)) → IsValueOfBytes v → All (IsWay more) ways → All (IsWay (values ∷ more)) (map (λ vs. v ∷ vs) ways)
ways-first values more v [] p all = All-nil (IsWay (values ∷ more))
ways-first values more v (vs ∷ ways) p all =
    let way = All-head (IsWay more) vs ways all in
    All-cons (IsWay (values ∷ more)) (v ∷ vs) (map (λ vs. v ∷ vs) ways)
    (record { long = omega (arith, way.long); values = All-cons IsValueOfBytes v vs p way.values })
    (ways-first values more v ways p (All-tail (IsWay more) vs ways all))

ways-each : (values : List IndexValue) (more : List (List IndexValue)) (left : List IndexValue) → All IsValueOfBytes left → All (IsWay more) (each_way more) → All (IsWay (values ∷ more)) (flat_map (λ v. map (λ vs. v ∷ vs) (each_way more)) left)
ways-each values more [] p all = All-nil (IsWay (values ∷ more))
ways-each values more (v ∷ left) p all =
    All-append (IsWay (values ∷ more)) (map (λ vs. v ∷ vs) (each_way more)) (flat_map (λ v. map (λ vs. v ∷ vs) (each_way more)) left)
    (ways-first values more v (each_way more) (All-head IsValueOfBytes v left p) all) (ways-each values more left (All-tail IsValueOfBytes v left p) all)

ways : (lists : List (List IndexValue)) → All OfBytes lists → All (IsWay lists) (each_way lists)
ways [] all = All-cons (IsWay []) [] [] (record { long = refl; values = All-nil IsValueOfBytes }) (All-nil (IsWay []))
ways (values ∷ more) all = ways-each values more values (All-head OfBytes values more all) (ways more (All-tail OfBytes values more all))

lists_of-bytes : (e : EntityParts) (columns : List Column) → IsEntityOfBytes e → All OfBytes (map (λ (c : Column). indexed_values e c.name) columns)
lists_of-bytes e [] p = All-nil OfBytes
lists_of-bytes e (c ∷ columns) p = All-cons OfBytes (indexed_values e c.name) (map (λ (c : Column). indexed_values e c.name) columns) (p.values c.name) (lists_of-bytes e columns p)

same_length : (e : EntityParts) (columns : List Column) → length (map (λ (c : Column). indexed_values e c.name) columns) ≡ length (map (λ (c : Column). c.descending) columns)
same_length e [] = refl
same_length e (c ∷ columns) = omega (arith, same_length e columns)

rows_of-ways : (columns : List Column) (e : EntityParts) (lists : List (List IndexValue)) (all_ways : List (List IndexValue)) → IsEntityOfBytes e → length lists ≡ length (directions columns) → All (IsWay lists) all_ways →
    All (IsRow (directions columns)) (map (λ vs. record { values = vs; key = e.key }) all_ways)
rows_of-ways columns e lists [] p same all = All-nil (IsRow (directions columns))
rows_of-ways columns e lists (vs ∷ all_ways) p same all =
    let way = All-head (IsWay lists) vs all_ways all in
    All-cons (IsRow (directions columns)) (record { values = vs; key = e.key }) (map (λ vs. record { values = vs; key = e.key }) all_ways)
    (record { long = way.long ∙ same; values = way.values; key = p.key })
    (rows_of-ways columns e lists all_ways p same (All-tail (IsWay lists) vs all_ways all))

entity-rows : (columns : List Column) (e : EntityParts) → IsEntityOfBytes e → All (IsRow (directions columns)) (entity_rows columns e)
entity-rows columns e p =
    let lists : List (List IndexValue) = map (λ (c : Column). indexed_values e c.name) (value_columns columns) in
    rows_of-ways columns e lists (each_way lists) p (same_length e (value_columns columns)) (ways lists (lists_of-bytes e (value_columns columns) p))

entities-rows : (columns : List Column) (es : List EntityParts) → All IsEntityOfBytes es → All (IsRow (directions columns)) (flat_map (entity_rows columns) es)
entities-rows columns [] all = All-nil (IsRow (directions columns))
entities-rows columns (e ∷ es) all =
    All-append (IsRow (directions columns)) (entity_rows columns e) (flat_map (entity_rows columns) es)
    (entity-rows columns e (All-head IsEntityOfBytes e es all)) (entities-rows columns es (All-tail IsEntityOfBytes e es all))

-- each row of a branch has a value for each of its columns
pub rows_lawful : (q : Branch) (entities : List EntityParts) → All IsEntityOfBytes entities → All (IsRow (directions q.columns)) (rows q entities)
rows_lawful q entities all =
    All-filter (λ row. is_within q.range (first_value row)) (IsRow (directions q.columns)) (flat_map (entity_rows q.columns) (filter (is_found q) entities))
    (entities-rows q.columns (filter (is_found q) entities) (All-filter (is_found q) IsEntityOfBytes entities all))
