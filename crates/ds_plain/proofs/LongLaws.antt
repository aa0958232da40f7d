-- A row has a value for each column other than `__key__`.
use Rattle.std.proofs.Common.{◌≡◌, List, [], ◌∷◌, map, length, refl, sym, ap, ◌∙◌, subst}
use Rattle.std.specs.Prelude.{filter, flat_map, All, suc}
use Rattle.std.proofs.lemmas.List.{length-map}
use Rattle.std.proofs.lemmas.List.Elements.{All-nil, All-cons, All-head, All-tail, All-append, All-filter}
use Rattle.ds_base.specs.declared.column.Column.{Column}
use Rattle.ds_base.specs.declared.index_value.IndexValue.{IndexValue}
use Rattle.ds_entity.specs.Entities.{EntityParts}
use Rattle.ds_bytes.specs.Rows.{RowParts}
use Rattle.ds_pages.specs.Columns.{directions}
use Rattle.ds_query.specs.declared.branch.Branch.{Branch}
use Rattle.ds_rows.specs.IndexedValues.{indexed_values, each_way}
use Rattle.ds_model.specs.Rows.{rows, entity_rows, is_found, is_within, first_value}
use Rattle.ds_query.specs.RowValues.{value_columns}
use Rattle.ds_plain.specs.declared.found.Found.{Found}
use Rattle.ds_plain.specs.FoundRows.{found_parts, IsLong}

-- ---- ways

-- the way has a value of each list
abbrev IsWay : List (List IndexValue) → List IndexValue → Type 0
IsWay lists way = length way ≡ length lists

behind_value : (v : IndexValue) (values : List IndexValue) (lists ways : List (List IndexValue))
    → All (IsWay lists) ways → All (IsWay (values ∷ lists)) (map (λ vs. v ∷ vs) ways)
behind_value v values lists [] p = All-nil (IsWay (values ∷ lists))
behind_value v values lists (w ∷ ways) p =
    All-cons (IsWay (values ∷ lists)) (v ∷ w) (map (λ vs. v ∷ vs) ways) (ap suc (All-head (IsWay lists) w ways p))
    (behind_value v values lists ways (All-tail (IsWay lists) w ways p))

behind_values : (values first : List IndexValue) (lists ways : List (List IndexValue))
    → All (IsWay lists) ways → All (IsWay (first ∷ lists)) (flat_map (λ v. map (λ vs. v ∷ vs) ways) values)
behind_values [] first lists ways p = All-nil (IsWay (first ∷ lists))
behind_values (v ∷ values) first lists ways p =
    All-append (IsWay (first ∷ lists)) (map (λ vs. v ∷ vs) ways) (flat_map (λ v. map (λ vs. v ∷ vs) ways) values)
    (behind_value v first lists ways p) (behind_values values first lists ways p)

all_ways : (lists : List (List IndexValue)) → All (IsWay lists) (each_way lists)
all_ways [] = All-cons (IsWay []) [] [] refl (All-nil (IsWay []))
all_ways (values ∷ lists) = behind_values values values lists (each_way lists) (all_ways lists)

-- ---- rows

-- the row has a value for each column
abbrev pub IsLongRow : List Column → RowParts → Type 0
IsLongRow columns r = length r.values ≡ length (directions columns)

module _ (columns : List Column) (e : EntityParts) where
  abbrev lists : List (List IndexValue)
  lists = map (λ c. indexed_values e c.name) (value_columns columns)

  as_rows : (ways : List (List IndexValue)) → All (IsWay lists) ways
      → All (IsLongRow columns) (map (λ vs. record { values = vs; key = e.key }) ways)
  as_rows [] p = All-nil (IsLongRow columns)
  as_rows (w ∷ ways) p =
      All-cons (IsLongRow columns) (record { values = w; key = e.key }) (map (λ vs. record { values = vs; key = e.key }) ways)
      (All-head (IsWay lists) w ways p ∙ length-map (value_columns columns) (λ c. indexed_values e c.name)
      ∙ sym (length-map (value_columns columns) (λ c. c.descending)))
      (as_rows ways (All-tail (IsWay lists) w ways p))

entities_long : (columns : List Column) (es : List EntityParts) → All (IsLongRow columns) (flat_map (entity_rows columns) es)
entities_long columns [] = All-nil (IsLongRow columns)
entities_long columns (e ∷ es) =
    All-append (IsLongRow columns) (entity_rows columns e) (flat_map (entity_rows columns) es)
    (as_rows columns e (each_way (lists columns e)) (all_ways (lists columns e))) (entities_long columns es)

rows_long : (q : Branch) (es : List EntityParts) → All (IsLongRow q.columns) (rows q es)
rows_long q es =
    All-filter (λ row. is_within q.range (first_value row)) (IsLongRow q.columns)
    (flat_map (entity_rows q.columns) (filter (is_found q) es))
    (entities_long q.columns (filter (is_found q) es))

of_parts : (columns : List Column) (fs : List Found) → All (IsLongRow columns) (map found_parts fs) → All (IsLong columns) fs
of_parts columns [] p = All-nil (IsLong columns)
of_parts columns (f ∷ fs) p =
    All-cons (IsLong columns) f fs (All-head (IsLongRow columns) (found_parts f) (map found_parts fs) p)
    (of_parts columns fs (All-tail (IsLongRow columns) (found_parts f) (map found_parts fs) p))

pub found_long : (q : Branch) (es : List EntityParts) (fs : List Found) → map found_parts fs ≡ rows q es → All (IsLong q.columns) fs
found_long q es fs e = of_parts q.columns fs (subst (λ rs. All (IsLongRow q.columns) rs) (sym e) (rows_long q es))
