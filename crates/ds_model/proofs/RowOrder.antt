-- Rows of the same columns compare in a total order, in which only equal rows tie.
use Rattle.std.proofs.Common.{◌≡◌, List, [], ◌∷◌, length, fold, refl, ap, sym, ◌∙◌, subst, Bool, true, false, arith}
use Rattle.std.specs.Cmp.{IsTotalOrder, tied_itself}
use Rattle.std.specs.Cmp.Lexicographic.{slice_cmp}
use Rattle.std.specs.FinMap.{IsAntisymmetric, slice_cmp-IsAntisymmetric}
use Rattle.std.specs.List.{AllByRecursion}
use Rattle.std.proofs.lemmas.Cmp.{then_total, on_total, back_total, lists_total}
use Rattle.std.specs.Ordering.{ordering_then, match_ordering}
use Rattle.std.specs.declared.cmp.Ordering.{Ordering}
use Rattle.std.specs.declared.cmp.Ordering.TheVariants.{Less, Equal, Greater}
use Rattle.ds_base.specs.declared.column.Column.{Column}
use Rattle.ds_base.specs.declared.index_value.IndexValue.{IndexValue}
use Rattle.ds_base.specs.declared.index_value.IndexValue.TheVariants.{Null}
use Rattle.ds_base.specs.IndexOrder.{index_value_cmp}
use Rattle.ds_base.specs.IndexOrderLaws.{index_value_cmp-total, index_value_cmp-same}
use Rattle.ds_base.specs.KeyOrder.{key_cmp}
use Rattle.ds_base.specs.KeyOrderLaws.{key_cmp-total, key_cmp-same}
use Rattle.ds_base.specs.OrderLaws.{both_Equal}
use Rattle.ds_base.specs.Sorting.{insert_by, sorted_by}
use Rattle.ds_bytes.specs.EncodingLaws.{directed_cmp-same}
use Rattle.ds_bytes.specs.Ordered.{directed_cmp}
use Rattle.ds_bytes.specs.Rows.{RowParts, columns_cmp}
use Rattle.ds_pages.specs.Columns.{directions, key_descends}
use Rattle.ds_model.specs.Rows.{compare_rows}

-- ---- a total order on rows of any length: what a row lacks counts as null

pub directed-total : {A : Type 0} {R : A → A → Ordering} (descending : Bool) → IsTotalOrder R → IsTotalOrder (directed_cmp descending R)
directed-total false o = o
directed-total true o = subst IsTotalOrder (λ i x y. o.antisymm y x i) (back_total o)

abbrev head_of : List IndexValue → IndexValue
head_of [] = Null
head_of (v ∷ vs) = v

abbrev tail_of : List IndexValue → List IndexValue
tail_of [] = []
tail_of (v ∷ vs) = vs

abbrev filled_cmp : List Bool → List IndexValue → List IndexValue → Ordering
filled_cmp [] vs ws = Equal
filled_cmp (d ∷ ds) vs ws =
    ordering_then (directed_cmp d index_value_cmp (head_of vs) (head_of ws)) (filled_cmp ds (tail_of vs) (tail_of ws))

filled-total : (ds : List Bool) → IsTotalOrder (filled_cmp ds)
filled-total [] = record { antisymm = λ x y. refl; trans = λ x y z p q. p; congr = λ x y z p. refl }
filled-total (d ∷ ds) =
    then_total (on_total head_of (directed-total d index_value_cmp-total)) (on_total tail_of (filled-total ds))

abbrev pub filled_row_cmp : List Column → RowParts → RowParts → Ordering
filled_row_cmp columns x y =
    ordering_then (filled_cmp (directions columns) x.values y.values) (directed_cmp (key_descends columns) key_cmp x.key y.key)

pub filled_row-total : (columns : List Column) → IsTotalOrder (filled_row_cmp columns)
filled_row-total columns =
    then_total (on_total (λ (r : RowParts). r.values) (filled-total (directions columns)))
    (on_total (λ (r : RowParts). r.key) (directed-total (key_descends columns) key_cmp-total))

-- ---- rows with a value for each column

abbrev pub IsLongRow : List Column → RowParts → Type 0
IsLongRow columns r = length r.values ≡ length (directions columns)

as_filled : (ds : List Bool) (vs ws : List IndexValue) → length vs ≡ length ds → length ws ≡ length ds
    → columns_cmp ds vs ws ≡ filled_cmp ds vs ws
as_filled [] vs ws p q = refl
as_filled (d ∷ ds) [] ws p q = absurd (omega (arith, p))
as_filled (d ∷ ds) (v ∷ vs) [] p q = absurd (omega (arith, q))
as_filled (d ∷ ds) (v ∷ vs) (w ∷ ws) p q =
    ap (ordering_then (directed_cmp d index_value_cmp v w))
    (as_filled ds vs ws (let e : length vs ≡ length ds = omega (arith, p) in e) (let e : length ws ≡ length ds = omega (arith, q) in e))

pub row-filled : (columns : List Column) (x y : RowParts) → IsLongRow columns x → IsLongRow columns y
    → compare_rows columns x y ≡ filled_row_cmp columns x y
row-filled columns x y p q =
    ap (λ r. ordering_then r (directed_cmp (key_descends columns) key_cmp x.key y.key))
    (as_filled (directions columns) x.values y.values p q)

same_values : (ds : List Bool) (vs ws : List IndexValue) → length vs ≡ length ds → length ws ≡ length ds → filled_cmp ds vs ws ≡ Equal
    → vs ≡ ws
same_values [] [] [] p q e = refl
same_values [] (v ∷ vs) ws p q e = absurd (omega (arith, p))
same_values [] [] (w ∷ ws) p q e = absurd (omega (arith, q))
same_values (d ∷ ds) [] ws p q e = absurd (omega (arith, p))
same_values (d ∷ ds) (v ∷ vs) [] p q e = absurd (omega (arith, q))
same_values (d ∷ ds) (v ∷ vs) (w ∷ ws) p q e =
    let parts = both_Equal (directed_cmp d index_value_cmp v w) (filled_cmp ds vs ws) e in
    let first : v ≡ w = directed_cmp-same d index_value_cmp-same v w parts.0 in
    let rest : vs ≡ ws =
    same_values ds vs ws (let e : length vs ≡ length ds = omega (arith, p) in e)
    (let e : length ws ≡ length ds = omega (arith, q) in e) parts.1 in
    ap (λ x. x ∷ vs) first ∙ ap (λ xs. w ∷ xs) rest

-- only equal rows tie
pub row-same : (columns : List Column) (x y : RowParts) → IsLongRow columns x → IsLongRow columns y
    → filled_row_cmp columns x y ≡ Equal → x ≡ y
row-same columns x y p q e =
    let parts = both_Equal (filled_cmp (directions columns) x.values y.values)
    (directed_cmp (key_descends columns) key_cmp x.key y.key) e in
    let values : x.values ≡ y.values = same_values (directions columns) x.values y.values p q parts.0 in
    let key : x.key ≡ y.key = directed_cmp-same (key_descends columns) key_cmp-same x.key y.key parts.1 in
    λ i. record { values = values i; key = key i }

-- ---- an order in which only equal rows tie, whatever their length

abbrev pub full_row_cmp : List Column → RowParts → RowParts → Ordering
full_row_cmp columns x y = ordering_then (filled_row_cmp columns x y) (slice_cmp index_value_cmp x.values y.values)

pub full_row-total : (columns : List Column) → IsTotalOrder (full_row_cmp columns)
full_row-total columns =
    then_total (filled_row-total columns) (on_total (λ (r : RowParts). r.values) (lists_total index_value_cmp-total))

pub full_row-same : (columns : List Column) → IsAntisymmetric (full_row_cmp columns)
full_row-same columns x y e =
    let both = both_Equal (filled_row_cmp columns x y) (slice_cmp index_value_cmp x.values y.values) e in
    let parts = both_Equal (filled_cmp (directions columns) x.values y.values)
    (directed_cmp (key_descends columns) key_cmp x.key y.key) both.0 in
    λ i. record {
      values = slice_cmp-IsAntisymmetric index_value_cmp-same x.values y.values both.1 i;
      key = directed_cmp-same (key_descends columns) key_cmp-same x.key y.key parts.1 i;
    }

pub row-full : (columns : List Column) (x y : RowParts) → IsLongRow columns x → IsLongRow columns y
    → compare_rows columns x y ≡ full_row_cmp columns x y
row-full columns x y p q = row-filled columns x y p q ∙ by (filled_row_cmp columns x y) refl where
  by : (r : Ordering) → filled_row_cmp columns x y ≡ r → filled_row_cmp columns x y
      ≡ ordering_then (filled_row_cmp columns x y) (slice_cmp index_value_cmp x.values y.values)
  by Less is = is ∙ sym (ap (λ r. ordering_then r (slice_cmp index_value_cmp x.values y.values)) is)
  by Equal is =
      is
      ∙ sym (tied_itself (lists_total index_value_cmp-total) x.values)
      ∙ ap (λ (z : RowParts). slice_cmp index_value_cmp x.values z.values) (row-same columns x y p q is)
      ∙ sym (ap (λ r. ordering_then r (slice_cmp index_value_cmp x.values y.values)) is)
  by Greater is = is ∙ sym (ap (λ r. ordering_then r (slice_cmp index_value_cmp x.values y.values)) is)

-- ---- such rows in order

module _ (columns : List Column) (R : RowParts → RowParts → Ordering)
    (agree : (x y : RowParts) → IsLongRow columns x → IsLongRow columns y → compare_rows columns x y ≡ R x y) where
  abbrev long : List RowParts → Type 0
  long = AllByRecursion (IsLongRow columns)

  long_inserted : (ys : List RowParts) (x : RowParts) → IsLongRow columns x → long ys → long (insert_by (compare_rows columns) ys x)
  long_inserted [] x p q = (p, tt)
  long_inserted (y ∷ ys) x p q = by (long_inserted ys x p q.1) (compare_rows columns x y) where
    by : long (insert_by (compare_rows columns) ys x) → (r : Ordering)
        → long (match_ordering r (x ∷ y ∷ ys) (x ∷ y ∷ ys) (y ∷ insert_by (compare_rows columns) ys x))
    by later Less = (p, q)
    by later Equal = (p, q)
    by later Greater = (q.0, later)

  inserted-as : (ys : List RowParts) (x : RowParts) → IsLongRow columns x → long ys
      → insert_by (compare_rows columns) ys x ≡ insert_by R ys x
  inserted-as [] x p q = refl
  inserted-as (y ∷ ys) x p q =
      ap (λ r. match_ordering r (x ∷ y ∷ ys) (x ∷ y ∷ ys) (y ∷ insert_by (compare_rows columns) ys x)) (agree x y p q.0)
      ∙ ap (λ zs. match_ordering (R x y) (x ∷ y ∷ ys) (x ∷ y ∷ ys) (y ∷ zs)) (inserted-as ys x p q.1)

  folded-as : (done xs : List RowParts) → long done → long xs
      → fold (insert_by (compare_rows columns)) done xs ≡ fold (insert_by R) done xs
  folded-as done [] p q = refl
  folded-as done (x ∷ xs) p q =
      folded-as (insert_by (compare_rows columns) done x) xs (long_inserted done x q.0 p) q.1
      ∙ ap (λ d. fold (insert_by R) d xs) (inserted-as done x q.0 p)

  sorted-as : (xs : List RowParts) → AllByRecursion (IsLongRow columns) xs → sorted_by (compare_rows columns) xs ≡ sorted_by R xs
  sorted-as xs q = folded-as [] xs tt q

pub sorted-filled : (columns : List Column) (xs : List RowParts) → AllByRecursion (IsLongRow columns) xs
    → sorted_by (compare_rows columns) xs ≡ sorted_by (filled_row_cmp columns) xs
sorted-filled columns = sorted-as columns (filled_row_cmp columns) (row-filled columns)

pub sorted-full : (columns : List Column) (xs : List RowParts) → AllByRecursion (IsLongRow columns) xs
    → sorted_by (compare_rows columns) xs ≡ sorted_by (full_row_cmp columns) xs
sorted-full columns = sorted-as columns (full_row_cmp columns) (row-full columns)
