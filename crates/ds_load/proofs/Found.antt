-- What the query of the load finds among items, in whatever order they stand.
use Rattle.std.proofs.Common.{◌≡◌, ℕ, ◌+◌, ◌<◌, pos, List, [], ◌∷◌, ◌++◌, refl, ap, sym, ◌∙◌, arith, Bool, true, false, cond}
use Rattle.std.proofs.Common.{Some, None, map}
use Rattle.std.proofs.Common.{lt-ltb, le-ltb, ne_eqb, eq-eqb, inl, inr, append-nil, append_assoc}
use Rattle.std.specs.Prelude.{codes, ◌%◌, ◌==◌, ◌&&◌, ◌||◌, filter, flat_map, fold}
use Rattle.std.specs.List.{range_with_len, list_any}
use Rattle.std.specs.Cmp.Lexicographic.{pointwise}
use Rattle.std.specs.Ordering.{nat_cmp, int_cmp, is_eq, match_ordering, ordering_then}
use Rattle.std.specs.declared.cmp.Ordering.{Ordering}
use Rattle.std.specs.declared.cmp.Ordering.TheVariants.{Less, Equal, Greater}
use Rattle.std.proofs.lemmas.Bool.{cases_eq, cases_lt}
use Rattle.std.proofs.lemmas.List.{map-append}
use Rattle.ds_base.specs.Sorting.{insert_by}
use Rattle.ds_base.specs.declared.column.Column.{Column}
use Rattle.ds_base.specs.declared.index_value.IndexValue.TheVariants as class
use Rattle.ds_entity.specs.declared.results.Item.{Item}
use Rattle.ds_base.specs.declared.value.Value.TheVariants.{Int}
use Rattle.ds_entity.specs.Entities.{EntityParts}
use Rattle.ds_bytes.specs.Rows.{RowParts}
use Rattle.ds_query.specs.declared.branch.Branch.{Branch}
use Rattle.ds_query.specs.declared.branch.Normal.{Normal}
use Rattle.ds_query.specs.declared.branch.Window.{Window}
use Rattle.ds_query.specs.declared.query.Query.{Query}
use Rattle.ds_query.specs.declared.query.Op.TheVariants as op
use Rattle.ds_query.specs.declared.query.Select.TheVariants as select
use Rattle.ds_query.specs.Normals.{normal_form}
use Rattle.ds_model.specs.Results.{branch_results, first_of_each, first_rows, is_between, items_of, result, same_mark}
use Rattle.ds_model.specs.Rows.{rows, is_found, is_within, first_value, entity_rows, compare_rows}
use Rattle.ds_load.specs.Items.{item_of, key_of_item}
use Rattle.ds_load.proofs.Counts.{AreBelow, RiseFrom, SameTimes, below_more, below_push, in_order, filter_rises, range_rises}

-- ---- the query

abbrev pub query : Query
query = record {
  namespace = [];
  kind = Some (codes "Item");
  ancestor = None;
  filters = (record { property = codes "a"; op = op.Equal; values = Int (pos 3) ∷ [] }) ∷
      (record { property = codes "b"; op = op.Equal; values = Int (pos 2) ∷ [] }) ∷ [];
  orders = (record { name = codes "c"; descending = false }) ∷ [];
  select = select.Projection (codes "c" ∷ []);
  cursors = false;
}

abbrev pub columns : List Column
columns = (record { name = codes "c"; descending = false }) ∷ (record { name = codes "__key__"; descending = false }) ∷ []

abbrev pub branch : Branch
branch = record {
  namespace = [];
  kind = Some (codes "Item");
  ancestor = None;
  equal = (record { property = codes "a"; value = class.Num (pos 3) }) ∷ (record { property = codes "b"; value = class.Num (pos 2) }) ∷ [];
  range = record { lower = None; upper = None };
  columns = columns;
  select = select.Projection (codes "c" ∷ []);
}

abbrev pub normal : Normal
normal = record { branches = branch ∷ []; merged = columns; several = false }

pub normal_is : normal_form query ≡ normal
normal_is = refl

-- ---- numbers

numbers_cmp : (x y : ℕ) → int_cmp (pos x) (pos y) ≡ nat_cmp x y
numbers_cmp x y = elim (cases_lt x y) [
  | inl less ↦ rw (lt-ltb x y less) refl
  | inr past ↦ elim (cases_eq x y) [
    | inl same ↦ rw (le-ltb x y past, le-ltb y x (omega arith), eq-eqb x y same) refl
    | inr other ↦ rw (le-ltb x y past, lt-ltb y x (omega arith), ne_eqb x y other) refl
  ]
]

next_cmp : (x y : ℕ) → nat_cmp (x + 1) (y + 1) ≡ nat_cmp x y
next_cmp x y = elim (cases_lt x y) [
  | inl less ↦ rw (lt-ltb x y less, lt-ltb (x + 1) (y + 1) (omega arith)) refl
  | inr past ↦ elim (cases_eq x y) [
    | inl same ↦ rw (le-ltb x y past, le-ltb (x + 1) (y + 1) (omega arith), eq-eqb x y same, eq-eqb (x + 1) (y + 1) (omega arith)) refl
    | inr other ↦ rw (
      le-ltb x y past,
      le-ltb (x + 1) (y + 1) (omega arith),
      ne_eqb x y other,
      ne_eqb (x + 1) (y + 1)
          (λ e. other (omega arith)),
    ) refl
  ]
]

same_number : (x y : ℕ) → is_eq (int_cmp (pos x) (pos y)) ≡ (x == y)
same_number x y = ap is_eq (numbers_cmp x y) ∙ elim (cases_lt x y) [
  | inl less ↦ rw (lt-ltb x y less, ne_eqb x y (λ e. omega arith)) refl
  | inr past ↦ elim (cases_eq x y) [
    | inl same ↦ rw (le-ltb x y past, eq-eqb x y same) refl
    | inr other ↦ rw (le-ltb x y past, ne_eqb x y other) refl
  ]
]

-- ---- the rows of an item

-- the items that are asked for
abbrev pub matches : ℕ → Bool
matches i = (i % 10 == 3) && (i % 7 == 2)

abbrev pub row_of : ℕ → RowParts
row_of i = record { values = class.Num (pos i) ∷ []; key = key_of_item i }

abbrev both : Bool → Bool → Bool
both a b = (a || false) && ((b || false) && true)

both_are : (a b : Bool) → both a b ≡ (a && b)
both_are true true = refl
both_are true false = refl
both_are false b = refl

found_is : (i : ℕ) → is_found branch (item_of i) ≡ matches i
found_is i =
    ap (λ a. both a (is_eq (int_cmp (pos (i % 7)) (pos 2)))) (same_number (i % 10) 3)
    ∙ ap (λ b. both (i % 10 == 3) b) (same_number (i % 7) 2)
    ∙ both_are (i % 10 == 3) (i % 7 == 2)

rows_are : (is : List ℕ) → rows branch (map item_of is) ≡ map row_of (filter matches is)
rows_are [] = refl
rows_are (i ∷ is) =
    ap (λ b. filter (λ row. is_within branch.range (first_value row))
    (flat_map (entity_rows columns) (cond b (item_of i ∷ filter (is_found branch) (map item_of is))
    (filter (is_found branch) (map item_of is))))) (found_is i)
    ∙ by (matches i) (rows_are is) where
      by : (b : Bool) → rows branch (map item_of is) ≡ map row_of (filter matches is)
          → filter (λ row. is_within branch.range (first_value row))
          (flat_map (entity_rows columns) (cond b (item_of i ∷ filter (is_found branch) (map item_of is))
          (filter (is_found branch) (map item_of is))))
          ≡ map row_of (cond b (i ∷ filter matches is) (filter matches is))
      by true later = ap (λ rs. row_of i ∷ rs) later
      by false later = later

-- ---- in their order

abbrev twice : Ordering → Ordering → Ordering
twice r s = ordering_then (ordering_then r Equal) (ordering_then s Equal)

twice_is : (r : Ordering) → twice r r ≡ r
twice_is Less = refl
twice_is Equal = refl
twice_is Greater = refl

rows_cmp : (x y : ℕ) → compare_rows columns (row_of x) (row_of y) ≡ nat_cmp x y
rows_cmp x y =
    ap (λ r. twice r (nat_cmp (x + 1) (y + 1))) (numbers_cmp x y) ∙ ap (twice (nat_cmp x y)) (next_cmp x y) ∙ twice_is (nat_cmp x y)

abbrev row_put : List RowParts → RowParts → List RowParts
row_put = insert_by (compare_rows columns)

abbrev number_put : List ℕ → ℕ → List ℕ
number_put = insert_by nat_cmp

put_row : (done : List ℕ) (x : ℕ) → row_put (map row_of done) (row_of x) ≡ map row_of (number_put done x)
put_row [] x = refl
put_row (y ∷ ys) x =
    ap (λ o. match_ordering o (row_of x ∷ row_of y ∷ map row_of ys) (row_of x ∷ row_of y ∷ map row_of ys)
    (row_of y ∷ row_put (map row_of ys) (row_of x))) (rows_cmp x y)
    ∙ by (nat_cmp x y) (put_row ys x) where
      by : (o : Ordering) → row_put (map row_of ys) (row_of x) ≡ map row_of (number_put ys x)
          → match_ordering o (row_of x ∷ row_of y ∷ map row_of ys) (row_of x ∷ row_of y ∷ map row_of ys)
          (row_of y ∷ row_put (map row_of ys) (row_of x))
          ≡ map row_of (match_ordering o (x ∷ y ∷ ys) (x ∷ y ∷ ys) (y ∷ number_put ys x))
      by Less later = refl
      by Equal later = refl
      by Greater later = ap (λ rs. row_of y ∷ rs) later

put_rows : (xs done : List ℕ) → fold row_put (map row_of done) (map row_of xs) ≡ map row_of (fold number_put done xs)
put_rows [] done = refl
put_rows (x ∷ xs) done = ap (λ d. fold row_put d (map row_of xs)) (put_row done x) ∙ put_rows xs (number_put done x)

-- ---- each is the first of its mark

abbrev same : RowParts → RowParts → Bool
same = same_mark columns (codes "c" ∷ [])

abbrev kept_with : List RowParts → RowParts → List RowParts
kept_with kept x = cond (list_any (same x) kept) kept (kept ++ x ∷ [])

differ : (x y : ℕ) → y < x → same (row_of x) (row_of y) ≡ false
differ x y less =
    ap (λ o. is_eq (ordering_then o Equal) && pointwise (λ v w. is_eq (ordering_then Equal (int_cmp (pos x) (pos y))))
    (class.Num (pos x) ∷ []) (class.Num (pos y) ∷ []))
    (next_cmp x y)
    ∙ rw (le-ltb x y (omega arith), ne_eqb x y (λ e. omega arith)) refl

no_other : (x : ℕ) (done : List ℕ) → AreBelow x done → list_any (same (row_of x)) (map row_of done) ≡ false
no_other x [] below = refl
no_other x (y ∷ done) below = ap (λ b. b || list_any (same (row_of x)) (map row_of done)) (differ x y below.0) ∙ no_other x done below.1

all_first : (a : ℕ) (xs done : List ℕ) → AreBelow a done → RiseFrom a xs
    → fold kept_with (map row_of done) (map row_of xs) ≡ map row_of (done ++ xs)
all_first a [] done below rise = ap (map row_of) (sym (append-nil done))
all_first a (x ∷ xs) done below rise =
    let under : AreBelow x done = below_more a x done rise.0 below in
    ap (λ b. fold kept_with (cond b (map row_of done) (map row_of done ++ row_of x ∷ [])) (map row_of xs)) (no_other x done under)
    ∙ ap (λ d. fold kept_with d (map row_of xs)) (sym (map-append row_of done (x ∷ [])))
    ∙ all_first (x + 1) xs (done ++ x ∷ []) (below_push (x + 1) x done (omega arith) (below_more x (x + 1) done (omega arith) under)) rise.1
    ∙ ap (map row_of) (append_assoc done (x ∷ []) xs)

-- ---- the results

-- the numbers of the items that are found among so many
abbrev pub matching : ℕ → List ℕ
matching n = filter matches (range_with_len 0 n)

all_between : (rs : List RowParts) → filter (is_between columns None None) rs ≡ rs
all_between [] = refl
all_between (r ∷ rs) = ap (λ ss. r ∷ ss) (all_between rs)

abbrev pub window : Window
window = record { start = None; end = None; offset = 0; limit = None }

-- of items that are those below n, each once
pub found_rows : (n : ℕ) (is : List ℕ) → SameTimes is (range_with_len 0 n)
    → (result normal window (map item_of is)).rows ≡ map row_of (matching n)
found_rows n is once =
    append-nil (branch_results branch None None (map item_of is))
    ∙ ap (first_rows columns (codes "c" ∷ [])) (all_between (rows branch (map item_of is)) ∙ rows_are is)
    ∙ ap (first_of_each same) (put_rows (filter matches is) [] ∙ ap (map row_of) (in_order matches n is once))
    ∙ all_first 0 (matching n) [] tt (filter_rises matches 0 (range_with_len 0 n) (range_rises 0 n))

-- what is told of an item that is found
abbrev pub told_of : ℕ → Item
told_of i = record { key = key_of_item i; entity = None; projected = class.Num (pos i) ∷ [] }

items_told : (es : List EntityParts) (is : List ℕ)
    → items_of columns (select.Projection (codes "c" ∷ [])) es (map row_of is) ≡ map told_of is
items_told es [] = refl
items_told es (i ∷ is) = ap (λ ts. told_of i ∷ ts) (items_told es is)

pub found_items : (n : ℕ) (is : List ℕ) → SameTimes is (range_with_len 0 n)
    → items_of columns (select.Projection (codes "c" ∷ [])) (map item_of is) (result normal window (map item_of is)).rows
    ≡ map told_of (matching n)
found_items n is once =
    ap (items_of columns (select.Projection (codes "c" ∷ [])) (map item_of is)) (found_rows n is once)
    ∙ items_told (map item_of is) (matching n)
