-- The ways to take one value of each list are numbered as `way_at` says.
use Rattle.std.proofs.Common.{◌≡◌, ℕ, zero, suc, ◌+◌, ◌-◌, ◌*◌, ◌/◌, ◌%◌, ◌<◌, ◌≤◌, ◌++◌, ◌∷◌, [], List, length, map, get_or, take, drop}
use Rattle.std.proofs.Common.{refl, ap, sym, subst, ◌∙◌, arith, length-append, inl, inr}
use Rattle.std.specs.Prelude.{flat_map, All}
use Rattle.std.proofs.Common.{append_assoc}
use Rattle.std.proofs.Math.Nat.{div-eq_of_lt, mod-eq_of_lt, mod-lt, add-mod_left, mul-add-div, mul-div_cancel_left, div-lt_iff_lt-mul}
use Rattle.std.proofs.Math.Nat.{mul_assoc}
use Rattle.std.proofs.lemmas.Bool.{cases_lt}
use Rattle.std.proofs.lemmas.List.{length-map, get_or_append_left, get_or-append_right, get_or-map, drop_more, get_or_read, map_more}
use Rattle.std.proofs.lemmas.List.{take_all}
use Rattle.std.proofs.lemmas.List.Elements.{All-nil, All-cons, All-head, All-tail, All-more}
use Rattle.ds_base.specs.declared.index_value.IndexValue.{IndexValue}
use Rattle.ds_base.specs.declared.index_value.IndexValue.TheVariants.{Null}
use Rattle.ds_bytes.specs.Encoding.{encoding}
use Rattle.ds_bytes.specs.Lawful.{IsLawfulValue}
use Rattle.ds_bytes.specs.Rows.{columns_bytes}
use Rattle.ds_rows.specs.declared.ways.ColumnValues.{ColumnValues}
use Rattle.ds_rows.specs.IndexedValues.{each_way}
use Rattle.ds_rows.specs.Spans.{Written}
use Rattle.ds_rows.specs.Ways.{ways_count, way_at, lists_of, directions_of, row_of_way}

-- ---- numbers of ways

length_blocks : (ways : List (List IndexValue)) (values : List IndexValue)
    → length (flat_map (λ v. map (λ vs. v ∷ vs) ways) values) ≡ length values * length ways
length_blocks ways [] = omega arith
length_blocks ways (v ∷ values) =
    omega (
      arith,
      length-append (map (λ (vs : List IndexValue). v ∷ vs) ways) (flat_map (λ v. map (λ vs. v ∷ vs) ways) values),
      length-map ways (λ (vs : List IndexValue). v ∷ vs),
      length_blocks ways values,
    )

pub count_is : (lists : List (List IndexValue)) → length (each_way lists) ≡ ways_count lists
count_is [] = refl
count_is (values ∷ more) = length_blocks (each_way more) values ∙ ap (λ n. length values * n) (count_is more)

some_from_product : (k l n : ℕ) → n < k * l → 0 < l
some_from_product k zero n below = absurd (omega arith)
some_from_product k (suc l) n below = omega arith

some_before_product : (k l n : ℕ) → n < k * l → 0 < k
some_before_product zero l n below = absurd (omega arith)
some_before_product (suc k) l n below = omega arith

in_blocks : (ways : List (List IndexValue)) (values : List IndexValue) (n : ℕ) (d e : List IndexValue) → n < length values * length ways
    → get_or (flat_map (λ v. map (λ vs. v ∷ vs) ways) values) n d ≡ get_or values (n / length ways) Null ∷ get_or ways (n % length ways) e
in_blocks ways [] n d e below = absurd (omega arith)
in_blocks ways (v ∷ values) n d e below = elim (cases_lt n (length ways)) [
  | inl low ↦
      get_or_append_left (map (λ vs. v ∷ vs) ways) (flat_map (λ v. map (λ vs. v ∷ vs) ways) values) d n
      (subst (λ m. n < m) (sym (length-map ways (λ (vs : List IndexValue). v ∷ vs))) low)
      ∙ get_or-map (λ (vs : List IndexValue). v ∷ vs) ways n e d low
      ∙ (λ i. get_or (v ∷ values) (sym (div-eq_of_lt low) i) Null ∷ get_or ways (sym (mod-eq_of_lt low) i) e)
  | inr high ↦
      let size : ℕ = length ways in
      let some : 0 < size = some_from_product (suc (length values)) size n below in
      let sum : size + (n - size) ≡ n = omega arith in
      let fewer : n - size < length values * size = omega arith in
      let whole : size * 1 + (n - size) ≡ n = omega arith in
      let one : suc ((n - size) / size) ≡ 1 + (n - size) / size = omega arith in
      let quotient : suc ((n - size) / size) ≡ n / size = one ∙ sym (mul-add-div some 1 (n - size)) ∙ ap (λ m. m / size) whole in
      let rest : (n - size) % size ≡ n % size = sym (add-mod_left size (n - size)) ∙ ap (λ m. m % size) sum in
      get_or-append_right (map (λ vs. v ∷ vs) ways) (flat_map (λ v. map (λ vs. v ∷ vs) ways) values) size n d
      (length-map ways (λ (vs : List IndexValue). v ∷ vs)) high
      ∙ in_blocks ways values (n - size) d e fewer
      ∙ (λ i. get_or (v ∷ values) (quotient i) Null ∷ get_or ways (rest i) e)
]

-- the way of a number
pub way_of_number : (lists : List (List IndexValue)) (n : ℕ) (d : List IndexValue) → n < ways_count lists → get_or (each_way lists) n d
    ≡ way_at lists n
way_of_number [] zero d below = refl
way_of_number [] (suc n) d below = absurd (omega arith)
way_of_number (values ∷ more) n d below =
    let count = count_is more in
    let some : 0 < ways_count more = some_from_product (length values) (ways_count more) n below in
    in_blocks (each_way more) values n d [] (subst (λ m. n < length values * m) (sym count) below)
    ∙ (λ i. get_or values (n / count i) Null ∷ get_or (each_way more) (n % count i) [])
    ∙ ap (λ ws. get_or values (n / ways_count more) Null ∷ ws) (way_of_number more (n % ways_count more) [] (mod-lt n some))

-- ---- one column more

-- what the number of ways of the columns that are left, and the number of one of them, say of the next column
pub record IsStep (values : List IndexValue) (more : List (List IndexValue)) (stride left : ℕ) : Type 0 where
  pub some : 0 < length values
  pub next : stride / length values ≡ ways_count more
  pub positive : 0 < ways_count more
  pub within : left / ways_count more < length values
  pub below : left % ways_count more < ways_count more

pub step : (values : List IndexValue) (more : List (List IndexValue)) (stride left : ℕ) → stride ≡ ways_count (values ∷ more)
    → left < stride
    → IsStep values more stride left
step values more stride left is below =
    let inside : left < length values * ways_count more = subst (λ n. left < n) is below in
    let some = some_before_product (length values) (ways_count more) left inside in
    let positive = some_from_product (length values) (ways_count more) left inside in
    record {
      some = some;
      next = ap (λ n. n / length values) is ∙ mul-div_cancel_left (ways_count more) some;
      positive = positive;
      within = (div-lt_iff_lt-mul positive).1 inside;
      below = mod-lt left positive;
    }

pub left_step : (columns : List ColumnValues) (i stride left : ℕ) (c : ColumnValues) → i < length columns → c ≡ get_or columns i c
    → stride ≡ ways_count (lists_of (drop i columns)) → left < stride
    → IsStep c.values.now (lists_of (drop (i + 1) columns)) stride left
left_step columns i stride left c within is count below =
    let rest : drop i columns ≡ c ∷ drop (i + 1) columns = drop_more columns i c within
    ∙ ap (λ (x : ColumnValues). x ∷ drop (i + 1) columns) (sym is) in
    step c.values.now (lists_of (drop (i + 1) columns)) stride left (count
    ∙ ap (λ (cs : List ColumnValues). ways_count (lists_of cs)) rest) below

-- the values of the columns that are left, behind what was put
abbrev pub behind : List ℕ → List ColumnValues → ℕ → List ℕ
behind begun columns n = begun ++ columns_bytes (directions_of columns) (way_at (lists_of columns) n)

pub value_put : (columns : List ColumnValues) (i left next place : ℕ) (c : ColumnValues) (v : IndexValue) (begun : List ℕ)
    → i < length columns
    → c ≡ get_or columns i c → next ≡ ways_count (lists_of (drop (i + 1) columns)) → place ≡ left / next → place < length c.values.now
    → v ≡ get_or c.values.now place v
    → behind (begun ++ encoding c.descending v) (drop (i + 1) columns) (left % next) ≡ behind begun (drop i columns) left
value_put columns i left next place c v begun within is count at inside read =
    let rest : drop i columns ≡ c ∷ drop (i + 1) columns = drop_more columns i c within
    ∙ ap (λ (x : ColumnValues). x ∷ drop (i + 1) columns) (sym is) in
    let more : List ColumnValues = drop (i + 1) columns in
    let value : v ≡ get_or c.values.now (left / ways_count (lists_of more)) Null =
    get_or_read c.values.now place v inside read Null ∙ ap (λ n. get_or c.values.now n Null) (at ∙ ap (λ n. left / n) count) in
    append_assoc begun (encoding c.descending v) (columns_bytes (directions_of more) (way_at (lists_of more) (left % next)))
    ∙ (λ j. begun ++ (encoding c.descending (value j) ++ columns_bytes (directions_of more) (way_at (lists_of more) (left % count j))))
    ∙ ap (λ (cs : List ColumnValues). behind begun cs left) (sym rest)

pub lawful_more : (columns : List ColumnValues) (i left next place : ℕ) (c : ColumnValues) (v : IndexValue) → i < length columns
    → c ≡ get_or columns i c → next ≡ ways_count (lists_of (drop (i + 1) columns)) → place ≡ left / next → place < length c.values.now
    → v ≡ get_or c.values.now place v → IsLawfulValue v → All IsLawfulValue (way_at (lists_of (drop (i + 1) columns)) (left % next))
    → All IsLawfulValue (way_at (lists_of (drop i columns)) left)
lawful_more columns i left next place c v within is count at inside read lawful others =
    let rest : drop i columns ≡ c ∷ drop (i + 1) columns = drop_more columns i c within
    ∙ ap (λ (x : ColumnValues). x ∷ drop (i + 1) columns) (sym is) in
    let more : List ColumnValues = drop (i + 1) columns in
    let value : v ≡ get_or c.values.now (left / ways_count (lists_of more)) Null =
    get_or_read c.values.now place v inside read Null ∙ ap (λ n. get_or c.values.now n Null) (at ∙ ap (λ n. left / n) count) in
    subst (λ (cs : List ColumnValues). All IsLawfulValue (way_at (lists_of cs) left)) (sym rest)
    (All-cons IsLawfulValue (get_or c.values.now (left / ways_count (lists_of more)) Null) (way_at (lists_of more) (left % ways_count
    (lists_of more)))
    (subst IsLawfulValue value lawful) (subst (λ n. All IsLawfulValue (way_at (lists_of more) (left % n))) count others))

-- ---- how many ways there are

-- where a column has no value there is no way
pub no_way : (columns : List ColumnValues) (i : ℕ) (c : ColumnValues) → i < length columns → c ≡ get_or columns i c → length c.values.now
    ≡ 0
    → 0 ≡ ways_count (lists_of columns)
no_way [] i c within is none = absurd (omega arith)
no_way (x ∷ columns) zero c within is none =
    let empty : length x.values.now ≡ 0 = ap (λ (y : ColumnValues). length y.values.now) (sym is) ∙ none in
    let zero_times : 0 ≡ 0 * ways_count (lists_of columns) = omega arith in
    zero_times ∙ ap (λ n. n * ways_count (lists_of columns)) (sym empty)
no_way (x ∷ columns) (suc i) c within is none =
    let times_zero : 0 ≡ length x.values.now * 0 = omega arith in
    times_zero ∙ ap (λ n. length x.values.now * n) (no_way columns i c (omega arith) is none)

-- one column more
pub counted_step : (columns : List ColumnValues) (i count next whole : ℕ) (c : ColumnValues) → i < length columns → c ≡ get_or columns i c
    → count * ways_count (lists_of (drop i columns)) ≡ whole → next ≡ count * length c.values.now
    → next * ways_count (lists_of (drop (i + 1) columns)) ≡ whole
counted_step columns i count next whole c within is so_far more =
    let rest : drop i columns ≡ c ∷ drop (i + 1) columns = drop_more columns i c within
    ∙ ap (λ (x : ColumnValues). x ∷ drop (i + 1) columns) (sym is) in
    ap (λ n. n * ways_count (lists_of (drop (i + 1) columns))) more
    ∙ mul_assoc count (length c.values.now) (ways_count (lists_of (drop (i + 1) columns)))
    ∙ ap (λ (cs : List ColumnValues). count * ways_count (lists_of cs)) (sym rest) ∙ so_far

-- ---- one row more

-- the rows of the first ways, behind those that were there
abbrev pub first_rows : List (List ℕ) → List ℕ → List ColumnValues → List ℕ → ℕ → Written
first_rows start front columns key n = record {
  rows = start ++ map (row_of_way front columns key) (take n (each_way (lists_of columns)));
  begun = [];
}

pub one_more_row : (start : List (List ℕ)) (front : List ℕ) (columns : List ColumnValues) (key : List ℕ) (n ways : ℕ)
    (before after : Written)
    → n < ways → ways ≡ ways_count (lists_of columns) → before ≡ first_rows start front columns key n
    → after ≡ record {
      rows = before.rows ++ (((before.begun ++ front) ++ columns_bytes (directions_of columns) (way_at (lists_of columns) n)) ++ key) ∷ [];
      begun = [];
    }
    → after ≡ first_rows start front columns key (n + 1)
one_more_row start front columns key n ways before after below all so_far more =
    let lists : List (List IndexValue) = lists_of columns in
    let inside : n < ways_count lists = subst (λ m. n < m) all below in
    let cols : List ℕ = columns_bytes (directions_of columns) (way_at lists n) in
    let row : ((([] ++ front) ++ cols) ++ key) ≡ row_of_way front columns key (get_or (each_way lists) n []) =
    append_assoc front cols key ∙ ap (row_of_way front columns key) (sym (way_of_number lists n [] inside)) in
    let rows : (start ++ map (row_of_way front columns key) (take n (each_way lists))) ++ ((([] ++ front) ++ cols) ++ key) ∷ []
    ≡ start ++ map (row_of_way front columns key) (take (n + 1) (each_way lists)) =
    ap (λ (r : List ℕ). (start ++ map (row_of_way front columns key) (take n (each_way lists))) ++ r ∷ []) row
    ∙ append_assoc start (map (row_of_way front columns key) (take n (each_way lists))) (row_of_way front columns key (get_or
    (each_way lists) n []) ∷ [])
    ∙ ap (λ (rs : List (List ℕ)). start ++ rs) (sym (map_more (row_of_way front columns key) (each_way lists) n [] (subst (λ m. n < m)
    (sym (count_is lists)) inside))) in
    more
    ∙ ap (λ (w : Written). record {
      rows = w.rows ++ (((w.begun ++ front) ++ cols) ++ key) ∷ [];
      begun = [];
    }) so_far
    ∙ (λ i. record { rows = rows i; begun = [] })

-- all rows
pub all_rows : (start : List (List ℕ)) (front : List ℕ) (columns : List ColumnValues) (key : List ℕ) (n : ℕ) (now : Written)
    → ways_count (lists_of columns) ≤ n → now ≡ first_rows start front columns key n
    → now ≡ record { rows = start ++ map (row_of_way front columns key) (each_way (lists_of columns)); begun = [] }
all_rows start front columns key n now all so_far =
    so_far ∙ ap (λ (ways : List (List IndexValue)). record { rows = start ++ map (row_of_way front columns key) ways; begun = [] })
    (take_all n (each_way (lists_of columns)) (subst (λ m. m ≤ n) (sym (count_is (lists_of columns))) all))

-- the ways so far, and one more
pub lawful_way : (columns : List ColumnValues) (n ways : ℕ) → n < ways → ways ≡ ways_count (lists_of columns)
    → All (All IsLawfulValue) (take n (each_way (lists_of columns))) → All IsLawfulValue (way_at (lists_of columns) n)
    → All (All IsLawfulValue) (take (n + 1) (each_way (lists_of columns)))
lawful_way columns n ways below all so_far more =
    let lists : List (List IndexValue) = lists_of columns in
    let inside : n < ways_count lists = subst (λ m. n < m) all below in
    All-more (All IsLawfulValue) (each_way lists) n [] (subst (λ m. n < m) (sym (count_is lists)) inside) so_far
    (subst (All IsLawfulValue) (sym (way_of_number lists n [] inside)) more)

-- a row that was put piece by piece
pub row_put : (w0 w1 w2 w3 w4 : Written) (front values key : List ℕ) → w1 ≡ record { rows = w0.rows; begun = w0.begun ++ front }
    → w2 ≡ record { rows = w1.rows; begun = w1.begun ++ values } → w3 ≡ record { rows = w2.rows; begun = w2.begun ++ key }
    → w4 ≡ record { rows = w3.rows ++ w3.begun ∷ []; begun = [] }
    → w4 ≡ record { rows = w0.rows ++ (((w0.begun ++ front) ++ values) ++ key) ∷ []; begun = [] }
row_put w0 w1 w2 w3 w4 front values key first second third fourth =
    fourth
    ∙ ap (λ (w : Written). record { rows = w.rows ++ w.begun ∷ []; begun = [] }) third
    ∙ ap (λ (w : Written). record { rows = w.rows ++ (w.begun ++ key) ∷ []; begun = [] }) second
    ∙ ap (λ (w : Written). record { rows = w.rows ++ ((w.begun ++ values) ++ key) ∷ []; begun = [] }) first

pub all_lawful : (columns : List ColumnValues) (n : ℕ) → ways_count (lists_of columns) ≤ n
    → All (All IsLawfulValue) (take n (each_way (lists_of columns))) → All (All IsLawfulValue) (each_way (lists_of columns))
all_lawful columns n all so_far =
    subst (All (All IsLawfulValue)) (take_all n (each_way (lists_of columns)) (subst (λ m. m ≤ n) (sym (count_is
    (lists_of columns))) all)) so_far

-- where the ways to take one of some values are lawful, the values are
pub one_list_lawful : (values : List IndexValue) → All (All IsLawfulValue) (each_way (values ∷ [])) → All IsLawfulValue values
one_list_lawful [] all = All-nil IsLawfulValue
one_list_lawful (v ∷ values) all =
    All-cons IsLawfulValue v values
    (All-head IsLawfulValue v [] (All-head (All IsLawfulValue) (v ∷ []) (each_way (values ∷ [])) all))
    (one_list_lawful values (All-tail (All IsLawfulValue) (v ∷ []) (each_way (values ∷ [])) all))
