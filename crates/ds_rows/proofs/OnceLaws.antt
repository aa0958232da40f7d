-- An entity has each of its rows once.
use Rattle.std.specs.Prelude.{◌≡◌, ◌≢◌, ℕ, ◌+◌, ◌<◌, ◌≤◌, Bool, true, false, List, [], ◌∷◌, ◌++◌, cond, filter, filter_map}
use Rattle.std.specs.Prelude.{find, flat_map, fold, map, get_or, All, Option, Some, None, IsTrue, bytes_eq, refl}
use Rattle.std.specs.List.{enumerate_from}
use Rattle.std.specs.Option.{option_map_or}
use Rattle.std.specs.BTreeSet.{insert_key}
use Rattle.std.specs.declared.cmp.Ordering.{Ordering}
use Rattle.std.specs.declared.cmp.Ordering.TheVariants.{Less, Equal, Greater}
use Rattle.std.specs.Ordering.{match_ordering, ordering_reverse}
use Rattle.std.specs.Cmp.{tied_itself}
use Rattle.std.proofs.Common.{ap, sym, subst, ◌∙◌, arith}
use Rattle.std.proofs.lemmas.List.Elements.{All-nil, All-cons, All-append, All-head, All-tail}
use Rattle.std.proofs.lemmas.Map.Views.{All-insert_key}
use Rattle.ds_base.specs.declared.key.Elem.{Elem}
use Rattle.ds_base.specs.declared.column.Column.{Column}
use Rattle.ds_entity.specs.declared.entity.Property.{Property}
use Rattle.ds_base.specs.declared.index_value.IndexValue.{IndexValue}
use Rattle.ds_base.specs.declared.index_value.IndexValue.TheVariants as class
use Rattle.ds_base.specs.Keys.{KeyParts}
use Rattle.ds_base.specs.IndexOrder.{index_value_cmp}
use Rattle.ds_base.specs.IndexOrderLaws.{index_value_cmp-total}
use Rattle.ds_base.specs.Values.{index_of}
use Rattle.ds_entity.specs.Entities.{EntityParts, names_ascend}
use Rattle.ds_indexdef.specs.declared.IndexDef.{IndexDef}
use Rattle.ds_indexdef.specs.Definitions.{AreDefs}
use Rattle.ds_rows.specs.IndexedValues.{kind_in, property_values, indexed_values, column_values, each_way}
use Rattle.ds_base.specs.KeyColumn.{is_key_name}
use Rattle.ds_rows.specs.Indexes.{RowIndex, AllByKey, KindByKey, ByProperty, Composite, has_ancestor, front_columns, property_indexes}
use Rattle.ds_rows.specs.Indexes.{composite_indexes, indexes_of}
use Rattle.ds_rows.specs.Indexable.{IsIndexable}
use Rattle.ds_rows.specs.Rows.{IndexRow, paths_to, ancestors, row_ancestors, index_lists, row_with, index_rows, index_row_bytes, rows_in}
use Rattle.ds_rows.specs.Rows.{rows_of}
use Rattle.ds_rows.specs.Laws.{IsIndexOf, IsRowOf, IsOnce}
use Rattle.ds_rows.specs.OwnRowLaws.{each_map, each_flat, each_kept, own_rows, own_indexes}
use Rattle.ds_rows.specs.RowLaws.{rows_apart}
use Rattle.ds_rows.proofs.Lookups.{names_differ, tail_ascends}

-- ---- lists in which nothing stands twice

once_append : {A : Type 0} (xs ys : List A) → IsOnce xs → IsOnce ys → All (λ x. All (λ y. x ≢ y) ys) xs → IsOnce (xs ++ ys)
once_append [] ys p q apart = q
once_append {A = A} (x ∷ xs) ys p q apart = (
  All-append (λ (y : A). x ≢ y) xs ys p.0 (All-head (λ (z : A). All (λ y. z ≢ y) ys) x xs apart),
  once_append xs ys p.1 q (All-tail (λ (z : A). All (λ y. z ≢ y) ys) x xs apart),
)

once_map : {A B : Type 0} (P : A → Type 0) (f : A → B) → ((x y : A) → P x → P y → f x ≡ f y → x ≡ y) → (xs : List A) → All P xs → IsOnce xs
    → IsOnce (map f xs)
once_map P f one [] all p = tt
once_map {A = A} {B = B} P f one (x ∷ xs) all p = (
  each_map (λ (z : B). f x ≢ z) f xs (λ k d below same. p.0 k d below (one x _ (All-head P x xs all) (All-tail P x xs all k d below) same)),
  once_map P f one xs (All-tail P x xs all) p.1,
)

once_kept : {A : Type 0} (test : A → Bool) (xs : List A) → IsOnce xs → IsOnce (filter test xs)
once_kept test [] p = tt
once_kept {A = A} test (x ∷ xs) p = by (test x) (once_kept test xs p.1) where
  by : (b : Bool) → IsOnce (filter test xs) → IsOnce (cond b (x ∷ filter test xs) (filter test xs))
  by true kept = (each_kept (λ (y : A). x ≢ y) test xs p.0, kept)
  by false kept = kept

-- what stands in one of the lists tells which it is
once_flat : {A B : Type 0} (P : A → Type 0) (R : A → B → Type 0) (f : A → List B) → ((x y : A) (z : B) → P x → P y → R x z → R y z → x ≡ y)
    → ((x : A) → P x → All (R x) (f x)) → ((x : A) → P x → IsOnce (f x)) → (xs : List A) → All P xs → IsOnce xs → IsOnce (flat_map f xs)
once_flat P R f tells related each [] all p = tt
once_flat {A = A} {B = B} P R f tells related each (x ∷ xs) all p =
    let here : P x = All-head P x xs all in
    let later : All P xs = All-tail P x xs all in
    let apart : All (λ z. All (λ w. z ≢ w) (flat_map f xs)) (f x) =
    λ k d below. each_flat (λ (w : B). get_or (f x) k d ≢ w) f xs (λ n y inside m w within same.
    p.0 n y inside (tells x (get_or xs n y) (get_or (f (get_or xs n y)) m w) here (later n y inside)
    (subst (R x) same (related x here k d below)) (related (get_or xs n y) (later n y inside) m w within))) in
    once_append (f x) (flat_map f xs) (each x here) (once_flat P R f tells related each xs later p.1) apart

-- ---- values

-- strictly ascending
abbrev Ascends : List IndexValue → Type 0
Ascends [] = Unit {0}
Ascends (v ∷ vs) = All (λ w. index_value_cmp v w ≡ Less) vs × Ascends vs

put_in_order : (vs : List IndexValue) (v : IndexValue) → Ascends vs → Ascends (insert_key index_value_cmp vs v)
put_in_order [] v p = (All-nil (λ w. index_value_cmp v w ≡ Less), tt)
put_in_order (w ∷ vs) v p = by (index_value_cmp v w) refl (put_in_order vs v p.1) where
  by : (o : Ordering) → index_value_cmp v w ≡ o → Ascends (insert_key index_value_cmp vs v)
      → Ascends (match_ordering o (v ∷ w ∷ vs) (w ∷ vs) (w ∷ insert_key index_value_cmp vs v))
  by Less e later = (
    All-cons (λ x. index_value_cmp v x ≡ Less) w vs e (λ k d below. index_value_cmp-total.trans v w _ e (p.0 k d below)),
    p,
  )
  by Equal e later = p
  by Greater e later = (
    All-insert_key index_value_cmp v (λ x. index_value_cmp w x ≡ Less) vs p.0
        (index_value_cmp-total.antisymm w v ∙ ap ordering_reverse e),
    later,
  )

all_in_order : (before values : List IndexValue) → Ascends before → Ascends (fold (insert_key index_value_cmp) before values)
all_in_order before [] p = p
all_in_order before (v ∷ values) p = all_in_order (insert_key index_value_cmp before v) values (put_in_order before v p)

less_differs : (v w : IndexValue) → index_value_cmp v w ≡ Less → v ≢ w
less_differs v w less same = apart (sym less ∙ ap (λ x. index_value_cmp v x) (sym same) ∙ tied_itself index_value_cmp-total v) where
  apart : Less ≡ Equal → ⊥
  apart e = cc

once_in_order : (vs : List IndexValue) → Ascends vs → IsOnce vs
once_in_order [] p = tt
once_in_order (v ∷ vs) p = (λ k d below. less_differs v _ (p.0 k d below), once_in_order vs p.1)

property_once : (p : Property) → IsOnce (property_values p)
property_once p = by p.indexed where
  by : (b : Bool) → IsOnce (cond b (fold (insert_key index_value_cmp) [] (filter_map index_of p.values)) [])
  by true = once_in_order (fold (insert_key index_value_cmp) [] (filter_map index_of p.values)) (all_in_order []
      (filter_map index_of p.values) tt)
  by false = tt

named_once : (o : Option Property) → IsOnce (option_map_or property_values o [])
named_once None = tt
named_once (Some p) = property_once p

column_once : (e : EntityParts) (name : List ℕ) → IsOnce (column_values e name)
column_once e name = by (is_key_name name) where
  by : (b : Bool) → IsOnce (cond b (class.Key e.key ∷ []) (indexed_values e name))
  by true = (All-nil (λ y. class.Key e.key ≢ y), tt)
  by false = named_once (find (λ p. bytes_eq p.name name) e.properties)

lists_once : (e : EntityParts) (i : RowIndex) → All IsOnce (index_lists e i)
lists_once e AllByKey = All-nil IsOnce
lists_once e KindByKey = All-nil IsOnce
lists_once e (ByProperty name descending) =
    All-cons IsOnce (indexed_values e name) [] (named_once (find (λ p. bytes_eq p.name name) e.properties)) (All-nil IsOnce)
lists_once e (Composite n d) =
    each_map IsOnce (λ (c : Column). column_values e c.name) (front_columns d.columns) (λ k c below. column_once e (get_or
    (front_columns d.columns) k c).name)

-- ---- ways

abbrev BeginsWith : IndexValue → List IndexValue → Type 0
BeginsWith v way = (vs : List IndexValue) × (way ≡ v ∷ vs)

first_value : (v w : IndexValue) (vs ws : List IndexValue) → v ∷ vs ≡ w ∷ ws → v ≡ w
first_value v w vs ws e = cc

other_values : (v w : IndexValue) (vs ws : List IndexValue) → v ∷ vs ≡ w ∷ ws → vs ≡ ws
other_values v w vs ws e = cc

ways_once : (lists : List (List IndexValue)) → All IsOnce lists → IsOnce (each_way lists)
ways_once [] all = (All-nil (λ y. [] ≢ y), tt)
ways_once (values ∷ more) all =
    let others = ways_once more (All-tail IsOnce values more all) in
    let W : List (List IndexValue) = each_way more in
    once_flat (λ v. Unit {0}) BeginsWith (λ v. map (λ vs. v ∷ vs) W) (λ v w way p q r s. first_value v w r.0 s.0 (sym r.1 ∙ s.1))
    (λ v p. each_map (BeginsWith v) (λ (vs : List IndexValue). v ∷ vs) W (λ k d below. (_, refl)))
    (λ v p. once_map (λ vs. Unit {0}) (λ (vs : List IndexValue). v ∷ vs) (λ vs ws a b e. other_values v v vs ws e) W
    (λ k d below. tt) others)
    values (λ k d below. tt) (All-head IsOnce values more all)

-- ---- ancestors

tail_of : (e : Elem) (p q : List Elem) → e ∷ p ≡ e ∷ q → p ≡ q
tail_of e p q same = cc

paths_some : (es : List Elem) → All (λ p. [] ≢ p) (paths_to es)
paths_some [] = All-nil (λ p. [] ≢ p)
paths_some (e ∷ es) =
    All-cons (λ p. [] ≢ p) (e ∷ []) (map (λ path. e ∷ path) (paths_to es)) (λ same. none e [] same)
    (each_map (λ (p : List Elem). [] ≢ p) (λ (path : List Elem). e ∷ path) (paths_to es) (λ k d below same. none e _ same)) where
      none : (e : Elem) (p : List Elem) → [] ≡ e ∷ p → ⊥
      none e p same = cc

paths_once : (es : List Elem) → IsOnce (paths_to es)
paths_once [] = tt
paths_once (e ∷ es) = (
  each_map (λ (p : List Elem). (e ∷ []) ≢ p) (λ (path : List Elem). e ∷ path) (paths_to es)
      (λ k d below same. paths_some es k d below (tail_of e [] _ same)),
  once_map (λ p. Unit {0}) (λ (path : List Elem). e ∷ path) (λ p q a b same. tail_of e p q same) (paths_to es) (λ k d below. tt)
      (paths_once es),
)

ancestors_once : (k : KeyParts) → IsOnce (ancestors k)
ancestors_once k =
    once_map (λ p. Unit {0}) (λ (path : List Elem). record { namespace = k.namespace; elems = path })
    (λ p q a b same. ap (λ (j : KeyParts). j.elems) same) (paths_to k.elems) (λ n d below. tt) (paths_once k.elems)

some_of : (a b : KeyParts) → Some a ≡ Some b → a ≡ b
some_of a b same = cc

row_ancestors_once : (i : RowIndex) (k : KeyParts) → IsOnce (row_ancestors i k)
row_ancestors_once i k = by (has_ancestor i) where
  by : (b : Bool) → IsOnce (cond b (map (λ a. Some a) (ancestors k)) (None ∷ []))
  by true = once_map (λ a. Unit {0}) (λ (a : KeyParts). Some a) (λ a b p q same. some_of a b same) (ancestors k) (λ n d below. tt)
      (ancestors_once k)
  by false = (All-nil (λ y. None ≢ y), tt)

index_rows_once : (e : EntityParts) (i : RowIndex) → IsOnce (index_rows e i)
index_rows_once e i =
    let W : List (List IndexValue) = each_way (index_lists e i) in
    once_flat (λ a. Unit {0}) (λ a r. r.ancestor ≡ a) (λ a. map (row_with e.key a) W) (λ a b r p q s t. sym s ∙ t)
    (λ a p. each_map (λ (r : IndexRow). r.ancestor ≡ a) (row_with e.key a) W (λ k d below. refl))
    (λ a p. once_map (λ w. Unit {0}) (row_with e.key a) (λ v w s t same. ap (λ (r : IndexRow). r.parts.values) same) W (λ k d below. tt)
    (ways_once (index_lists e i) (lists_once e i)))
    (row_ancestors i e.key) (λ k d below. tt) (row_ancestors_once i e.key)

-- ---- indexes

abbrev kind_number : RowIndex → ℕ
kind_number AllByKey = 0
kind_number KindByKey = 1
kind_number (ByProperty name descending) = 2
kind_number (Composite n d) = 3

apart_kinds : (i j : RowIndex) → kind_number i < kind_number j → i ≢ j
apart_kinds i j less same = by (ap kind_number same) where
  by : kind_number i ≡ kind_number j → ⊥
  by e = absurd (omega arith)

same_name : (m n : List ℕ) (c d : Bool) → ByProperty m c ≡ ByProperty n d → m ≡ n
same_name m n c d e = cc

same_direction : (m n : List ℕ) (c d : Bool) → ByProperty m c ≡ ByProperty n d → c ≡ d
same_direction m n c d e = cc

two_directions : (name : List ℕ) → ByProperty name false ≢ ByProperty name true
two_directions name e = apart (same_direction name name false true e) where
  apart : false ≡ true → ⊥
  apart e = cc

other_names : (p : Property) (c : Bool) (ps : List Property) → IsTrue (names_ascend (p ∷ ps))
    → All (λ i. ByProperty p.name c ≢ i) (flat_map property_indexes ps)
other_names p c ps t =
    each_flat (λ (i : RowIndex). ByProperty p.name c ≢ i) property_indexes ps
    (λ k d below. All-cons (λ (i : RowIndex). ByProperty p.name c ≢ i) (ByProperty _ false) (ByProperty _ true ∷ [])
    (λ same. names_differ p ps t k d below (same_name p.name _ c false same))
    (All-cons (λ (i : RowIndex). ByProperty p.name c ≢ i) (ByProperty _ true) [] (λ same. names_differ p ps t k d below
    (same_name p.name _ c true same))
    (All-nil (λ (i : RowIndex). ByProperty p.name c ≢ i))))

properties_once : (ps : List Property) → IsTrue (names_ascend ps) → IsOnce (flat_map property_indexes ps)
properties_once [] t = tt
properties_once (p ∷ ps) t = (
  All-cons (λ (i : RowIndex). ByProperty p.name false ≢ i) (ByProperty p.name true) (flat_map property_indexes ps) (two_directions p.name)
      (other_names p false ps t),
  (other_names p true ps t, properties_once ps (tail_ascends p ps t)),
)

later_places : (n : ℕ) (defs : List IndexDef) → All (λ (placed : ℕ × IndexDef). n ≤ placed.0) (enumerate_from n defs)
later_places n [] = All-nil (λ (placed : ℕ × IndexDef). n ≤ placed.0)
later_places n (d ∷ defs) =
    All-cons (λ (placed : ℕ × IndexDef). n ≤ placed.0) (n, d) (enumerate_from (n + 1) defs) (omega arith)
    (λ k e below. by _ (later_places (n + 1) defs k e below)) where
      by : (m : ℕ) → n + 1 ≤ m → n ≤ m
      by m above = omega arith

places_once : (n : ℕ) (defs : List IndexDef) → IsOnce (enumerate_from n defs)
places_once n [] = tt
places_once n (d ∷ defs) = (
  λ k e below same. by _ (later_places (n + 1) defs k e below) (ap (λ (placed : ℕ × IndexDef). placed.0) same),
  places_once (n + 1) defs,
) where
  by : (m : ℕ) → n + 1 ≤ m → n ≡ m → ⊥
  by m above same = absurd (omega arith)

same_place : (m n : ℕ) (d e : IndexDef) → Composite m d ≡ Composite n e → m ≡ n
same_place m n d e same = cc

same_definition : (m n : ℕ) (d e : IndexDef) → Composite m d ≡ Composite n e → d ≡ e
same_definition m n d e same = cc

composites_once : (defs : List IndexDef) (e : EntityParts) → IsOnce (composite_indexes defs e)
composites_once defs e =
    once_map (λ placed. Unit {0}) (λ (placed : ℕ × IndexDef). Composite placed.0 placed.1)
    (λ x y p q same. λ t. (same_place x.0 y.0 x.1 y.1 same t, same_definition x.0 y.0 x.1 y.1 same t))
    (filter (λ (placed : ℕ × IndexDef). kind_in placed.1.kind e.key) (enumerate_from 0 defs)) (λ k d below. tt)
    (once_kept (λ (placed : ℕ × IndexDef). kind_in placed.1.kind e.key) (enumerate_from 0 defs) (places_once 0 defs))

indexes_once : (defs : List IndexDef) (e : EntityParts) → IsTrue (names_ascend e.properties) → IsOnce (indexes_of defs e)
indexes_once defs e t =
    let composite : All (λ i. kind_number i ≡ 3) (composite_indexes defs e) =
    each_map (λ i. kind_number i ≡ 3) (λ (placed : ℕ × IndexDef). Composite placed.0 placed.1)
    (filter (λ (placed : ℕ × IndexDef). kind_in placed.1.kind e.key) (enumerate_from 0 defs)) (λ k d below. refl) in
    let property : All (λ i. kind_number i ≡ 2) (flat_map property_indexes e.properties) =
    each_flat (λ i. kind_number i ≡ 2) property_indexes e.properties
    (λ k d below. All-cons (λ i. kind_number i ≡ 2) (ByProperty _ false) (ByProperty _ true ∷ []) refl
    (All-cons (λ i. kind_number i ≡ 2) (ByProperty _ true) [] refl (All-nil (λ i. kind_number i ≡ 2)))) in
    let rest : List RowIndex = flat_map property_indexes e.properties ++ composite_indexes defs e in
    let higher : (i : RowIndex) → kind_number i < 2 → All (λ j. i ≢ j) rest =
    λ i low. All-append (λ j. i ≢ j) (flat_map property_indexes e.properties) (composite_indexes defs e)
    (λ k d below. apart_kinds i _ (above i _ 2 low (property k d below) (omega arith)))
    (λ k d below. apart_kinds i _ (above i _ 3 low (composite k d below) (omega arith))) in (
      All-cons (λ j. AllByKey ≢ j) KindByKey rest (apart_kinds AllByKey KindByKey (omega arith)) (higher AllByKey (omega arith)),
      (
        higher KindByKey (omega arith),
        once_append (flat_map property_indexes e.properties) (composite_indexes defs e) (properties_once e.properties t)
            (composites_once defs e)
            (λ k d below n j inside. apart_kinds _ _ (between_kinds _ _ (property k d below) (composite n j inside))),
      ),
    ) where
      above : (i j : RowIndex) (n : ℕ) → kind_number i < 2 → kind_number j ≡ n → 2 ≤ n → kind_number i < kind_number j
      above i j n low is high = subst (λ m. kind_number i < m) (sym is) (omega arith)

      between_kinds : (i j : RowIndex) → kind_number i ≡ 2 → kind_number j ≡ 3 → kind_number i < kind_number j
      between_kinds i j p q = subst (λ m. m < kind_number j) (sym p) (subst (λ m. 2 < m) (sym q) (omega arith))

-- ---- rows

abbrev IsRowIn : List IndexDef → RowIndex → List ℕ → Type 0
IsRowIn defs i row = (r : IndexRow) × (IsRowOf defs i r × (row ≡ index_row_bytes i r))

-- No row of an entity stands twice.
pub rows_once : (defs : List IndexDef) (e : EntityParts) → AreDefs defs → IsIndexable e → IsTrue (names_ascend e.properties)
    → IsOnce (rows_of defs e)
rows_once defs e kept p t =
    once_flat (IsIndexOf defs) (IsRowIn defs) (rows_in e)
    (λ i j row at_i at_j r s. (rows_apart defs kept i j r.0 s.0 r.1.0 s.1.0 (sym r.1.1 ∙ s.1.1)).0)
    (λ i index. each_map (IsRowIn defs i) (index_row_bytes i) (index_rows e i) (λ k d below. (
      _,
      ((own_rows defs e i p index k d below).0, refl),
    )))
    (λ i index. once_map (IsRowOf defs i) (index_row_bytes i) (λ r s a b same. (rows_apart defs kept i i r s a b same).1) (index_rows e i)
    (λ k d below. (own_rows defs e i p index k d below).0) (index_rows_once e i))
    (indexes_of defs e) (own_indexes defs e) (indexes_once defs e t)
