-- The rows of an entity are rows of its indexes, and end in its key.
use Rattle.std.specs.Prelude.{◌≡◌, ℕ, ◌+◌, ◌<◌, Bool, true, false, List, [], ◌∷◌, ◌++◌, cond, filter, find, flat_map, length, map, get_or}
use Rattle.std.specs.Prelude.{All, Option, Some, None, bytes_eq, refl}
use Rattle.std.specs.List.{enumerate_from}
use Rattle.std.specs.Option.{option_map_or}
use Rattle.std.proofs.Common.{suc, ap, sym, subst, ◌∙◌, append_assoc, arith, length-append}
use Rattle.std.proofs.lemmas.List.{length-map, get_or_at}
use Rattle.std.proofs.lemmas.List.Elements.{All-nil, All-cons, All-append, All-head, All-tail}
use Rattle.ds_base.specs.declared.key.Elem.{Elem}
use Rattle.ds_base.specs.declared.column.Column.{Column}
use Rattle.ds_entity.specs.declared.entity.Property.{Property}
use Rattle.ds_base.specs.declared.index_value.IndexValue.{IndexValue}
use Rattle.ds_base.specs.declared.index_value.IndexValue.TheVariants as class
use Rattle.ds_base.specs.Keys.{KeyParts}
use Rattle.ds_entity.specs.Entities.{EntityParts}
use Rattle.ds_indexdef.specs.declared.IndexDef.{IndexDef}
use Rattle.ds_bytes.specs.Lawful.{IsElemOfBytes, IsKeyOfBytes, IsValueOfBytes, IsLawfulValue}
use Rattle.ds_bytes.specs.LawfulLaws.{key_of_bytes, value_of_bytes}
use Rattle.ds_rows.specs.IndexedValues.{kind_in, property_values, indexed_values, column_values, each_way}
use Rattle.ds_base.specs.KeyColumn.{is_key_name}
use Rattle.ds_rows.specs.Indexes.{RowIndex, AllByKey, KindByKey, ByProperty, Composite, directions, has_ancestor, front_columns}
use Rattle.ds_rows.specs.Indexes.{property_indexes, composite_indexes, indexes_of}
use Rattle.ds_rows.specs.Indexable.{IsIndexable}
use Rattle.ds_rows.specs.Rows.{IndexRow, paths_to, ancestors, row_ancestors, index_lists, row_with, index_rows}
use Rattle.ds_rows.specs.Laws.{IsIndexOf, SuitsAncestor, IsRowOf}

-- ---- what holds of each

pub each_map : {X Y : Type 0} (P : Y → Type 0) (f : X → Y) (xs : List X) → All (λ x. P (f x)) xs → All P (map f xs)
each_map P f [] all = All-nil P
each_map P f (x ∷ xs) all = All-cons P (f x) (map f xs) (All-head (λ x. P (f x)) x xs all) (each_map P f xs (All-tail (λ x. P
    (f x)) x xs all))

pub each_flat : {X Y : Type 0} (P : Y → Type 0) (f : X → List Y) (xs : List X) → All (λ x. All P (f x)) xs → All P (flat_map f xs)
each_flat P f [] all = All-nil P
each_flat P f (x ∷ xs) all =
    All-append P (f x) (flat_map f xs) (All-head (λ x. All P (f x)) x xs all) (each_flat P f xs (All-tail (λ x. All P (f x)) x xs all))

pub each_kept : {X : Type 0} (P : X → Type 0) (test : X → Bool) (xs : List X) → All P xs → All P (filter test xs)
each_kept P test [] all = All-nil P
each_kept P test (x ∷ xs) all = by (test x) (each_kept P test xs (All-tail P x xs all)) where
  by : (b : Bool) → All P (filter test xs) → All P (cond b (x ∷ filter test xs) (filter test xs))
  by true kept = All-cons P x (filter test xs) (All-head P x xs all) kept
  by false kept = kept

each_of : {X : Type 0} (P : X → Type 0) → ((x : X) → P x) → (xs : List X) → All P xs
each_of P holds xs = λ k d below. holds _

-- ---- values

values_lawful : (values : List IndexValue) → All IsLawfulValue values → All IsValueOfBytes values
values_lawful values all = λ k d below. value_of_bytes _ (all k d below)

named_lawful : (ps : List Property) (name : List ℕ) → All (λ p. All IsLawfulValue (property_values p)) ps
    → All IsValueOfBytes (option_map_or property_values (find (λ p. bytes_eq p.name name) ps) [])
named_lawful [] name all = All-nil IsValueOfBytes
named_lawful (p ∷ ps) name all = by (bytes_eq p.name name) (named_lawful ps name (All-tail (λ p. All IsLawfulValue
    (property_values p)) p ps all)) where
      by : (b : Bool) → All IsValueOfBytes (option_map_or property_values (find (λ p. bytes_eq p.name name) ps) [])
          → All IsValueOfBytes (option_map_or property_values (cond b (Some p) (find (λ p. bytes_eq p.name name) ps)) [])
      by true others = values_lawful (property_values p) (All-head (λ p. All IsLawfulValue (property_values p)) p ps all)
      by false others = others

column_lawful : (e : EntityParts) (name : List ℕ) → IsIndexable e → All IsValueOfBytes (column_values e name)
column_lawful e name p = by (is_key_name name) where
  by : (b : Bool) → All IsValueOfBytes (cond b (class.Key e.key ∷ []) (indexed_values e name))
  by true = All-cons IsValueOfBytes (class.Key e.key) [] (key_of_bytes e.key p.key) (All-nil IsValueOfBytes)
  by false = named_lawful e.properties name p.values

lists_lawful : (e : EntityParts) (i : RowIndex) → IsIndexable e → All (All IsValueOfBytes) (index_lists e i)
lists_lawful e AllByKey p = All-nil (All IsValueOfBytes)
lists_lawful e KindByKey p = All-nil (All IsValueOfBytes)
lists_lawful e (ByProperty name descending) p =
    All-cons (All IsValueOfBytes) (indexed_values e name) [] (named_lawful e.properties name p.values) (All-nil (All IsValueOfBytes))
lists_lawful e (Composite n d) p =
    each_map (All IsValueOfBytes) (λ (c : Column). column_values e c.name) (front_columns d.columns)
    (each_of (λ (c : Column). All IsValueOfBytes (column_values e c.name)) (λ c. column_lawful e c.name p) (front_columns d.columns))

as_many : (e : EntityParts) (i : RowIndex) → length (index_lists e i) ≡ length (directions i)
as_many e AllByKey = refl
as_many e KindByKey = refl
as_many e (ByProperty name descending) = refl
as_many e (Composite n d) =
    length-map (front_columns d.columns) (λ (c : Column). column_values e c.name)
    ∙ sym (length-map (front_columns d.columns) (λ (c : Column). c.descending))

-- a way has a value of each list
pub record IsWayOf (lists : List (List IndexValue)) (way : List IndexValue) : Type 0 where
  pub long : length way ≡ length lists
  pub values : All IsValueOfBytes way

one_longer : (values : List IndexValue) (more : List (List IndexValue)) (v : IndexValue) → IsValueOfBytes v
    → (ways : List (List IndexValue))
    → All (IsWayOf more) ways → All (IsWayOf (values ∷ more)) (map (λ vs. v ∷ vs) ways)
one_longer values more v p ways all =
    each_map (IsWayOf (values ∷ more)) (λ (vs : List IndexValue). v ∷ vs) ways (λ k d below. record {
      long = ap (λ n. suc n) (all k d below).long;
      values = All-cons IsValueOfBytes v _ p (all k d below).values;
    })

ways_lawful : (lists : List (List IndexValue)) → All (All IsValueOfBytes) lists → All (IsWayOf lists) (each_way lists)
ways_lawful [] all = All-cons (IsWayOf []) [] [] (record { long = refl; values = All-nil IsValueOfBytes }) (All-nil (IsWayOf []))
ways_lawful (values ∷ more) all =
    let others = ways_lawful more (All-tail (All IsValueOfBytes) values more all) in
    let firsts = All-head (All IsValueOfBytes) values more all in
    each_flat (IsWayOf (values ∷ more)) (λ (v : IndexValue). map (λ vs. v ∷ vs) (each_way more)) values
    (λ k d below. one_longer values more _ (firsts k d below) (each_way more) others)

-- ---- ancestors

paths_lawful : (es : List Elem) → All IsElemOfBytes es → All (All IsElemOfBytes) (paths_to es)
paths_lawful [] all = All-nil (All IsElemOfBytes)
paths_lawful (e ∷ es) all =
    let here = All-head IsElemOfBytes e es all in
    let others = paths_lawful es (All-tail IsElemOfBytes e es all) in
    All-cons (All IsElemOfBytes) (e ∷ []) (map (λ path. e ∷ path) (paths_to es)) (All-cons IsElemOfBytes e [] here (All-nil IsElemOfBytes))
    (each_map (All IsElemOfBytes) (λ (path : List Elem). e ∷ path) (paths_to es) (λ k d below. All-cons IsElemOfBytes e _ here
    (others k d below)))

pub ancestors_lawful : (k : KeyParts) → IsKeyOfBytes k → All IsKeyOfBytes (ancestors k)
ancestors_lawful k p =
    let paths = paths_lawful k.elems p.elems in
    each_map IsKeyOfBytes (λ (path : List Elem). record { namespace = k.namespace; elems = path }) (paths_to k.elems)
    (λ n d below. record { namespace = p.namespace; elems = paths n d below })

ancestors_suit : (i : RowIndex) (k : KeyParts) → IsKeyOfBytes k → All (SuitsAncestor (has_ancestor i)) (row_ancestors i k)
ancestors_suit i k p = by (has_ancestor i) where
  by : (b : Bool) → All (SuitsAncestor b) (cond b (map (λ a. Some a) (ancestors k)) (None ∷ []))
  by true = each_map (SuitsAncestor true) (λ (a : KeyParts). Some a) (ancestors k) (ancestors_lawful k p)
  by false = All-cons (SuitsAncestor false) None [] tt (All-nil (SuitsAncestor false))

-- ---- rows

abbrev pub IsOwn : List IndexDef → EntityParts → RowIndex → IndexRow → Type 0
IsOwn defs e i r = IsRowOf defs i r × (r.parts.key ≡ e.key)

pub own_rows : (defs : List IndexDef) (e : EntityParts) (i : RowIndex) → IsIndexable e → IsIndexOf defs i
    → All (IsOwn defs e i) (index_rows e i)
own_rows defs e i p index =
    let key : IsKeyOfBytes e.key = key_of_bytes e.key p.key in
    let suit = ancestors_suit i e.key key in
    let ways = ways_lawful (index_lists e i) (lists_lawful e i p) in
    each_flat (IsOwn defs e i) (λ (a : Option KeyParts). map (row_with e.key a) (each_way (index_lists e i))) (row_ancestors i e.key)
    (λ n d below. each_map (IsOwn defs e i) (row_with e.key _) (each_way (index_lists e i)) (λ m w inside. (
      record {
        index = index;
        ancestor = suit n d below;
        parts = record { long = (ways m w inside).long ∙ as_many e i; values = (ways m w inside).values; key = key };
      },
      refl,
    )))

-- ---- indexes

-- definitions, each with its place
abbrev pub StandsIn : List IndexDef → ℕ × IndexDef → Type 0
StandsIn defs placed = (placed.0 < length defs) × (get_or defs placed.0 placed.1 ≡ placed.1)

placed_from : (front defs : List IndexDef) (n : ℕ) → length front ≡ n → All (StandsIn (front ++ defs)) (enumerate_from n defs)
placed_from front [] n long = All-nil (StandsIn (front ++ []))
placed_from front (d ∷ defs) n long =
    let whole : (front ++ d ∷ []) ++ defs ≡ front ++ d ∷ defs = append_assoc front (d ∷ []) defs in
    let longer : length (front ++ d ∷ []) ≡ n + 1 = omega (arith, length-append front (d ∷ [])) in
    let below : n < length (front ++ d ∷ defs) = omega (arith, length-append front (d ∷ defs)) in
    All-cons (StandsIn (front ++ d ∷ defs)) (n, d) (enumerate_from (n + 1) defs) (below, get_or_at front d defs d n long)
    (subst (λ (ds : List IndexDef). All (StandsIn ds) (enumerate_from (n + 1) defs)) whole (placed_from (front ++ d ∷ []) defs
    (n + 1) longer))

pub own_indexes : (defs : List IndexDef) (e : EntityParts) → All (IsIndexOf defs) (indexes_of defs e)
own_indexes defs e =
    let properties : All (IsIndexOf defs) (flat_map property_indexes e.properties) =
    each_flat (IsIndexOf defs) property_indexes e.properties
    (each_of (λ (p : Property). All (IsIndexOf defs) (property_indexes p)) (λ p. All-cons (IsIndexOf defs) (ByProperty p.name false)
    (ByProperty p.name true ∷ []) tt (All-cons (IsIndexOf defs) (ByProperty p.name true) [] tt (All-nil (IsIndexOf defs)))) e.properties) in
    let composites : All (IsIndexOf defs) (composite_indexes defs e) =
    each_map (IsIndexOf defs) (λ (placed : ℕ × IndexDef). Composite placed.0 placed.1)
    (filter (λ (placed : ℕ × IndexDef). kind_in placed.1.kind e.key) (enumerate_from 0 defs))
    (each_kept (StandsIn defs) (λ (placed : ℕ × IndexDef). kind_in placed.1.kind e.key) (enumerate_from 0 defs)
    (placed_from [] defs 0 refl)) in
    All-cons (IsIndexOf defs) AllByKey (KindByKey ∷ (flat_map property_indexes e.properties ++ composite_indexes defs e)) tt
    (All-cons (IsIndexOf defs) KindByKey (flat_map property_indexes e.properties ++ composite_indexes defs e) tt
    (All-append (IsIndexOf defs) (flat_map property_indexes e.properties) (composite_indexes defs e) properties composites))

-- An entity's rows are rows of its indexes, with its key.
pub rows_are_own : (defs : List IndexDef) (e : EntityParts) → IsIndexable e
    → All (λ i. All (λ r. IsRowOf defs i r × (r.parts.key ≡ e.key)) (index_rows e i)) (indexes_of defs e)
rows_are_own defs e p = λ n i below. own_rows defs e _ p (own_indexes defs e n i below)
