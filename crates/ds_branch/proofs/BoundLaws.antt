-- A row stands between the bounds exactly where its first value is within the range, its key is under the ancestor where the rows are in
-- the order of keys, and its place is up to the end.
use Rattle.std.proofs.Common.{◌≡◌, ℕ, List, [], ◌∷◌, ◌++◌, length, Bool, true, false, ◌&&◌, ◌||◌, not, cond, refl, sym, ap, ◌∙◌}
use Rattle.std.proofs.Common.{subst, Option, Some, None, arith, append_assoc, append-nil, map, drop, take}
use Rattle.std.specs.Prelude.{IsTrue, filter, flat_map, unwrap_or, option_map, nat_eq}
use Rattle.std.specs.Ordering.{is_lt, match_ordering, ordering_then, ordering_reverse, eq_by_cmp}
use Rattle.std.specs.declared.cmp.Ordering.{Ordering}
use Rattle.std.specs.declared.cmp.Ordering.TheVariants.{Less, Equal, Greater}
use Rattle.std.specs.Cmp.{nat_cmp_is}
use Rattle.std.specs.Cmp.Lexicographic.{pointwise, pointwise_decides, bytes_decides}
use Rattle.std.specs.List.{starts_with}
use Rattle.std.proofs.lemmas.Bool.{and_parts}
use Rattle.std.proofs.lemmas.List.{take-append-drop}
use Rattle.std.proofs.lemmas.List.Elements.{All-head}
use Rattle.ds_base.specs.declared.column.Column.{Column}
use Rattle.ds_base.specs.declared.key.Elem.{Elem}
use Rattle.ds_base.specs.declared.index_value.IndexValue.{IndexValue}
use Rattle.ds_base.specs.declared.index_value.IndexValue.TheVariants as class
use Rattle.ds_base.specs.Keys.{KeyParts}
use Rattle.ds_base.specs.KeyOrder.{bytes_cmp, key_cmp, elem_cmp, is_ancestor}
use Rattle.ds_base.specs.KeyOrderLaws.{same_elem-decides}
use Rattle.ds_base.specs.IndexOrder.{index_value_cmp}
use Rattle.ds_base.specs.IndexOrderLaws.{index_value_cmp-total}
use Rattle.ds_bytes.specs.Encoding.{encoding, key_encoding, key_bytes, key_front, namespace_bytes, path_bytes, elem_bytes}
use Rattle.ds_bytes.specs.EncodingLaws.{encoding-ordered, key_encoding-ordered}
use Rattle.ds_bytes.specs.AncestorLaws.{path_bytes-append, ancestor_begins}
use Rattle.ds_bytes.specs.Ordered.{IsOrderedBy, directed_cmp}
use Rattle.ds_bytes.specs.OrderedLaws.{bytes_cmp-front}
use Rattle.ds_bytes.specs.Lawful.{IsKeyOfBytes, IsValueOfBytes, IsLawfulKey}
use Rattle.ds_bytes.specs.LawfulLaws.{key_of_bytes, value_of_bytes}
use Rattle.ds_bytes.specs.Rows.{RowParts, IsRow, columns_bytes}
use Rattle.ds_query.specs.declared.branch.Bound.{Bound}
use Rattle.ds_query.specs.declared.branch.Range.{Range}
use Rattle.ds_query.specs.declared.branch.Branch.{Branch}
use Rattle.ds_query.specs.declared.row.Place.{Place}
use Rattle.ds_base.specs.KeyColumn.{is_key_name, is_by_key, key_descends}
use Rattle.ds_query.specs.Lawful.{IsLawfulBranch, ends_in_key, names_differ, starts_with_key, bounds_are_keys, is_key_bound}
use Rattle.ds_planner.proofs.Members.{both, join, true_false}
use Rattle.ds_table.specs.Versions.{is_below, is_before, in_range}
use Rattle.ds_zigzag.proofs.Order.{above-is_from, below_below, below_upto}
use Rattle.ds_scan.specs.Ranges.{rest}
use Rattle.ds_scan.specs.RangeLaws.{begins-is}
use Rattle.ds_scan.proofs.Order.{between, from_later, to_later}
use Rattle.ds_cursor.specs.RowsOfColumns.{directions}
use Rattle.ds_model.specs.Rows.{place_of, first_value, is_within, is_above as meets_lower, is_below as meets_upper, is_under}
use Rattle.ds_model.specs.Results.{is_up_to}
use Rattle.ds_scan.specs.Bounds.{beyond, begun_with, value_in_column, first_descends, low_at, high_at, first_bound, last_bound}
use Rattle.ds_scan.specs.Bounds.{ancestor_low, ancestor_high, greater, lesser_end, behind_place, low_of, high_of}
use Rattle.ds_scan.specs.Scans.{IsLawfulAncestor, IsLawfulInColumn, IsLawfulFirst, IsLawfulBound, IsLawfulEnds}
use Rattle.ds_branch.proofs.Columns.{first_not_key}
use Rattle.ds_branch.proofs.LowBytes.{IsLow, path_low, row_low}
use Rattle.ds_branch.proofs.ScanRows.{key_some}

-- ---- one bound

-- what comes after its bound, or at it where it is inclusive
abbrev from_bound : Ordering → Bool → Bool
from_bound o inclusive = match_ordering o false inclusive true

abbrev to_bound : Ordering → Bool → Bool
to_bound o inclusive = match_ordering o true inclusive false

low_below : (t : List ℕ) → IsLow t → bytes_cmp t beyond ≡ Less
low_below [] p = refl
low_below (b ∷ bs) p = ap (λ r. ordering_then r (bytes_cmp bs [])) (sym (nat_cmp_is b 255 Less p))

none_below : (t : List ℕ) → is_lt (bytes_cmp t []) ≡ false
none_below [] = refl
none_below (b ∷ bs) = refl

module _ {A : Type 0} {cmp : A → A → Ordering} {Lawful : A → Type 0} {written : A → List ℕ} (ordered : IsOrderedBy cmp Lawful written) where
  from_low : (x y : A) (t : List ℕ) (inclusive : Bool) → Lawful x → Lawful y → IsLow t
      → not (is_below (written x ++ t) (written y ++ cond inclusive [] beyond)) ≡ from_bound (cmp x y) inclusive
  from_low x y t true p q low =
      ap (λ o. not (is_lt o)) (ordered.compares x y t [] p q) ∙ by (cmp x y) (bytes_cmp t []) (none_below t) where
        by : (o r : Ordering) → is_lt r ≡ false → not (is_lt (ordering_then o r)) ≡ from_bound o true
        by Less r e = refl
        by Equal r e = ap not e
        by Greater r e = refl
  from_low x y t false p q low =
      ap (λ o. not (is_lt o)) (ordered.compares x y t beyond p q ∙ ap (ordering_then (cmp x y)) (low_below t low)) ∙ by (cmp x y) where
        by : (o : Ordering) → not (is_lt (ordering_then o Less)) ≡ from_bound o false
        by Less = refl
        by Equal = refl
        by Greater = refl

  to_high : (x y : A) (t : List ℕ) (inclusive : Bool) → Lawful x → Lawful y → IsLow t
      → is_below (written x ++ t) (written y ++ cond inclusive beyond []) ≡ to_bound (cmp x y) inclusive
  to_high x y t true p q low =
      ap is_lt (ordered.compares x y t beyond p q ∙ ap (ordering_then (cmp x y)) (low_below t low)) ∙ by (cmp x y) where
        by : (o : Ordering) → is_lt (ordering_then o Less) ≡ to_bound o true
        by Less = refl
        by Equal = refl
        by Greater = refl
  to_high x y t false p q low =
      ap is_lt (ordered.compares x y t [] p q) ∙ by (cmp x y) (bytes_cmp t []) (none_below t) where
        by : (o r : Ordering) → is_lt r ≡ false → is_lt (ordering_then o r) ≡ to_bound o false
        by Less r e = refl
        by Equal r e = e
        by Greater r e = refl

-- ---- both directions

turned_from : (o : Ordering) (inclusive : Bool) → from_bound (ordering_reverse o) inclusive ≡ to_bound o inclusive
turned_from Less i = refl
turned_from Equal i = refl
turned_from Greater i = refl

turned_to : (o : Ordering) (inclusive : Bool) → to_bound (ordering_reverse o) inclusive ≡ from_bound o inclusive
turned_to Less i = refl
turned_to Equal i = refl
turned_to Greater i = refl

-- the bound that comes first, in a column of a direction
first_met : (d : Bool) (v b : IndexValue) (inclusive : Bool) → from_bound (directed_cmp d index_value_cmp v b) inclusive
    ≡ cond d (to_bound (index_value_cmp v b) inclusive) (match_ordering (index_value_cmp b v) true inclusive false)
first_met true v b i = turned_from (index_value_cmp v b) i
first_met false v b i = sym (turned_to (index_value_cmp v b) i) ∙ ap (λ o. to_bound o i) (sym (index_value_cmp-total.antisymm b v))

last_met : (d : Bool) (v b : IndexValue) (inclusive : Bool) → to_bound (directed_cmp d index_value_cmp v b) inclusive
    ≡ cond d (match_ordering (index_value_cmp b v) true inclusive false) (to_bound (index_value_cmp v b) inclusive)
last_met true v b i = ap (λ o. to_bound o i) (sym (index_value_cmp-total.antisymm b v))
last_met false v b i = refl

-- ---- the first column

abbrev is_key_value : IndexValue → Type 0
is_key_value (class.Key k) = Unit {0}
is_key_value _ = ⊥

-- what a place tells of a bound on the first column
record IsTold (columns : List Column) (r : RowParts) (b : IndexValue) (inclusive : Bool) : Type 0 where
  low : not (is_below (place_of columns r) (begun_with columns b ++ cond inclusive [] beyond))
      ≡ from_bound (directed_cmp (first_descends columns) index_value_cmp (first_value r) b) inclusive
  high : is_below (place_of columns r) (begun_with columns b ++ cond inclusive beyond [])
      ≡ to_bound (directed_cmp (first_descends columns) index_value_cmp (first_value r) b) inclusive

directions-key : (c : Column) (cs : List Column) → is_key_name c.name ≡ true → directions (c ∷ cs) ≡ directions cs
directions-key c cs is = ap (λ b. map (λ (x : Column). x.descending) (cond (not b) (c ∷ filter (λ (x : Column). not (is_key_name x.name))
    cs) (filter (λ (x : Column). not (is_key_name x.name)) cs))) is

directions-value : (c : Column) (cs : List Column) → is_key_name c.name ≡ false → directions (c ∷ cs) ≡ c.descending ∷ directions cs
directions-value c cs is = ap (λ b. map (λ (x : Column). x.descending) (cond (not b) (c ∷ filter (λ (x : Column). not (is_key_name
    x.name)) cs) (filter (λ (x : Column). not (is_key_name x.name)) cs))) is

abbrev row_of : List IndexValue → KeyParts → RowParts
row_of values key = record { values = values; key = key }

value_told : (c : Column) (cs : List Column) (v : IndexValue) (vs : List IndexValue) (k : KeyParts) (b : IndexValue) (inclusive : Bool)
    → is_key_name c.name ≡ false → IsValueOfBytes v → IsValueOfBytes b → IsTold (c ∷ cs) (row_of (v ∷ vs) k) b inclusive
value_told c cs v vs k b inclusive other p q =
    let kd = key_descends (c ∷ cs) in
    let t : List ℕ = columns_bytes (directions cs) vs ++ key_encoding kd k in
    let place : place_of (c ∷ cs) (row_of (v ∷ vs) k) ≡ encoding c.descending v ++ t =
    (λ i. columns_bytes (directions-value c cs other i) (v ∷ vs) ++ key_encoding kd k)
    ∙ append_assoc (encoding c.descending v) (columns_bytes (directions cs) vs) (key_encoding kd k) in
    let begun : begun_with (c ∷ cs) b ≡ encoding c.descending b = ap (λ is. value_in_column is c.descending b) other in
    let low : IsLow t = row_low (directions cs) vs kd k in
    record {
      low = (λ i. not (is_below (place i) (begun i ++ cond inclusive [] beyond)))
          ∙ from_low (encoding-ordered c.descending) v b t inclusive p q low;
      high = (λ i. is_below (place i) (begun i ++ cond inclusive beyond []))
          ∙ to_high (encoding-ordered c.descending) v b t inclusive p q low;
    }

keys_directed : (d : Bool) (k l : KeyParts) → directed_cmp d key_cmp k l ≡ directed_cmp d index_value_cmp (class.Key k) (class.Key l)
keys_directed true k l = refl
keys_directed false k l = refl

or_false : (b : Bool) → (b || false) ≡ b
or_false true = refl
or_false false = refl

key_told : (c : Column) (k : KeyParts) (b : IndexValue) (inclusive : Bool) → is_key_name c.name ≡ true → is_key_value b
    → IsKeyOfBytes k → IsValueOfBytes b → IsTold (c ∷ []) (row_of [] k) b inclusive
key_told c k class.Null inclusive is key p q = absurd key
key_told c k (class.Num n) inclusive is key p q = absurd key
key_told c k (class.Bool x) inclusive is key p q = absurd key
key_told c k (class.Bytes s) inclusive is key p q = absurd key
key_told c k (class.Key l) inclusive is key p q =
    let kd : key_descends (c ∷ []) ≡ c.descending = or_false (is_key_name c.name && c.descending) ∙ ap (λ b. b && c.descending) is in
    let place : place_of (c ∷ []) (row_of [] k) ≡ key_encoding c.descending k ++ [] =
    (λ i. columns_bytes (directions-key c [] is i) [] ++ key_encoding (kd i) k) ∙ sym (append-nil (key_encoding c.descending k)) in
    let begun : begun_with (c ∷ []) (class.Key l)
    ≡ key_encoding c.descending l = ap (λ b. value_in_column b c.descending (class.Key l)) is in
    record {
      low = (λ i. not (is_below (place i) (begun i ++ cond inclusive [] beyond)))
          ∙ from_low (key_encoding-ordered c.descending) k l [] inclusive p q tt
          ∙ ap (λ o. from_bound o inclusive) (keys_directed c.descending k l);
      high = (λ i. is_below (place i) (begun i ++ cond inclusive beyond []))
          ∙ to_high (key_encoding-ordered c.descending) k l [] inclusive p q tt
          ∙ ap (λ o. to_bound o inclusive) (keys_directed c.descending k l);
    }

lawful_in : (b : IndexValue) → is_key_value b → IsLawfulInColumn true b → IsValueOfBytes b
lawful_in class.Null key p = absurd key
lawful_in (class.Num n) key p = absurd key
lawful_in (class.Bool x) key p = absurd key
lawful_in (class.Bytes s) key p = absurd key
lawful_in (class.Key k) key p = key_of_bytes k p

told : (columns : List Column) (values : List IndexValue) (k : KeyParts) (b : IndexValue) (inclusive : Bool)
    → names_differ columns ≡ true → ends_in_key columns ≡ true → (starts_with_key columns ≡ true → is_key_value b)
    → IsRow (directions columns) (row_of values k) → IsLawfulFirst columns b → IsTold columns (row_of values k) b inclusive
told [] values k b inclusive differ ends keyed row p = absurd (cc ends)
told (c ∷ cs) values k b inclusive differ ends keyed row p = by (is_key_name c.name) refl cs differ ends keyed values row where
  by : (is : Bool) → is_key_name c.name ≡ is → (cs : List Column) → names_differ (c ∷ cs) ≡ true → ends_in_key (c ∷ cs) ≡ true
      → (starts_with_key (c ∷ cs) ≡ true → is_key_value b) → (values : List IndexValue)
      → IsRow (directions (c ∷ cs)) (row_of values k) → IsTold (c ∷ cs) (row_of values k) b inclusive
  by true e [] differ ends keyed [] row = key_told c k b inclusive e (keyed e) row.key
      (lawful_in b (keyed e) (subst (λ x. IsLawfulInColumn x b) e p))
  by true e [] differ ends keyed (v ∷ vs) row =
      let long : length (v ∷ vs) ≡ 0 = row.long ∙ ap length (directions-key c [] e) in absurd (omega arith)
  by true e (d ∷ cs) differ ends keyed values row = true_false (IsTold (c ∷ d ∷ cs) (row_of values k) b inclusive) (is_key_name c.name) e
      (first_not_key c d cs differ ends)
  by false e cs differ ends keyed [] row =
      let long : 0 ≡ length (c.descending ∷ directions cs) = row.long ∙ ap length (directions-value c cs e) in absurd (omega arith)
  by false e cs differ ends keyed (v ∷ vs) row = value_told c cs v vs k b inclusive e (All-head IsValueOfBytes v vs row.values)
      (value_of_bytes b (subst (λ x. IsLawfulInColumn x b) e p))

-- ---- the range

is_key_of : (b : Bound) → is_key_bound (Some b) ≡ true → is_key_value b.value
is_key_of b h = by b.value h where
  by : (v : IndexValue) → is_key_bound (Some (record { value = v; inclusive = b.inclusive })) ≡ true → is_key_value v
  by class.Null h = absurd (cc h)
  by (class.Num n) h = absurd (cc h)
  by (class.Bool x) h = absurd (cc h)
  by (class.Bytes s) h = absurd (cc h)
  by (class.Key k) h = tt

module _ (columns : List Column) (r : RowParts) (differ : names_differ columns ≡ true) (ends : ends_in_key columns ≡ true)
    (row : IsRow (directions columns) r) where
  abbrev met_first : Bool → Option Bound → Bool
  met_first d None = true
  met_first d (Some b) = from_bound (directed_cmp d index_value_cmp (first_value r) b.value) b.inclusive

  abbrev met_last : Bool → Option Bound → Bool
  met_last d None = true
  met_last d (Some b) = to_bound (directed_cmp d index_value_cmp (first_value r) b.value) b.inclusive

  from_first : (bound : Option Bound) → IsLawfulBound columns bound → (starts_with_key columns ≡ true → is_key_bound bound ≡ true)
      → not (is_below (place_of columns r) (low_at columns bound)) ≡ met_first (first_descends columns) bound
  from_first None p keyed = ap not (none_below (place_of columns r))
  from_first (Some b) p keyed =
      (told columns r.values r.key b.value b.inclusive differ ends (λ s. is_key_of b (keyed s)) row p).low

  to_last : (bound : Option Bound) → IsLawfulBound columns bound → (starts_with_key columns ≡ true → is_key_bound bound ≡ true)
      → is_before (high_at columns bound) (place_of columns r) ≡ met_last (first_descends columns) bound
  to_last None p keyed = refl
  to_last (Some b) p keyed =
      (told columns r.values r.key b.value b.inclusive differ ends (λ s. is_key_of b (keyed s)) row p).high

  first_lower : (bound : Option Bound) → met_first false bound ≡ meets_lower bound (first_value r)
  first_lower None = refl
  first_lower (Some b) = first_met false (first_value r) b.value b.inclusive

  first_upper : (bound : Option Bound) → met_first true bound ≡ meets_upper bound (first_value r)
  first_upper None = refl
  first_upper (Some b) = first_met true (first_value r) b.value b.inclusive

  last_upper : (bound : Option Bound) → met_last false bound ≡ meets_upper bound (first_value r)
  last_upper None = refl
  last_upper (Some b) = refl

  last_lower : (bound : Option Bound) → met_last true bound ≡ meets_lower bound (first_value r)
  last_lower None = refl
  last_lower (Some b) = last_met true (first_value r) b.value b.inclusive

  turn : (a b : Bool) → (a && b) ≡ (b && a)
  turn true true = refl
  turn true false = refl
  turn false true = refl
  turn false false = refl

  -- the row stands between the bounds of the range exactly where its first value is within it
  range_told : (range : Range) → IsLawfulBound columns (first_bound columns range) → IsLawfulBound columns (last_bound columns range)
      → (starts_with_key columns ≡ true → bounds_are_keys range ≡ true)
      → (not (is_below (place_of columns r) (low_at columns (first_bound columns range)))
      && is_before (high_at columns (last_bound columns range)) (place_of columns r))
      ≡ is_within range (first_value r)
  range_told range p q keyed = by (first_descends columns) refl where
    lower_keyed : starts_with_key columns ≡ true → is_key_bound range.lower ≡ true
    lower_keyed s = (both (is_key_bound range.lower) (is_key_bound range.upper) (keyed s)).0

    upper_keyed : starts_with_key columns ≡ true → is_key_bound range.upper ≡ true
    upper_keyed s = (both (is_key_bound range.lower) (is_key_bound range.upper) (keyed s)).1

    by : (d : Bool) → first_descends columns ≡ d
        → (not (is_below (place_of columns r) (low_at columns (first_bound columns range)))
        && is_before (high_at columns (last_bound columns range)) (place_of columns r))
        ≡ is_within range (first_value r)
    by true e =
        (λ i. not (is_below (place_of columns r) (low_at columns (cond (e i) range.upper range.lower)))
        && is_before (high_at columns (cond (e i) range.lower range.upper)) (place_of columns r))
        ∙ (λ i. from_first range.upper (subst (λ d. IsLawfulBound columns (cond d range.upper range.lower)) e p) upper_keyed i
        && to_last range.lower (subst (λ d. IsLawfulBound columns (cond d range.lower range.upper)) e q) lower_keyed i)
        ∙ (λ i. met_first (e i) range.upper && met_last (e i) range.lower)
        ∙ (λ i. first_upper range.upper i && last_lower range.lower i)
        ∙ turn (meets_upper range.upper (first_value r)) (meets_lower range.lower (first_value r))
    by false e =
        (λ i. not (is_below (place_of columns r) (low_at columns (cond (e i) range.upper range.lower)))
        && is_before (high_at columns (cond (e i) range.lower range.upper)) (place_of columns r))
        ∙ (λ i. from_first range.lower (subst (λ d. IsLawfulBound columns (cond d range.upper range.lower)) e p) lower_keyed i
        && to_last range.upper (subst (λ d. IsLawfulBound columns (cond d range.lower range.upper)) e q) upper_keyed i)
        ∙ (λ i. met_first (e i) range.lower && met_last (e i) range.upper)
        ∙ (λ i. first_lower range.lower i && last_upper range.upper i)

-- ---- the ancestor

same_bool : (a b : Bool) → (a ≡ true → b ≡ true) → (b ≡ true → a ≡ true) → a ≡ b
same_bool true b f g = sym (f refl)
same_bool false true f g = g refl
same_bool false false f g = refl

-- the keys under an ancestor go on from it by a path
under_bytes : (a k : KeyParts) → is_ancestor a k ≡ true → (path : List Elem) × (key_bytes k ≡ key_front a ++ path_bytes path)
under_bytes a k under =
    let two = and_parts (pointwise nat_eq a.namespace k.namespace) (starts_with (eq_by_cmp elem_cmp) k.elems a.elems) under in
    let namespace : a.namespace ≡ k.namespace = (bytes_decides a.namespace k.namespace).0 two.0 in
    let front : a.elems ≡ take (length a.elems) k.elems =
    (pointwise_decides same_elem-decides a.elems (take (length a.elems) k.elems)).0 two.1 in
    let path : List Elem = drop (length a.elems) k.elems in
    let whole : k.elems ≡ a.elems ++ path =
    sym (take-append-drop (length a.elems) k.elems) ∙ ap (λ (es : List Elem). es ++ path) (sym front) in (
      path,
      (λ i. namespace_bytes (sym namespace i) ++ path_bytes (whole i))
          ∙ ap (λ (bs : List ℕ). namespace_bytes a.namespace ++ bs) (path_bytes-append a.elems path)
          ∙ sym (append_assoc (namespace_bytes a.namespace) (flat_map elem_bytes a.elems) (path_bytes path)),
    )

not_was : (b : Bool) → not b ≡ true → b ≡ false
not_was true e = absurd (cc e)
not_was false e = refl

under_told : (a k : KeyParts) → IsLawfulKey a → IsKeyOfBytes k
    → (not (is_below (key_bytes k) (key_front a)) && is_below (key_bytes k) (key_front a ++ beyond)) ≡ is_ancestor a k
under_told a k p q = same_bool (not (is_below (key_bytes k) (key_front a)) && is_below (key_bytes k) (key_front a
    ++ beyond)) (is_ancestor a k) to back where
      to : (not (is_below (key_bytes k) (key_front a)) && is_below (key_bytes k) (key_front a ++ beyond)) ≡ true → is_ancestor a k ≡ true
      to h =
          let two = both (not (is_below (key_bytes k) (key_front a))) (is_below (key_bytes k) (key_front a ++ beyond)) h in
          let low : is_below (key_bytes k) (key_front a ++ []) ≡ false =
          ap (λ (bs : List ℕ). is_below (key_bytes k) bs) (append-nil (key_front a))
          ∙ not_was (is_below (key_bytes k) (key_front a)) two.0 in
          let begins = between (key_front a) [] beyond (key_bytes k) low two.1 in
          (ancestor_begins a k (key_of_bytes a p) q (key_some a p)).1 (
            rest (key_front a) (key_bytes k),
            begins-is (key_front a) (key_bytes
                k) begins,
          )

      back : is_ancestor a k ≡ true → (not (is_below (key_bytes k) (key_front a)) && is_below (key_bytes k) (key_front a ++ beyond)) ≡ true
      back h =
          let u = under_bytes a k h in
          let path = path_bytes u.0 in
          join (not (is_below (key_bytes k) (key_front a))) (is_below (key_bytes k) (key_front a ++ beyond))
          (ap not ((λ i. is_below (u.1 i) (sym (append-nil (key_front a)) i))
          ∙ ap is_lt (bytes_cmp-front (key_front a) path []) ∙ none_below path))
          (ap (λ (bs : List ℕ). is_below bs (key_front a ++ beyond)) u.1
          ∙ ap is_lt (bytes_cmp-front (key_front a) path beyond ∙ low_below path (path_low u.0)))

by_key_place : (columns : List Column) (values : List IndexValue) (k : KeyParts) → is_by_key columns ≡ true
    → IsRow (directions columns) (row_of values k) → place_of columns (row_of values k) ≡ key_bytes k
by_key_place [] values k h row = absurd (cc h)
by_key_place (c ∷ d ∷ cs) values k h row = absurd (cc h)
by_key_place (c ∷ []) values k h row =
    let two = both (is_key_name c.name) (not c.descending) h in
    let asc : c.descending ≡ false = not_was c.descending two.1 in
    let kd : key_descends (c ∷ []) ≡ false = or_false (is_key_name c.name && c.descending) ∙ (λ i. two.0 i && asc i) in
    (λ i. columns_bytes (directions-key c [] two.0 i) values ++ key_encoding (kd i) k)

ancestor_told : (q : Branch) (r : RowParts) → (IsTrue (is_by_key q.columns) → IsLawfulAncestor q.ancestor) → IsRow (directions q.columns) r
    → (not (is_below (place_of q.columns r) (ancestor_low q)) && is_before (ancestor_high q) (place_of q.columns r))
    ≡ cond (is_by_key q.columns) (is_under q.ancestor r.key) true
ancestor_told q r p row = by (is_by_key q.columns) refl q.ancestor (λ k. p k) where
  place : List ℕ
  place = place_of q.columns r

  by : (k : Bool) → is_by_key q.columns ≡ k → (a : Option KeyParts) → (IsTrue (is_by_key q.columns) → IsLawfulAncestor a)
      → (not (is_below (place_of q.columns r) (cond (is_by_key q.columns) (unwrap_or (option_map key_front a) []) []))
      && is_before (cond (is_by_key q.columns) (option_map (λ b. key_front b ++ beyond) a) None) (place_of q.columns r))
      ≡ cond (is_by_key q.columns) (is_under a r.key) true
  by false e a p =
      (λ i. not (is_below (place_of q.columns r) (cond (e i) (unwrap_or (option_map key_front a) []) []))
      && is_before (cond (e i) (option_map (λ b. key_front b ++ beyond) a) None) (place_of q.columns r))
      ∙ (λ i. not (none_below (place_of q.columns r) i) && true)
      ∙ (λ i. cond (sym e i) (is_under a r.key) true)
  by true e None p =
      (λ i. not (is_below (place_of q.columns r) (cond (e i) [] [])) && is_before (cond (e i) None None) (place_of q.columns r))
      ∙ (λ i. not (none_below (place_of q.columns r) i) && true)
      ∙ (λ i. cond (sym e i) true true)
  by true e (Some a) p =
      (λ i. not (is_below (by_key_place q.columns r.values r.key e row i) (cond (e i) (key_front a) []))
      && is_before (cond (e i) (Some (key_front a ++ beyond)) None) (by_key_place q.columns r.values r.key e row i))
      ∙ under_told a r.key (p e) row.key
      ∙ (λ i. cond (sym e i) (is_ancestor a r.key) true)

-- ---- both, and the end place

greater_told : (a b x : List ℕ) → not (is_below x (greater a b)) ≡ (not (is_below x a) && not (is_below x b))
greater_told a b x = same_bool (not (is_below x (greater a b))) (not (is_below x a) && not (is_below x b)) to back where
  to : not (is_below x (greater a b)) ≡ true → (not (is_below x a) && not (is_below x b)) ≡ true
  to h =
      let two = from_later b a x (not_was (is_below x (greater a b)) h) in
      join (not (is_below x a)) (not (is_below x b)) (ap not two.1) (ap not two.0)

  back : (not (is_below x a) && not (is_below x b)) ≡ true → not (is_below x (greater a b)) ≡ true
  back h =
      let two = both (not (is_below x a)) (not (is_below x b)) h in
      ap not (to_later b a x (not_was (is_below x b) two.1) (not_was (is_below x a) two.0))

below_both : (x a b : List ℕ) → is_below a b ≡ true → is_below x a ≡ (is_below x a && is_below x b)
below_both x a b h =
    same_bool (is_below x a) (is_below x a && is_below x b)
    (λ e. join (is_below x a) (is_below x b) e (below_below x a b e h)) (λ e. (both (is_below x a) (is_below x b) e).0)

upto_both : (x a b : List ℕ) → is_below a b ≡ false → is_below x b ≡ (is_below x a && is_below x b)
upto_both x a b h =
    same_bool (is_below x b) (is_below x a && is_below x b)
    (λ e. join (is_below x a) (is_below x b) (below_upto x b a e h) e) (λ e. (both (is_below x a) (is_below x b) e).1)

and_true : (b : Bool) → b ≡ (b && true)
and_true true = refl
and_true false = refl

lesser_told : (a b : Option (List ℕ)) (x : List ℕ) → is_before (lesser_end a b) x ≡ (is_before a x && is_before b x)
lesser_told None b x = refl
lesser_told (Some a) None x = and_true (is_below x a)
lesser_told (Some a) (Some b) x = by (is_below a b) refl where
  by : (c : Bool) → is_below a b ≡ c → is_below x (cond (is_below a b) a b) ≡ (is_below x a && is_below x b)
  by true e = ap (λ c. is_below x (cond c a b)) e ∙ below_both x a b e
  by false e = ap (λ c. is_below x (cond c a b)) e ∙ upto_both x a b e

twice_not : (b : Bool) → b ≡ not (not b)
twice_not true = refl
twice_not false = refl

end_told : (end : Option Place) (x : List ℕ) → is_before (option_map behind_place end) x ≡ is_up_to end x
end_told None x = refl
end_told (Some e) x = twice_not (is_below x (behind_place e)) ∙ ap not (above-is_from (Some e.bytes) x)

pairs_apart : (a b c d e : Bool) → ((a && b) && ((c && d) && e)) ≡ ((a && c) && ((b && d) && e))
pairs_apart true true c d e = and_assoc c d e where
  and_assoc : (c d e : Bool) → ((c && d) && e) ≡ (c && (d && e))
  and_assoc true d e = refl
  and_assoc false d e = refl
pairs_apart true false true d e = refl
pairs_apart true false false d e = refl
pairs_apart false b c d e = refl

-- A row stands in the range of the scans exactly where its first value is in the branch's range, its key is under the ancestor where the
-- rows are in the order of keys, and its place is up to the end.
pub row_stands : (q : Branch) (end : Option Place) (r : RowParts) → IsLawfulBranch q → IsLawfulEnds q → IsRow (directions q.columns) r
    → in_range (low_of q) (high_of q end) (place_of q.columns r)
    ≡ (is_within q.range (first_value r) && (cond (is_by_key q.columns) (is_under q.ancestor r.key) true
    && is_up_to end (place_of q.columns r)))
row_stands q end r lawful ends row =
    let x = place_of q.columns r in
    let low = low_at q.columns (first_bound q.columns q.range) in
    let high = high_at q.columns (last_bound q.columns q.range) in
    (λ i. greater_told low (ancestor_low q) x i && lesser_told (lesser_end high (ancestor_high q)) (option_map behind_place end) x i)
    ∙ ap (λ b. (not (is_below x low) && not (is_below x (ancestor_low q))) && (b && is_before (option_map behind_place end) x))
    (lesser_told high (ancestor_high q) x)
    ∙ pairs_apart (not (is_below x low)) (not (is_below x (ancestor_low q))) (is_before high x) (is_before (ancestor_high q) x)
    (is_before (option_map behind_place end) x)
    ∙ (λ i. range_told q.columns r lawful.names_differ lawful.key_last row q.range ends.first ends.last lawful.key_bounds i
    && (ancestor_told q r ends.ancestor row i && end_told end x i))
