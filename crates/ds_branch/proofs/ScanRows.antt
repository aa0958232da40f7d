-- The rows of an entity that begin with what a scan is bound to, and its rows under what the scan binds.
use Rattle.std.proofs.Common.{◌≡◌, inl, inr, ℕ, zero, suc, ◌+◌, ◌<◌, List, [], ◌∷◌, ◌++◌, length, Bool, true, false, ◌&&◌, ◌||◌, not}
use Rattle.std.proofs.Common.{cond, refl, sym, ap, ◌∙◌, subst, arith, Option, Some, None, append_assoc, map}
use Rattle.std.proofs.lemmas.Bool.Decides.{nat_tests}
use Rattle.std.specs.Prelude.{nat_le, bytes_eq, filter, flat_map, find, unwrap_or, is_some, option_map, All}
use Rattle.std.specs.List.{list_any, list_all, enumerate_from}
use Rattle.std.specs.Option.{option_map_or}
use Rattle.std.specs.Ordering.{is_eq}
use Rattle.std.specs.declared.cmp.Ordering.{Ordering}
use Rattle.std.specs.declared.cmp.Ordering.TheVariants.{Less, Equal, Greater}
use Rattle.std.proofs.lemmas.List.{length-map}
use Rattle.ds_base.specs.declared.column.Column.{Column}
use Rattle.ds_entity.specs.declared.entity.Property.{Property}
use Rattle.ds_base.specs.declared.index_value.IndexValue.{IndexValue}
use Rattle.ds_base.specs.declared.index_value.IndexValue.TheVariants.{Null}
use Rattle.ds_base.specs.Keys.{KeyParts, is_namespace, is_path, is_elem}
use Rattle.ds_base.specs.Limits.{most_elements}
use Rattle.ds_entity.specs.Entities.{EntityParts}
use Rattle.ds_base.specs.KeyOrder.{is_ancestor}
use Rattle.ds_base.specs.IndexOrder.{index_value_cmp}
use Rattle.ds_base.specs.IndexOrderLaws.{index_value_cmp-Equal}
use Rattle.ds_bytes.specs.Encoding.{key_bytes, key_encoding}
use Rattle.ds_bytes.specs.EncodingLaws.{key_encoding-reads_once}
use Rattle.ds_bytes.specs.Lawful.{IsKeyOfBytes, IsLawfulKey, IsValueOfBytes}
use Rattle.ds_bytes.specs.LawfulLaws.{key_of_bytes, value_of_bytes}
use Rattle.ds_bytes.specs.Rows.{RowParts, columns_bytes}
use Rattle.ds_indexdef.specs.declared.IndexDef.{IndexDef}
use Rattle.ds_indexdef.specs.Definitions.{AreDefs}
use Rattle.ds_query.specs.declared.branch.Pair.{Pair}
use Rattle.ds_query.specs.declared.branch.Branch.{Branch}
use Rattle.ds_query.specs.Lawful.{has_pair, IsLawfulBranch}
use Rattle.ds_query.specs.ColumnLists.{has_column}
use Rattle.ds_planner.specs.declared.planned.PlannedScan.{PlannedScan}
use Rattle.ds_planner.proofs.Members.{Member, both, join, contained, member_contained, map_member, member_map, member_flat_map}
use Rattle.ds_planner.proofs.Members.{member_append, member_left, member_right, filter_member, member_filter, some_member, any_member}
use Rattle.ds_planner.proofs.Members.{each_member, all_members, find_member}
use Rattle.ds_planner.proofs.PairLists.{same_name, name_itself, one_each}
use Rattle.ds_rows.specs.Indexes.{RowIndex, AllByKey, KindByKey, ByProperty, Composite, has_ancestor, indexes_of, property_indexes}
use Rattle.ds_rows.specs.Indexes.{composite_indexes, directions as index_directions, index_key_descends}
use Rattle.ds_rows.specs.IndexedValues.{kind_of, kind_in, indexed_values, property_values, each_way}
use Rattle.ds_rows.specs.Rows.{IndexRow, rows_of, rows_in, index_rows, index_row_bytes, index_front, row_rest, row_with, row_ancestors}
use Rattle.ds_rows.specs.Rows.{index_lists, ancestor_bytes, ancestors}
use Rattle.ds_rows.specs.Laws.{IsIndexOf, HoldsKind}
use Rattle.ds_rows.specs.RowLaws.{fronts_apart}
use Rattle.ds_rows.specs.OwnRowLaws.{own_rows, own_indexes, IsOwn, ancestors_lawful}
use Rattle.ds_rows.specs.Indexable.{IsIndexable}
use Rattle.ds_model.specs.Rows.{rows, place_of, entity_rows, has_value, has_kind, is_under, is_found}
use Rattle.ds_query.specs.RowValues.{value_columns}
use Rattle.ds_cursor.specs.RowsOfColumns.{directions}
use Rattle.ds_base.specs.KeyColumn.{key_descends}
use Rattle.ds_scan.specs.Prefixes.{columns_of, bound_bytes, prefix_in, scan_prefix}
use Rattle.ds_scan.specs.Scans.{scan_branch, IsLawfulScan, IsLawfulAncestor, IsLawfulIn, AreLawfulBound}
use Rattle.ds_branch.specs.ScanLaws.{ScansTellRows}
use Rattle.ds_branch.proofs.Ways.{AreTaken, split_taken, join_taken, taken_long, way_taken, taken_way, bytes_join, values_once}
use Rattle.ds_scan.proofs.MemberLists.{all_member, flat_map_member}
use Rattle.ds_branch.proofs.ScanIndexes.{SuitsKind, SuitsFlag, IsBoundScan, bound_scan}
use Rattle.ds_branch.proofs.ScanColumns.{values_in, asked_or_null, pair_of, asked_some, bound_is, bound_lawful, HasRest, rest_is}
use Rattle.ds_branch.proofs.ScanColumns.{AreIndexColumns, index_columns_are}
use Rattle.ds_branch.proofs.EntityRows.{taken_lawful, entity_row, row_entity, row_member, member_row}
use Rattle.ds_branch.proofs.AncestorPaths.{under_listed, listed_under}

-- ---- the indexes of an entity

composite_of_kind : (defs : List IndexDef) (e : EntityParts) (n : ℕ) (d : IndexDef) → Member (Composite n d) (indexes_of defs e)
    → kind_in d.kind e.key ≡ true
composite_of_kind defs e n d (inl h) = absurd (cc h)
composite_of_kind defs e n d (inr (inl h)) = absurd (cc h)
composite_of_kind defs e n d (inr (inr m)) =
    elim (member_append (flat_map property_indexes e.properties) (composite_indexes defs e) (Composite n d) m) [
      | inl h ↦ let p = flat_map_member property_indexes e.properties (Composite n d) h in absurd (none p.0 p.1.1)
      | inr h ↦
          let c = map_member (λ (placed : ℕ × IndexDef). Composite placed.0 placed.1)
          (filter (λ (placed : ℕ × IndexDef). kind_in placed.1.kind e.key) (enumerate_from 0 defs)) (Composite n d) h in
          let k = filter_member (λ (placed : ℕ × IndexDef). kind_in placed.1.kind e.key) (enumerate_from 0 defs) c.0 c.1.0 in
          let same : d ≡ c.0.1 = of_definition n d c.0.0 c.0.1 c.1.1 in
          ap (λ (x : IndexDef). kind_in x.kind e.key) same ∙ k.1
    ] where
      none : (p : Property) → Member (Composite n d) (property_indexes p) → ⊥
      none p (inl h) = absurd (cc h)
      none p (inr (inl h)) = absurd (cc h)
      none p (inr (inr h)) = h

      of_definition : (n : ℕ) (d : IndexDef) (m : ℕ) (x : IndexDef) → Composite n d ≡ Composite m x → d ≡ x
      of_definition n d m x h = cc h

some_property : (ps : List Property) (name : List ℕ) (v : IndexValue)
    → Member v (option_map_or property_values (find (λ p. bytes_eq p.name name) ps) [])
    → (p : Property) × (Member p ps × (p.name ≡ name))
some_property ps name v m = by (find (λ (p : Property). bytes_eq p.name name) ps) refl m where
  by : (o : Option Property) → find (λ (p : Property). bytes_eq p.name name) ps ≡ o
      → Member v (option_map_or property_values o []) → (p : Property) × (Member p ps × (p.name ≡ name))
  by None e m = absurd m
  by (Some p) e m =
      let f = find_member (λ (x : Property). bytes_eq x.name name) ps p e in (p, (f.0, same_name p.name name f.1))

both_ways : (p : Property) (d : Bool) → Member (ByProperty p.name d) (property_indexes p)
both_ways p false = inl refl
both_ways p true = inr (inl refl)

enumerated : (k : ℕ) (defs : List IndexDef) (n : ℕ) (d : IndexDef) → IsIndexOf defs (Composite n d)
    → Member (k + n, d) (enumerate_from k defs)
enumerated k [] n d is = absurd (omega (arith, is.0))
enumerated k (x ∷ defs) zero d is = inl (λ i. (k_is i, sym is.1 i)) where
  k_is : k + 0 ≡ k
  k_is = omega arith
enumerated k (x ∷ defs) (suc n) d is =
    let more = enumerated (k + 1) defs n d (omega (arith, is.0), is.1) in
    let same : (k + 1) + n ≡ k + suc n = omega arith in
    inr (subst (λ m. Member (m, d) (enumerate_from (k + 1) defs)) same more)

nothing_more : (n : ℕ) → 0 + n ≡ n
nothing_more n = omega arith

-- an entity has rows in a scan's index where it has values in the columns
index_there : (q : Branch) (defs : List IndexDef) (s : PlannedScan) (b : IsBoundScan q defs s) (e : EntityParts) (values : List IndexValue)
    → has_kind q.kind e.key ≡ true → AreTaken (index_lists e b.found.index) values → Member b.found.index (indexes_of defs e)
index_there q defs s b e values kind taken = by b.found.index b.found.stands b.found.kind values taken where
  by : (i : RowIndex) → IsIndexOf defs i → SuitsKind q.kind i → (values : List IndexValue) → AreTaken (index_lists e i) values
      → Member i (indexes_of defs e)
  by AllByKey stands suits values taken = inl refl
  by KindByKey stands suits values taken = inr (inl refl)
  by (ByProperty name d) stands suits [] taken = absurd taken
  by (ByProperty name d) stands suits (v ∷ vs) taken =
      let p = some_property e.properties name v taken.0 in
      let here = subst (λ n. Member (ByProperty n d) (property_indexes p.0)) p.1.1 (both_ways p.0 d) in
      inr (inr (member_left (flat_map property_indexes e.properties) (composite_indexes defs e) (ByProperty name d)
      (member_flat_map property_indexes e.properties p.0 (ByProperty name d) p.1.0 here)))
  by (Composite n d) stands suits values taken =
      let of_kind : kind_in d.kind e.key ≡ true = subst (λ k. has_kind k e.key ≡ true) suits kind in
      let placed = member_filter (λ (x : ℕ × IndexDef). kind_in x.1.kind e.key) (enumerate_from 0 defs) (n, d)
      (subst (λ m. Member (m, d) (enumerate_from 0 defs)) (nothing_more n) (enumerated 0 defs n d stands)) of_kind in
      inr (inr (member_right (flat_map property_indexes e.properties) (composite_indexes defs e) (Composite n d)
      (member_map (λ (x : ℕ × IndexDef). Composite x.0 x.1) (filter (λ (x : ℕ × IndexDef). kind_in x.1.kind e.key) (enumerate_from 0 defs))
      (n, d) placed)))

-- ---- ancestors

-- a key has an element
pub key_some : (k : KeyParts) → IsLawfulKey k → 0 < length k.elems
key_some k p =
    let path = both (is_namespace k.namespace) (is_path k.elems) p.rules in
    let few = both (nat_le 1 (length k.elems) && nat_le (length k.elems) most_elements) (list_all is_elem k.elems) path.1 in
    let some : nat_le 1 (length k.elems) ≡ true = (both (nat_le 1 (length k.elems)) (nat_le (length k.elems) most_elements) few.0).0 in
    grind (arith, nat_tests)

-- the ancestor of a row and of a scan are one, and what follows is too
record IsSameAncestor (k : KeyParts) (a bound : Option KeyParts) (x y : List ℕ) : Type 0 where
  under : is_under bound k ≡ true
  behind : x ≡ y

same_ancestor_bytes : (flag : Bool) (k : KeyParts) (a bound from : Option KeyParts) (x y : List ℕ) → IsKeyOfBytes k
    → Member a (cond flag (map (λ b. Some b) (ancestors k)) (None ∷ [])) → bound ≡ cond flag from None
    → (flag ≡ true → is_some from ≡ true) → IsLawfulAncestor bound
    → ancestor_bytes a ++ x ≡ ancestor_bytes bound ++ y → IsSameAncestor k a bound x y
same_ancestor_bytes false k a bound from x y p (inl h) is some lawful e = record {
  under = ap (λ b. is_under b k) is;
  behind = sym (ap (λ (o : Option KeyParts). ancestor_bytes o ++ x) h) ∙ e ∙ ap (λ (o : Option KeyParts). ancestor_bytes o ++ y) is;
}
same_ancestor_bytes false k a bound from x y p (inr m) is some lawful e = absurd m
same_ancestor_bytes true k a bound None x y p m is some lawful e = absurd (cc (some refl))
same_ancestor_bytes true k a bound (Some b) x y p m is some lawful e =
    let w = map_member (λ (c : KeyParts). Some c) (ancestors k) a m in
    let mine : IsKeyOfBytes w.0 = all_member IsKeyOfBytes (ancestors k) w.0 (ancestors_lawful k p) w.1.0 in
    let theirs : IsLawfulKey b = subst IsLawfulAncestor is lawful in
    let bytes : key_bytes w.0 ++ x ≡ key_bytes b ++ y =
    sym (ap (λ (o : Option KeyParts). ancestor_bytes o ++ x) w.1.1) ∙ e ∙ ap (λ (o : Option KeyParts). ancestor_bytes o ++ y) is in
    let once = key_encoding-reads_once false w.0 b x y mine (key_of_bytes b theirs) bytes in
    record {
      under = ap (λ o. is_under o k) is ∙ ap (λ c. is_ancestor c k) (sym once.0) ∙ listed_under w.0 k w.1.0;
      behind = once.1;
    }

ancestor_there : (flag : Bool) (k : KeyParts) (bound from : Option KeyParts) → bound ≡ cond flag from None
    → (flag ≡ true → is_some from ≡ true) → IsLawfulAncestor bound → is_under bound k ≡ true
    → Member bound (cond flag (map (λ b. Some b) (ancestors k)) (None ∷ []))
ancestor_there false k bound from is some lawful under = inl is
ancestor_there true k bound None is some lawful under = absurd (cc (some refl))
ancestor_there true k bound (Some b) is some lawful under =
    let theirs : IsLawfulKey b = subst IsLawfulAncestor is lawful in
    let here : is_ancestor b k ≡ true = sym (ap (λ o. is_under o k) is) ∙ under in
    subst (λ o. Member o (map (λ (c : KeyParts). Some c) (ancestors k))) (sym is)
    (member_map (λ (c : KeyParts). Some c) (ancestors k) b (under_listed b k (key_some b theirs) here))

-- ---- a row that begins with what the scan is bound to

tied : (r : Ordering) → is_eq r ≡ true → r ≡ Equal
tied Less e = absurd (cc e)
tied Equal e = refl
tied Greater e = absurd (cc e)

only : {A : Type 0} (x y : A) → Member x (y ∷ []) → x ≡ y
only x y (inl e) = e
only x y (inr m) = absurd m

kind_is : (k : KeyParts) (kind : Option (List ℕ)) → is_some kind ≡ true → has_kind kind k ≡ true → kind_of k ≡ unwrap_or kind []
kind_is k None suits h = absurd (cc suits)
kind_is k (Some name) suits h = sym (same_name name (kind_of k) h)

-- what is known of a scan and of an entity's key
record AreKnown (q : Branch) (defs : List IndexDef) (s : PlannedScan) (e : EntityParts) : Type 0 where
  definitions : AreDefs defs
  branch : IsLawfulBranch q
  scan : IsBoundScan q defs s
  lawful : IsLawfulScan defs s
  entity : IsIndexable e

module _ (q : Branch) (defs : List IndexDef) (s : PlannedScan) (e : EntityParts) (known : AreKnown q defs s e) where
  abbrev index : RowIndex
  index = known.scan.found.index

  abbrev lead : List Column
  lead = known.scan.found.lead

  abbrev lead_directions : List Bool
  lead_directions = map (λ (c : Column). c.descending) lead

  -- the values to which the scan is bound
  abbrev bound_values : List IndexValue
  bound_values = map (asked_or_null s.equal) lead

  columns : AreIndexColumns q known.scan.found.index known.scan.found.lead
  columns = index_columns_are q defs s known.branch known.scan

  rest : HasRest s.equal (columns_of known.scan.found.index) known.scan.found.lead
  rest = rest_is q defs s known.branch known.scan

  lawful_in : IsLawfulAncestor s.ancestor × AreLawfulBound s.equal (columns_of index)
  lawful_in = subst (IsLawfulIn s) known.scan.found.is known.lawful

  bound_written : bound_bytes s.equal (columns_of index) ≡ columns_bytes lead_directions bound_values
  bound_written =
      ap (bound_bytes s.equal) rest.is ∙ bound_is s.equal lead rest.rest known.scan.found.paired rest.none

  bound_of_bytes : All IsValueOfBytes bound_values
  bound_of_bytes =
      let values : AreLawfulBound s.equal (columns_of index) = lawful_in.1 in
      let all = bound_lawful s.equal lead rest.rest known.scan.found.paired (subst (AreLawfulBound s.equal) rest.is values) in
      λ k d below. value_of_bytes _ (all k d below)

  prefix_is : scan_prefix q defs s ≡ index_front index q.namespace (unwrap_or q.kind []) ++ (ancestor_bytes s.ancestor
      ++ columns_bytes lead_directions bound_values)
  prefix_is =
      ap (λ o. unwrap_or (option_map (prefix_in q s) o) []) known.scan.found.is
      ∙ ap (λ (bs : List ℕ). index_front index q.namespace (unwrap_or q.kind []) ++ (ancestor_bytes s.ancestor ++ bs)) bound_written

  flag_some : has_ancestor index ≡ true → is_some q.ancestor ≡ true
  flag_some h = by index known.scan.found.flag h where
    by : (i : RowIndex) → SuitsFlag i q.ancestor → has_ancestor i ≡ true → is_some q.ancestor ≡ true
    by AllByKey f h = absurd (cc h)
    by KindByKey f h = absurd (cc h)
    by (ByProperty n d) f h = absurd (cc h)
    by (Composite n d) f h = sym (ap (λ b. not b || is_some q.ancestor) h) ∙ f

  -- a row's bytes behind its ancestor
  values_and_key : (lv sv : List IndexValue) (k : KeyParts) → length lv ≡ length lead_directions
      → columns_bytes (index_directions index) (lv ++ sv) ++ key_encoding (index_key_descends index) k
      ≡ columns_bytes lead_directions lv ++ place_of q.columns (record { values = sv; key = k })
  values_and_key lv sv k long =
      (λ i. columns_bytes (columns.directions i) (lv ++ sv) ++ key_encoding (columns.key i) k)
      ∙ ap (λ (bs : List ℕ). bs ++ key_encoding (key_descends q.columns) k) (bytes_join lead_directions (directions q.columns) lv sv long)
      ∙ append_assoc (columns_bytes lead_directions lv) (columns_bytes (directions q.columns) sv) (key_encoding (key_descends q.columns) k)

  lead_long : (vs : List IndexValue) → AreTaken (map (values_in e) lead) vs → length vs ≡ length lead_directions
  lead_long vs t =
      taken_long (map (values_in e) lead) vs t ∙ length-map lead (values_in e) ∙ sym (length-map lead (λ (c : Column). c.descending))

  -- ---- from rows of an index to rows of the branch

  -- a row of the index, of this entity, whose bytes are these
  record IsIndexRow (x : List ℕ) : Type 0 where
    ancestor : Option KeyParts
    front : List IndexValue
    back : List IndexValue
    namespace : e.key.namespace ≡ q.namespace
    kind : has_kind q.kind e.key ≡ true
    listed : Member ancestor (row_ancestors index e.key)
    firsts : AreTaken (map (values_in e) lead) front
    lasts : AreTaken (map (values_in e) (value_columns q.columns)) back
    written : ancestor_bytes ancestor ++ (columns_bytes lead_directions front ++ place_of q.columns (record { values = back; key = e.key }))
        ≡ ancestor_bytes s.ancestor ++ (columns_bytes lead_directions bound_values ++ x)

  kind_holds : (i : RowIndex) → SuitsKind q.kind i → Member i (indexes_of defs e) → HoldsKind i (kind_of e.key) (unwrap_or q.kind [])
      → has_kind q.kind e.key ≡ true
  kind_holds AllByKey suits m holds = ap (λ k. has_kind k e.key) suits
  kind_holds KindByKey suits m holds = some_kind_holds q.kind suits holds where
    some_kind_holds : (kind : Option (List ℕ)) → is_some kind ≡ true → kind_of e.key ≡ unwrap_or kind [] → has_kind kind e.key ≡ true
    some_kind_holds None suits holds = absurd (cc suits)
    some_kind_holds (Some k) suits holds = ap (bytes_eq k) holds ∙ name_itself k
  kind_holds (ByProperty n d) suits m holds = some_kind_holds q.kind suits holds where
    some_kind_holds : (kind : Option (List ℕ)) → is_some kind ≡ true → kind_of e.key ≡ unwrap_or kind [] → has_kind kind e.key ≡ true
    some_kind_holds None suits holds = absurd (cc suits)
    some_kind_holds (Some k) suits holds = ap (bytes_eq k) holds ∙ name_itself k
  kind_holds (Composite n d) suits m holds = ap (λ k. has_kind k e.key) suits ∙ composite_of_kind defs e n d m

  index_row : (x : List ℕ) → Member (scan_prefix q defs s ++ x) (rows_of defs e) → IsIndexRow x
  index_row x m =
      let from = flat_map_member (rows_in e) (indexes_of defs e) (scan_prefix q defs s ++ x) m in
      let j = from.0 in
      let own : IsIndexOf defs j = all_member (IsIndexOf defs) (indexes_of defs e) j (own_indexes defs e) from.1.0 in
      let w = map_member (index_row_bytes j) (index_rows e j) (scan_prefix q defs s ++ x) from.1.1 in
      let r = w.0 in
      let is = all_member (IsOwn defs e j) (index_rows e j) r (own_rows defs e j known.entity own) w.1.0 in
      let key : r.parts.key ≡ e.key = is.1 in
      let bytes : index_front j r.parts.key.namespace (kind_of r.parts.key) ++ row_rest j r
      ≡ index_front index q.namespace (unwrap_or q.kind []) ++ ((ancestor_bytes s.ancestor
      ++ columns_bytes lead_directions bound_values) ++ x) =
      sym w.1.1 ∙ ap (λ (bs : List ℕ). bs ++ x) prefix_is
      ∙ append_assoc (index_front index q.namespace (unwrap_or q.kind [])) (ancestor_bytes s.ancestor
      ++ columns_bytes lead_directions bound_values) x in
      let same = fronts_apart defs known.definitions.few j index r.parts.key.namespace (kind_of r.parts.key) q.namespace (unwrap_or
      q.kind [])
      (row_rest j r) ((ancestor_bytes s.ancestor ++ columns_bytes lead_directions bound_values) ++ x) own known.scan.found.stands bytes in
      let there : Member index (indexes_of defs e) = subst (λ i. Member i (indexes_of defs e)) same.index from.1.0 in
      let holds : HoldsKind index (kind_of e.key) (unwrap_or q.kind []) =
      subst (λ k. HoldsKind index (kind_of k) (unwrap_or q.kind [])) key
      (subst (λ i. HoldsKind i (kind_of r.parts.key) (unwrap_or q.kind [])) same.index same.kind) in
      let listed : Member r (index_rows e index) = subst (λ i. Member r (index_rows e i)) same.index w.1.0 in
      let behind : row_rest index r ≡ (ancestor_bytes s.ancestor ++ columns_bytes lead_directions bound_values) ++ x =
      sym (ap (λ i. row_rest i r) same.index) ∙ same.behind in
      let a = flat_map_member (λ (b : Option KeyParts). map (row_with e.key b) (each_way (index_lists e index))) (row_ancestors index
      e.key) r listed in
      let v = map_member (row_with e.key a.0) (each_way (index_lists e index)) r a.1.1 in
      let taken : AreTaken (map (values_in e) lead ++ map (values_in e) (value_columns q.columns)) v.0 =
      subst (λ (ls : List (List IndexValue)). AreTaken ls v.0) (columns.lists e) (way_taken (index_lists e index) v.0 v.1.0) in
      let split = split_taken (map (values_in e) lead) (map (values_in e) (value_columns q.columns)) v.0 taken in
      record {
        ancestor = a.0;
        front = split.front;
        back = split.back;
        namespace = sym (ap (λ (k : KeyParts). k.namespace) key) ∙ same.namespace;
        kind = kind_holds index known.scan.found.kind there holds;
        listed = a.1.0;
        firsts = split.firsts;
        lasts = split.lasts;
        written = ap (λ (bs : List ℕ). ancestor_bytes a.0
            ++ bs) (sym (values_and_key split.front split.back e.key (lead_long split.front split.firsts)))
            ∙ sym (ap (λ (ws : List IndexValue). row_rest index (row_with e.key a.0 ws)) split.is)
            ∙ sym (ap (row_rest index) v.1.1) ∙ behind
            ∙ append_assoc (ancestor_bytes s.ancestor) (columns_bytes lead_directions bound_values) x;
      }

  -- each pair of the scan is met by the value that the row has in its column
  taken_pair : (cs : List Column) (p : Pair) → AreTaken (map (values_in e) cs) (map (asked_or_null s.equal) cs)
      → has_column cs p.property ≡ true → Member p s.equal → has_value e p ≡ true
  taken_pair [] p t h m = absurd (cc h)
  taken_pair (c ∷ cs) p t h m = by (bytes_eq p.property c.name) refl h (λ h. taken_pair cs p t.1 h m) where
    met : p.property ≡ c.name → has_value e p ≡ true
    met same =
        let has : has_pair s.equal c.name ≡ true = any_member (λ (x : Pair). bytes_eq c.name x.property) s.equal p m
        (ap (bytes_eq c.name) same ∙ name_itself c.name) in
        let a = asked_some s.equal c.name has in
        let one : pair_of c.name a.value ≡ p = one_each s.equal (pair_of c.name a.value) p known.scan.differ a.pair m (sym same) in
        let here : Member a.value (indexed_values e c.name) =
        subst (λ v. Member v (indexed_values e c.name)) (ap (λ o. unwrap_or o Null) a.is) t.0 in
        ap (λ (x : Pair). has_value e x) (sym one)
        ∙ any_member (λ v. is_eq (index_value_cmp v a.value)) (indexed_values e c.name) a.value here
        (ap is_eq ((index_value_cmp-Equal a.value a.value).1 refl))

    by : (b : Bool) → bytes_eq p.property c.name ≡ b → (b || has_column cs p.property) ≡ true
        → (has_column cs p.property ≡ true → has_value e p ≡ true) → has_value e p ≡ true
    by true e h more = met (same_name p.property c.name e)
    by false e h more = more h

  -- a row that begins with what the scan is bound to goes on with the place of a row
  row_behind : (x : List ℕ) → Member (scan_prefix q defs s ++ x) (rows_of defs e)
      → Member x (map (place_of q.columns) (rows (scan_branch q s) (e ∷ [])))
  row_behind x m =
      let r = index_row x m in
      let key : IsKeyOfBytes e.key = key_of_bytes e.key known.entity.key in
      let place = place_of q.columns (record { values = r.back; key = e.key }) in
      let same = same_ancestor_bytes (has_ancestor index) e.key r.ancestor s.ancestor q.ancestor
      (columns_bytes lead_directions r.front ++ place) (columns_bytes lead_directions bound_values
      ++ x) key r.listed known.scan.ancestor flag_some
      lawful_in.0 r.written in
      let long : length bound_values ≡ length lead_directions =
      length-map lead (asked_or_null s.equal) ∙ sym (length-map lead (λ (c : Column). c.descending)) in
      let once = values_once lead_directions r.front bound_values place x (lead_long r.front r.firsts) long
      (λ k d below. value_of_bytes _ (taken_lawful e known.entity lead r.front r.firsts k d below)) bound_of_bytes same.behind in
      let firsts : AreTaken (map (values_in e) lead) bound_values = subst (AreTaken (map (values_in e) lead)) once.0 r.firsts in
      let pairs : list_all (has_value e) s.equal ≡ true =
      all_members (has_value e) s.equal (λ p m. taken_pair lead p firsts (known.scan.leads p m) m) in
      let counts : is_found (scan_branch q s) e ≡ true =
      join (bytes_eq e.key.namespace q.namespace && has_kind q.kind e.key && is_under s.ancestor e.key) (list_all (has_value e) s.equal)
      (join (bytes_eq e.key.namespace q.namespace && has_kind q.kind e.key) (is_under s.ancestor e.key)
      (join (bytes_eq e.key.namespace q.namespace) (has_kind q.kind e.key) (ap (bytes_eq e.key.namespace) (sym r.namespace)
      ∙ name_itself e.key.namespace) r.kind)
      same.under) pairs in
      let row : RowParts = record { values = r.back; key = e.key } in
      subst (λ y. Member y (map (place_of q.columns) (rows (scan_branch q s) (e ∷ [])))) once.1
      (member_map (place_of q.columns) (rows (scan_branch q s) (e ∷ [])) row
      (member_row (scan_branch q s) (e ∷ []) row (record {
        entity = e;
        there = inl refl;
        counts = counts;
        row = row_entity q.columns e r.back r.lasts;
        within = refl;
      })))

  -- ---- from rows of the branch to rows of an index

  value_met : (v : IndexValue) (values : List IndexValue) → list_any (λ w. is_eq (index_value_cmp w v)) values ≡ true → Member v values
  value_met v values h =
      let w = some_member (λ (x : IndexValue). is_eq (index_value_cmp x v)) values h in
      subst (λ x. Member x values) ((index_value_cmp-Equal w.0 v).0 (tied (index_value_cmp w.0 v) w.1.1)) w.1.0

  bound_taken : (cs : List Column) → list_all (λ c. has_pair s.equal c.name) cs ≡ true → list_all (has_value e) s.equal ≡ true
      → AreTaken (map (values_in e) cs) (map (asked_or_null s.equal) cs)
  bound_taken [] paired met = tt
  bound_taken (c ∷ cs) paired met =
      let two = both (has_pair s.equal c.name) (list_all (λ x. has_pair s.equal x.name) cs) paired in
      let a = asked_some s.equal c.name two.0 in
      let here : Member a.value (indexed_values e c.name) =
      value_met a.value (indexed_values e c.name) (each_member (has_value e) s.equal (pair_of c.name a.value) met a.pair) in (
        subst (λ v. Member v (indexed_values e c.name)) (sym (ap (λ o. unwrap_or o Null) a.is)) here,
        bound_taken cs two.1 met,
      )

  front_same : (i : RowIndex) → SuitsKind q.kind i → has_kind q.kind e.key ≡ true
      → index_front i q.namespace (kind_of e.key) ≡ index_front i q.namespace (unwrap_or q.kind [])
  front_same AllByKey suits kind = refl
  front_same KindByKey suits kind = ap (index_front KindByKey q.namespace) (kind_is e.key q.kind suits kind)
  front_same (ByProperty n d) suits kind = ap (index_front (ByProperty n d) q.namespace) (kind_is e.key q.kind suits kind)
  front_same (Composite n d) suits kind = refl

  behind_row : (x : List ℕ) → Member x (map (place_of q.columns) (rows (scan_branch q s) (e ∷ [])))
      → Member (scan_prefix q defs s ++ x) (rows_of defs e)
  behind_row x m =
      let w = map_member (place_of q.columns) (rows (scan_branch q s) (e ∷ [])) x m in
      let r = w.0 in
      let is = row_member (scan_branch q s) (e ∷ []) r w.1.0 in
      let mine : is.entity ≡ e = only is.entity e is.there in
      let counts : is_found (scan_branch q s) e ≡ true = ap (is_found (scan_branch q s)) (sym mine) ∙ is.counts in
      let one = both (bytes_eq e.key.namespace q.namespace && has_kind q.kind e.key
      && is_under s.ancestor e.key) (list_all (has_value e) s.equal) counts in
      let two = both (bytes_eq e.key.namespace q.namespace && has_kind q.kind e.key) (is_under s.ancestor e.key) one.0 in
      let three = both (bytes_eq e.key.namespace q.namespace) (has_kind q.kind e.key) two.0 in
      let row = entity_row q.columns e r (subst (λ y. Member r (entity_rows q.columns y)) mine is.row) in
      let firsts = bound_taken lead known.scan.found.paired one.1 in
      let values : List IndexValue = bound_values ++ r.values in
      let taken : AreTaken (index_lists e index) values =
      subst (λ (ls : List (List IndexValue)). AreTaken ls values) (sym (columns.lists e))
      (join_taken (map (values_in e) lead) (map (values_in e) (value_columns q.columns)) bound_values r.values firsts row.1) in
      let there : Member index (indexes_of defs e) = index_there q defs s known.scan e values three.1 taken in
      let listed = ancestor_there (has_ancestor index) e.key s.ancestor q.ancestor known.scan.ancestor flag_some lawful_in.0 two.1 in
      let entry : IndexRow = row_with e.key s.ancestor values in
      let inside : Member entry (index_rows e index) =
      member_flat_map (λ (b : Option KeyParts). map (row_with e.key b) (each_way (index_lists e index))) (row_ancestors index e.key)
      s.ancestor entry listed
      (member_map (row_with e.key s.ancestor) (each_way (index_lists e index)) values (taken_way (index_lists e index) values taken)) in
      let namespace : e.key.namespace ≡ q.namespace = same_name e.key.namespace q.namespace three.0 in
      let long = lead_long bound_values firsts in
      let place : place_of q.columns (record { values = r.values; key = e.key }) ≡ x =
      sym (w.1.1 ∙ (λ i. place_of q.columns (record { values = r.values; key = row.0 i }))) in
      let bytes : index_row_bytes index entry ≡ scan_prefix q defs s ++ x =
      ap (λ (bs : List ℕ). index_front index e.key.namespace (kind_of e.key) ++ (ancestor_bytes s.ancestor
      ++ bs)) (values_and_key bound_values r.values e.key long)
      ∙ (λ i. index_front index (namespace i) (kind_of e.key) ++ (ancestor_bytes s.ancestor
      ++ (columns_bytes lead_directions bound_values ++ place i)))
      ∙ ap (λ (f : List ℕ). f ++ (ancestor_bytes s.ancestor ++ (columns_bytes lead_directions bound_values ++ x)))
      (front_same index known.scan.found.kind three.1)
      ∙ ap (λ (bs : List ℕ). index_front index q.namespace (unwrap_or q.kind []) ++ bs)
      (sym (append_assoc (ancestor_bytes s.ancestor) (columns_bytes lead_directions bound_values) x))
      ∙ sym (append_assoc (index_front index q.namespace (unwrap_or q.kind [])) (ancestor_bytes s.ancestor
      ++ columns_bytes lead_directions bound_values) x)
      ∙ ap (λ (bs : List ℕ). bs ++ x) (sym prefix_is) in
      member_flat_map (rows_in e) (indexes_of defs e) index (scan_prefix q defs s ++ x) there
      (subst (λ y. Member y (rows_in e index)) bytes (member_map (index_row_bytes index) (index_rows e index) entry inside))

pub scans_tell : ScansTellRows
scans_tell defs q s e definitions lawful scan values entity x =
    let known : AreKnown q defs s e = record {
      definitions = definitions;
      branch = lawful;
      scan = bound_scan q defs s lawful scan;
      lawful = values;
      entity = entity;
    } in
    let all = rows_of defs e in
    let places = map (place_of q.columns) (rows (scan_branch q s) (e ∷ [])) in (
      λ c. contained places x (row_behind q defs s e known x (member_contained all (scan_prefix q defs s ++ x) c)),
      λ c. contained all (scan_prefix q defs s ++ x) (behind_row q defs s e known x (member_contained places x c)),
    )
