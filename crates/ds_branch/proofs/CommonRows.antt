-- The strings that the scans of a suiting plan have in common are the places of the branch's rows.
use Rattle.std.proofs.Common.{◌≡◌, inl, inr, ℕ, List, [], ◌∷◌, ◌++◌, length, map, Bool, true, false, ◌&&◌, ◌||◌, cond}
use Rattle.std.proofs.Common.{refl, sym, ap, ◌∙◌, subst, Option, Some, None}
use Rattle.std.specs.Prelude.{filter, All, Contains, is_none, bytes_eq}
use Rattle.std.specs.List.{list_all, list_any, AllByRecursion, IsDistinct}
use Rattle.std.proofs.lemmas.Map.Keys.{IsDistinct-head, IsDistinct-tail}
use Rattle.std.specs.List.Sorted.{IsSorted}
use Rattle.std.specs.Cmp.Lexicographic.{nat_list_cmp_total}
use Rattle.std.proofs.lemmas.List.{length-map}
use Rattle.std.proofs.lemmas.List.Elements.{All-nil}
use Rattle.std.proofs.lemmas.List.Sorted.{Contains-permutation, All-permutation}
use Rattle.ds_base.specs.declared.column.Column.{Column}
use Rattle.ds_base.specs.Keys.{KeyParts}
use Rattle.ds_base.specs.KeyOrder.{bytes_cmp, same_key}
use Rattle.ds_base.specs.KeyOrderLaws.{same_key-decides}
use Rattle.ds_entity.specs.Entities.{EntityParts}
use Rattle.ds_base.specs.Sorting.{sorted_by}
use Rattle.ds_base.specs.SortingLaws.{IsSorted-sorted_by, IsPermutation-sorted_by}
use Rattle.ds_bytes.specs.Rows.{RowParts, IsRow}
use Rattle.ds_bytes.specs.Lawful.{IsLawfulKey, IsLawfulValue}
use Rattle.ds_bytes.specs.LawfulLaws.{key_of_bytes, value_of_bytes}
use Rattle.ds_indexdef.specs.declared.IndexDef.{IndexDef}
use Rattle.ds_query.specs.declared.branch.Pair.{Pair}
use Rattle.ds_query.specs.declared.branch.Branch.{Branch}
use Rattle.ds_query.specs.declared.row.Place.{Place}
use Rattle.ds_planner.specs.declared.planned.PlannedScan.{PlannedScan}
use Rattle.ds_planner.specs.Indexes.{has_flag, binds_ancestor}
use Rattle.ds_base.specs.KeyColumn.{is_by_key}
use Rattle.ds_planner.specs.Suits.{is_scan, are_some, chooses}
use Rattle.ds_planner.proofs.Members.{Member, both, join, contained, member_contained, map_member, member_map, filter_member}
use Rattle.ds_planner.proofs.Members.{member_filter, some_member, each_member, all_members, member_flat_map, or_cases, true_false}
use Rattle.ds_planner.proofs.PairLists.{chooses-member}
use Rattle.ds_planner.proofs.PlanLaws.{suited, IsSuited}
use Rattle.ds_rows.specs.Indexable.{IsIndexable}
use Rattle.ds_rows.specs.Indexes.{has_ancestor}
use Rattle.ds_rows.specs.Rows.{rows_of}
use Rattle.ds_rows.specs.Versions.{Version, is_seen, entities_at, seen_rows}
use Rattle.ds_scan.specs.Ranges.{rests}
use Rattle.ds_scan.specs.RangeLaws.{row_of_rest, rest_of_row}
use Rattle.ds_table.specs.Versions.{in_range}
use Rattle.ds_zigzag.specs.Spans.{is_above}
use Rattle.ds_zigzag.specs.CommonStrings.{IsCommon}
use Rattle.ds_cursor.specs.RowsOfColumns.{directions, IsRowOf}
use Rattle.ds_model.specs.Rows.{rows, entity_rows, is_found, is_under, is_within, first_value, has_value, has_kind}
use Rattle.ds_query.specs.RowValues.{value_columns}
use Rattle.ds_model.specs.Rows.{place_of, compare_rows}
use Rattle.ds_model.specs.Results.{is_between, is_after, is_up_to}
use Rattle.ds_pages.proofs.PlaceOrder.{folded}
use Rattle.ds_scan.specs.Prefixes.{scan_prefix}
use Rattle.ds_scan.specs.Bounds.{low_of, high_of}
use Rattle.ds_scan.specs.Ranging.{range_of}
use Rattle.ds_scan.specs.Stamped.{rows_at}
use Rattle.ds_branch.specs.Places.{bytes_of}
use Rattle.ds_scan.specs.Scans.{scan_branch, IsLawfulScan}
use Rattle.ds_branch.specs.ScanLaws.{IsPlanned, PlansTellRows}
use Rattle.ds_branch.specs.Common.{AreCommonRows, IsCommonAfter}
use Rattle.ds_branch.proofs.BoundLaws.{row_stands}
use Rattle.ds_branch.proofs.EntityRows.{taken_lawful, entity_row, row_member, member_row}
use Rattle.ds_scan.proofs.MemberLists.{all_from, all_member, flat_map_member}
use Rattle.ds_branch.proofs.ScanIndexes.{bound_scan}
use Rattle.ds_branch.proofs.ScanColumns.{values_in}
use Rattle.ds_branch.proofs.ScanRows.{scans_tell}
use Rattle.ds_scan.proofs.StampedRows.{row_seen, seen_row}
use Rattle.ds_branch.proofs.Walking.{place_tells}
use Rattle.ds_branch.proofs.Ways.{taken_long}

-- ---- entities

pub entity_indexable : (stamp : ℕ) (versions : List Version) → All (λ (v : Version). IsIndexable v.entity) versions
    → (e : EntityParts) → Member e (entities_at stamp versions) → IsIndexable e
entity_indexable stamp versions all e m =
    let w = map_member (λ (v : Version). v.entity) (filter (is_seen stamp) versions) e m in
    let f = filter_member (is_seen stamp) versions w.0 w.1.0 in
    subst IsIndexable (sym w.1.1) (all_member (λ (v : Version). IsIndexable v.entity) versions w.0 all f.0)

other_keys : (k : KeyParts) (entities : List EntityParts) → AllByRecursion (λ y. same_key k y
    ≡ false) (map (λ (e : EntityParts). e.key) entities)
    → (b : EntityParts) → Member b entities → k ≡ b.key → ⊥
other_keys k [] all b m same = m
other_keys k (e ∷ entities) all b (inl h) same =
    let key : k ≡ e.key = same ∙ ap (λ (x : EntityParts). x.key) h in
    true_false ⊥ (same_key k e.key) ((same_key-decides k e.key).1 key) all.0
other_keys k (e ∷ entities) all b (inr m) same = other_keys k entities all.1 b m same

-- of entities with distinct keys one has the key
one_of_key : (entities : List EntityParts) → IsDistinct same_key (map (λ (e : EntityParts). e.key) entities) → (a b : EntityParts)
    → Member a entities → Member b entities → a.key ≡ b.key → a ≡ b
one_of_key [] distinct a b m n same = absurd m
one_of_key (e ∷ entities) distinct a b (inl h) (inl g) same = h ∙ sym g
one_of_key (e ∷ entities) distinct a b (inr m) (inr n) same =
    one_of_key entities (IsDistinct-tail same_key e.key (map (λ (x : EntityParts). x.key) entities) distinct) a b m n same
one_of_key (e ∷ entities) distinct a b (inl h) (inr n) same =
    absurd (other_keys e.key entities (IsDistinct-head same_key e.key (map (λ (x : EntityParts). x.key) entities) distinct) b n
    (sym (ap (λ (x : EntityParts). x.key) h) ∙ same))
one_of_key (e ∷ entities) distinct a b (inr m) (inl g) same =
    absurd (other_keys e.key entities (IsDistinct-head same_key e.key (map (λ (x : EntityParts). x.key) entities) distinct) a m
    (sym (ap (λ (x : EntityParts). x.key) g) ∙ sym same))

-- ---- rows

row_lawful : (q : Branch) (e : EntityParts) (r : RowParts) → IsIndexable e → Member r (entity_rows q.columns e)
    → (length r.values ≡ length (directions q.columns)) × (All IsLawfulValue r.values) × IsLawfulKey r.key
row_lawful q e r p m =
    let row = entity_row q.columns e r m in (
      taken_long (map (values_in e) (value_columns q.columns)) r.values row.1 ∙ length-map (value_columns q.columns) (values_in e)
          ∙ sym (length-map (value_columns q.columns) (λ (c : Column). c.descending)),
      taken_lawful e p (value_columns q.columns) r.values row.1,
      subst IsLawfulKey (sym row.0) p.key,
    )

pub row_of_bytes : (q : Branch) (e : EntityParts) (r : RowParts) → IsIndexable e → Member r (entity_rows q.columns e)
    → IsRow (directions q.columns) r
row_of_bytes q e r p m =
    let l = row_lawful q e r p m in
    record { long = l.0; values = λ k d below. value_of_bytes _ (l.1 k d below); key = key_of_bytes r.key l.2 }

-- ---- the scans of a plan

module _ (q : Branch) (defs : List IndexDef) (scans : List PlannedScan) (stamp : ℕ) (versions : List Version) (end : Option Place)
    (planned : IsPlanned q defs scans stamp versions) where
  abbrev pub entities : List EntityParts
  entities = entities_at stamp versions

  abbrev pub strings : PlannedScan → List (List ℕ)
  strings s = rests (range_of q defs end s) (rows_at defs stamp versions)

  abbrev pub all_strings : List (List (List ℕ))
  all_strings = map strings scans

  is_suited : IsSuited q defs scans
  is_suited = suited q defs scans planned.suits

  indexable : (e : EntityParts) → Member e entities → IsIndexable e
  indexable e m = entity_indexable stamp versions planned.tables.indexable e m

  a_scan : (s : PlannedScan) → Member s scans → is_scan q defs s ≡ true
  a_scan s m = each_member (is_scan q defs) scans s is_suited.are m

  -- a string of a scan is the place of a row of what the scan binds
  pub record IsOfScan (s : PlannedScan) (x : List ℕ) : Type 0 where
    pub entity : EntityParts
    pub there : Member entity entities
    pub row : RowParts
    pub counts : is_found (scan_branch q s) entity ≡ true
    pub is_row : Member row (entity_rows q.columns entity)
    pub place : x ≡ place_of q.columns row
    pub inside : in_range (low_of q) (high_of q end) x ≡ true

  only : {A : Type 0} (x y : A) → Member x (y ∷ []) → x ≡ y
  only x y (inl e) = e
  only x y (inr m) = absurd m

  pub of_scan : (s : PlannedScan) (x : List ℕ) → Member s scans → Contains (strings s) x → IsOfScan s x
  of_scan s x m c =
      let r = row_of_rest (range_of q defs end s) (rows_at defs stamp versions) x c in
      let seen = row_seen defs stamp versions (scan_prefix q defs s ++ x) r.0 in
      let from = flat_map_member (rows_of defs) entities (scan_prefix q defs s ++ x)
      (member_contained (seen_rows defs stamp versions) (scan_prefix q defs s ++ x) seen) in
      let e = from.0 in
      let law = scans_tell defs q s e planned.tables.definitions planned.branch (a_scan s m) (all_member (IsLawfulScan defs) scans s
      planned.lawful m)
      (indexable e from.1.0) x in
      let w = map_member (place_of q.columns) (rows (scan_branch q s) (e ∷ [])) x
      (member_contained (map (place_of q.columns) (rows (scan_branch q s) (e ∷ []))) x (law.0 (contained (rows_of defs e) (scan_prefix q
      defs s ++ x) from.1.1))) in
      let is = row_member (scan_branch q s) (e ∷ []) w.0 w.1.0 in
      let mine : is.entity ≡ e = only is.entity e is.there in
      record {
        entity = e;
        there = from.1.0;
        row = w.0;
        counts = ap (is_found (scan_branch q s)) (sym mine) ∙ is.counts;
        is_row = subst (λ y. Member w.0 (entity_rows q.columns y)) mine is.row;
        place = w.1.1;
        inside = r.1;
      }

  to_scan : (s : PlannedScan) (x : List ℕ) → Member s scans → IsOfScan s x → Contains (strings s) x
  to_scan s x m is =
      let e = is.entity in
      let law = scans_tell defs q s e planned.tables.definitions planned.branch (a_scan s m) (all_member (IsLawfulScan defs) scans s
      planned.lawful m)
      (indexable e is.there) x in
      let mine : Member is.row (rows (scan_branch q s) (e ∷ [])) =
      member_row (scan_branch q s) (e ∷ []) is.row
      (record { entity = e; there = inl refl; counts = is.counts; row = is.is_row; within = refl }) in
      let listed : Member x (map (place_of q.columns) (rows (scan_branch q s) (e ∷ []))) =
      subst (λ y. Member y (map (place_of q.columns) (rows (scan_branch q s) (e ∷ [])))) (sym is.place)
      (member_map (place_of q.columns) (rows (scan_branch q s) (e ∷ [])) is.row mine) in
      let own = member_contained (rows_of defs e) (scan_prefix q defs s ++ x)
      (law.1 (contained (map (place_of q.columns) (rows (scan_branch q s) (e ∷ []))) x listed)) in
      let seen = contained (seen_rows defs stamp versions) (scan_prefix q defs s ++ x)
      (member_flat_map (rows_of defs) entities e (scan_prefix q defs s ++ x) is.there own) in
      rest_of_row (range_of q defs end s) (rows_at defs stamp versions) x (seen_row defs stamp versions (scan_prefix q defs s
      ++ x) seen) is.inside

  scan_has : (x : List ℕ) → IsCommon all_strings x → (s : PlannedScan) → Member s scans → IsOfScan s x
  scan_has x common s m = of_scan s x m (all_member (λ (ss : List (List ℕ)). Contains ss x) all_strings (strings s) common (member_map
      strings scans s m))

  -- ---- from common strings to rows

  -- a row of the branch with this place
  pub record IsOfBranch (x : List ℕ) : Type 0 where
    pub row : RowParts
    pub there : Member row (rows q entities)
    pub lawful : IsRow (directions q.columns) row
    pub decodes : IsRowOf q.columns x
    pub place : x ≡ place_of q.columns row
    pub up_to : is_up_to end x ≡ true

  first_scan : (ss : List PlannedScan) → are_some ss ≡ true → (s : PlannedScan) × Member s ss
  first_scan [] h = absurd (cc h)
  first_scan (s ∷ ss) h = (s, inl refl)

  module _ (x : List ℕ) (common : IsCommon all_strings x) where
    first : (s : PlannedScan) × Member s scans
    first = first_scan scans is_suited.some

    at_first : IsOfScan first.0 x
    at_first = scan_has x common first.0 first.1

    row_at : (s : PlannedScan) (is : IsOfScan s x) → IsRow (directions q.columns) is.row
    row_at s is = row_of_bytes q is.entity is.row (indexable is.entity is.there) is.is_row

    -- every scan has it of the same entity
    same_entity : (s : PlannedScan) (is : IsOfScan s x) → is.entity ≡ at_first.entity
    same_entity s is =
        let rows_same : is.row ≡ at_first.row =
        place_tells q.columns is.row at_first.row (row_at s is) (row_at first.0 at_first) (sym is.place ∙ at_first.place) in
        let key : is.entity.key ≡ at_first.entity.key =
        sym (entity_row q.columns is.entity is.row is.is_row).0 ∙ ap (λ (r : RowParts). r.key) rows_same
        ∙ (entity_row q.columns at_first.entity at_first.row at_first.is_row).0 in
        one_of_key entities planned.tables.one_each is.entity at_first.entity is.there at_first.there key

    counts_at : (s : PlannedScan) → Member s scans → is_found (scan_branch q s) at_first.entity ≡ true
    counts_at s m =
        let is = scan_has x common s m in
        ap (is_found (scan_branch q s)) (sym (same_entity s is)) ∙ is.counts

    -- what the branch asks of an entity, by its parts
    record AreMet (s : PlannedScan) : Type 0 where
      namespace : bytes_eq at_first.entity.key.namespace q.namespace ≡ true
      kind : has_kind q.kind at_first.entity.key ≡ true
      under : is_under s.ancestor at_first.entity.key ≡ true
      pairs : list_all (has_value at_first.entity) s.equal ≡ true

    met : (s : PlannedScan) → Member s scans → AreMet s
    met s m =
        let e = at_first.entity in
        let one = both (bytes_eq e.key.namespace q.namespace && has_kind q.kind e.key
        && is_under s.ancestor e.key) (list_all (has_value e) s.equal) (counts_at s m) in
        let two = both (bytes_eq e.key.namespace q.namespace && has_kind q.kind e.key) (is_under s.ancestor e.key) one.0 in
        let three = both (bytes_eq e.key.namespace q.namespace) (has_kind q.kind e.key) two.0 in
        record { namespace = three.0; kind = three.1; under = two.1; pairs = one.1 }

    stands : (is_within q.range (first_value at_first.row)
        ≡ true) × ((cond (is_by_key q.columns) (is_under q.ancestor at_first.row.key) true
        ≡ true) × (is_up_to end (place_of q.columns at_first.row) ≡ true))
    stands =
        let row = row_at first.0 at_first in
        let told = row_stands q end at_first.row planned.branch planned.ends row in
        let all = sym told ∙ ap (λ y. in_range (low_of q) (high_of q end) y) (sym at_first.place) ∙ at_first.inside in
        let one = both (is_within q.range (first_value at_first.row)) (cond (is_by_key q.columns) (is_under q.ancestor at_first.row.key)
        true && is_up_to end (place_of q.columns at_first.row)) all in (
          one.0,
          both (cond (is_by_key q.columns) (is_under q.ancestor at_first.row.key) true) (is_up_to end (place_of q.columns
              at_first.row)) one.1,
        )

    key_is : at_first.row.key ≡ at_first.entity.key
    key_is = (entity_row q.columns at_first.entity at_first.row at_first.is_row).0

    by_scan : (s : PlannedScan) → Member s scans → binds_ancestor q defs s.index ≡ true → is_under q.ancestor at_first.entity.key ≡ true
    by_scan s m h = elim (or_cases (is_by_key q.columns) (has_flag defs s.index) h) [
      | inl e ↦ sym (ap (λ b. cond b (is_under q.ancestor at_first.entity.key) true) e)
          ∙ ap (λ k. cond (is_by_key q.columns) (is_under q.ancestor k) true) (sym key_is) ∙ stands.1.0
      | inr e ↦
          let b = bound_scan q defs s planned.branch (a_scan s m) in
          let flag : has_ancestor b.found.index ≡ true = sym b.found.flagged ∙ e in
          let same : s.ancestor ≡ q.ancestor = b.ancestor ∙ ap (λ f. cond f q.ancestor None) flag in
          sym (ap (λ a. is_under a at_first.entity.key) same) ∙ (met s m).under
    ]

    under_ancestor : is_under q.ancestor at_first.entity.key ≡ true
    under_ancestor = by q.ancestor refl where
      by : (a : Option KeyParts) → q.ancestor ≡ a → is_under q.ancestor at_first.entity.key ≡ true
      by None e = ap (λ a. is_under a at_first.entity.key) e
      by (Some a) e =
          let any : list_any (λ (s : PlannedScan). binds_ancestor q defs s.index) scans ≡ true =
          sym (ap (λ o. is_none o || list_any (λ (s : PlannedScan). binds_ancestor q defs s.index) scans) e) ∙ is_suited.ancestor in
          let s = some_member (λ (t : PlannedScan). binds_ancestor q defs t.index) scans any in
          by_scan s.0 s.1.0 s.1.1

    has_all : list_all (has_value at_first.entity) q.equal ≡ true
    has_all = all_members (has_value at_first.entity) q.equal (λ p m.
        let s = some_member (λ (t : PlannedScan). chooses t.equal p) scans
        (each_member (λ (r : Pair). list_any (λ (t : PlannedScan). chooses t.equal r) scans) q.equal p is_suited.chosen m) in
        each_member (has_value at_first.entity) s.0.equal p (met s.0 s.1.0).pairs (chooses-member s.0.equal p s.1.1))

    pub of_branch : IsOfBranch x
    of_branch =
        let e = at_first.entity in
        let m = met first.0 first.1 in
        let found : is_found q e ≡ true =
        join (bytes_eq e.key.namespace q.namespace && has_kind q.kind e.key && is_under q.ancestor e.key) (list_all (has_value e) q.equal)
        (join (bytes_eq e.key.namespace q.namespace && has_kind q.kind e.key) (is_under q.ancestor e.key)
        (join (bytes_eq e.key.namespace q.namespace) (has_kind q.kind e.key) m.namespace m.kind) under_ancestor) has_all in
        let l = row_lawful q e at_first.row (indexable e at_first.there) at_first.is_row in
        record {
          row = at_first.row;
          there = member_row q entities at_first.row
              (record { entity = e; there = at_first.there; counts = found; row = at_first.is_row; within = stands.0 });
          lawful = row_at first.0 at_first;
          decodes = record { row = at_first.row; long = l.0; values = l.1; key = l.2; written = at_first.place };
          place = at_first.place;
          up_to = ap (is_up_to end) at_first.place ∙ stands.1.1;
        }

  -- ---- from rows to common strings

  in_scans : (r : RowParts) → Member r (rows q entities) → is_up_to end (place_of q.columns r) ≡ true → (s : PlannedScan) → Member s scans
      → IsOfScan s (place_of q.columns r)
  in_scans r m up s n =
      let is = row_member q entities r m in
      let e = is.entity in
      let one = both (bytes_eq e.key.namespace q.namespace && has_kind q.kind e.key
      && is_under q.ancestor e.key) (list_all (has_value e) q.equal) is.counts in
      let two = both (bytes_eq e.key.namespace q.namespace && has_kind q.kind e.key) (is_under q.ancestor e.key) one.0 in
      let b = bound_scan q defs s planned.branch (a_scan s n) in
      let under : is_under s.ancestor e.key ≡ true = flagged e.key (has_ancestor b.found.index) s.ancestor b.ancestor two.1 in
      let pairs : list_all (has_value e) s.equal ≡ true =
      all_members (has_value e) s.equal (λ p h. each_member (has_value e) q.equal p one.1 (b.inside p h)) in
      let row = row_of_bytes q e r (indexable e is.there) is.row in
      let key : r.key ≡ e.key = (entity_row q.columns e r is.row).0 in
      let inside : in_range (low_of q) (high_of q end) (place_of q.columns r) ≡ true =
      row_stands q end r planned.branch planned.ends row
      ∙ join (is_within q.range (first_value r)) (cond (is_by_key q.columns) (is_under q.ancestor r.key) true
      && is_up_to end (place_of q.columns r)) is.within
      (join (cond (is_by_key q.columns) (is_under q.ancestor r.key) true) (is_up_to end (place_of q.columns r))
      (either (is_by_key q.columns) (is_under q.ancestor r.key) (ap (is_under q.ancestor) key ∙ two.1)) up) in
      record {
        entity = e;
        there = is.there;
        row = r;
        counts = join (bytes_eq e.key.namespace q.namespace && has_kind q.kind e.key
            && is_under s.ancestor e.key) (list_all (has_value e) s.equal)
            (join (bytes_eq e.key.namespace q.namespace && has_kind q.kind e.key) (is_under s.ancestor e.key) two.0 under) pairs;
        is_row = is.row;
        place = refl;
        inside = inside;
      } where
        flagged : (k : KeyParts) (flag : Bool) (a : Option KeyParts) → a ≡ cond flag q.ancestor None → is_under q.ancestor k ≡ true
            → is_under a k ≡ true
        flagged k true a same h = ap (λ o. is_under o k) same ∙ h
        flagged k false a same h = ap (λ o. is_under o k) same

        either : (b c : Bool) → c ≡ true → cond b c true ≡ true
        either true c h = h
        either false c h = refl

  -- ---- all together

  after_start : (start : Option Place) (x : List ℕ) → is_above (bytes_of start) x ≡ is_after start x
  after_start None x = refl
  after_start (Some p) x = refl

  abbrev pub found_rows : Option Place → List RowParts
  found_rows start = filter (is_between q.columns start end) (rows q entities)

  lawful_rows : (r : RowParts) → Member r (rows q entities) → IsRow (directions q.columns) r
  lawful_rows r m =
      let is = row_member q entities r m in row_of_bytes q is.entity r (indexable is.entity is.there) is.row

  common_after : (start : Option Place) (r : RowParts) → Member r (found_rows start)
      → IsCommonAfter q.columns (bytes_of start) all_strings r
  common_after start r m =
      let f = filter_member (is_between q.columns start end) (rows q entities) r m in
      let two = both (is_after start (place_of q.columns r)) (is_up_to end (place_of q.columns r)) f.1 in
      record {
        row = lawful_rows r f.0;
        common = all_from (λ (ss : List (List ℕ)). Contains ss (place_of q.columns r)) all_strings (λ ss n.
            let w = map_member strings scans ss n in
            subst (λ (ys : List (List ℕ)). Contains ys (place_of q.columns r)) (sym w.1.1)
            (to_scan w.0 (place_of q.columns r) w.1.0 (in_scans r f.0 two.1 w.0 w.1.0)));
        above = after_start start (place_of q.columns r) ∙ two.0;
      }

  pub common_rows : (start : Option Place)
      → AreCommonRows q.columns (bytes_of start) all_strings (sorted_by (compare_rows q.columns) (found_rows start))
  common_rows start =
      let found = found_rows start in
      let sorted = sorted_by (compare_rows q.columns) found in
      let moved = IsPermutation-sorted_by (compare_rows q.columns) found in
      let lawful : All (IsRow (directions q.columns)) found =
      all_from (IsRow (directions q.columns)) found (λ r m. (common_after start r m).row) in
      record {
        ascend = subst (IsSorted bytes_cmp) (sym (folded q.columns [] found (All-nil (IsRow (directions q.columns))) lawful))
            (IsSorted-sorted_by nat_list_cmp_total (map (place_of q.columns) found));
        common = All-permutation (IsCommonAfter q.columns (bytes_of start) all_strings) found sorted moved
            (all_from (IsCommonAfter q.columns (bytes_of start) all_strings) found (common_after start));
        whole = λ x common above.
            let is = of_branch x common in
            let between : is_between q.columns start end is.row ≡ true =
            join (is_after start (place_of q.columns is.row)) (is_up_to end (place_of q.columns is.row))
            (ap (is_after start) (sym is.place) ∙ sym (after_start start x) ∙ above) (ap (is_up_to end) (sym is.place) ∙ is.up_to) in
            let there = member_filter (is_between q.columns start end) (rows q entities) is.row is.there between in
            let listed : Member is.row sorted = member_contained sorted is.row (Contains-permutation found sorted is.row moved (contained
            found is.row there)) in
            contained (map (place_of q.columns) sorted) x
            (subst (λ y. Member y (map (place_of q.columns) sorted)) (sym is.place) (member_map (place_of q.columns) sorted is.row listed));
      }

pub plans_tell : PlansTellRows
plans_tell q defs scans stamp versions start end planned = common_rows q defs scans stamp versions end planned start
