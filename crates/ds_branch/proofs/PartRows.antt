-- The strings of a scan are places of rows of each part that it binds, and no more than these.
use Rattle.std.proofs.Common.{◌≡◌, inl, inr, ℕ, ◌+◌, ◌≤◌, ◌<◌, List, [], ◌∷◌, ◌++◌, length, map, Bool, true, false, ◌&&◌, ◌||◌}
use Rattle.std.proofs.Common.{not, cond, refl, sym, ap, ◌∙◌, subst, Option, Some, None, arith, length-append, append-nil}
use Rattle.std.specs.Prelude.{filter, flat_map, sum_by, count_by, is_some, is_none, bytes_eq}
use Rattle.std.specs.List.{list_all, list_any}
use Rattle.std.proofs.lemmas.List.Sums.{sum_by-cons}
use Rattle.std.proofs.lemmas.List.Sorted.{sum_by-IsPermutation}
use Rattle.ds_base.specs.Keys.{KeyParts}
use Rattle.ds_base.specs.KeyOrder.{bytes_cmp}
use Rattle.ds_entity.specs.Entities.{EntityParts}
use Rattle.ds_base.specs.SortingLaws.{IsPermutation-sorted_by}
use Rattle.ds_bytes.specs.Rows.{RowParts}
use Rattle.ds_indexdef.specs.declared.IndexDef.{IndexDef}
use Rattle.ds_query.specs.declared.branch.Pair.{Pair}
use Rattle.ds_query.specs.declared.branch.Branch.{Branch}
use Rattle.ds_query.specs.declared.row.Place.{Place}
use Rattle.ds_query.specs.Lawful.{IsLawfulBranch}
use Rattle.ds_planner.specs.declared.planned.PlannedScan.{PlannedScan}
use Rattle.ds_planner.specs.Indexes.{has_flag, binds_ancestor}
use Rattle.ds_base.specs.KeyColumn.{is_by_key}
use Rattle.ds_base.specs.Least.{least_of}
use Rattle.ds_planner.specs.Parts.{Part, pair_part, ancestor_part, conditions, parts, branch_of_part, or_empty_part}
use Rattle.ds_planner.specs.Suits.{is_scan, chooses, are_some}
use Rattle.ds_planner.specs.Lean.{binds, BindEach, IsLean}
use Rattle.ds_planner.proofs.Members.{Member, contained, member_contained, map_member, member_map, member_append, filter_member}
use Rattle.ds_planner.proofs.Members.{member_filter, both, join, each_member, all_members, some_member, or_cases}
use Rattle.ds_planner.proofs.PairLists.{chooses-member}
use Rattle.ds_planner.proofs.PlanLaws.{suited, IsSuited}
use Rattle.ds_rows.specs.Indexable.{IsIndexable}
use Rattle.ds_rows.specs.Rows.{rows_of}
use Rattle.ds_rows.specs.Versions.{Version, is_seen, entities_at, unseen_rows}
use Rattle.ds_rows.proofs.OnceLaws.{rows_once}
use Rattle.ds_scan.specs.Ranges.{rests, rest, is_in, begins_with}
use Rattle.ds_scan.specs.RangeLaws.{count-rests, begins-is}
use Rattle.ds_scan.proofs.Rests.{rests-ascend}
use Rattle.ds_table.specs.Versions.{in_range}
use Rattle.ds_zigzag.specs.Spans.{is_above, is_within, count_between}
use Rattle.ds_zigzag.specs.CommonStrings.{least_count, total_count}
use Rattle.ds_model.specs.Rows.{rows, entity_rows, is_found, is_under, is_within as in_values, first_value, has_value, has_kind, place_of}
use Rattle.ds_model.specs.Results.{is_between, is_after, is_up_to}
use Rattle.ds_model.specs.Bounds.{part_rows, old, unseen_at}
use Rattle.ds_scan.specs.Prefixes.{scan_prefix}
use Rattle.ds_scan.specs.Bounds.{low_of, high_of}
use Rattle.ds_scan.specs.Ranging.{range_of}
use Rattle.ds_scan.specs.Stamped.{rows_at, rows_not_at}
use Rattle.ds_branch.specs.Places.{bytes_of}
use Rattle.ds_scan.specs.Scans.{scan_branch, IsLawfulScan, IsLawfulEnds}
use Rattle.ds_branch.specs.ScanLaws.{IsPlanned, plan_strings, ScansHaveFewStrings}
use Rattle.ds_branch.proofs.BoundLaws.{row_stands}
use Rattle.ds_branch.proofs.Counted.{once_counted, strict_once, least_member, below_least}
use Rattle.ds_branch.proofs.CommonRows.{of_scan, row_of_bytes, entity_indexable}
use Rattle.ds_branch.proofs.EntityRows.{entity_row, IsRowOfEntity, row_member, member_row}
use Rattle.ds_scan.proofs.MemberLists.{all_member}
use Rattle.ds_branch.proofs.ScanIndexes.{bound_scan}
use Rattle.ds_branch.proofs.ScanRows.{scans_tell}
use Rattle.ds_scan.proofs.StampedRows.{rows_ascend}

only : {A : Type 0} (x y : A) → Member x (y ∷ []) → x ≡ y
only x y (inl e) = e
only x y (inr m) = absurd m

-- ---- an entity that counts for a scan counts for each part that the scan binds

module _ (q : Branch) (defs : List IndexDef) (s : PlannedScan) (part : Part) (lawful : IsLawfulBranch q) (scan : is_scan q defs s ≡ true)
    (bound : binds q defs s part ≡ true) where
  pairs_met : (e : EntityParts) → list_all (has_value e) s.equal ≡ true → list_all (has_value e) part.equal ≡ true
  pairs_met e met =
      let two = both (list_all (chooses s.equal) part.equal) (not part.ancestor || binds_ancestor q defs s.index) bound in
      all_members (has_value e) part.equal (λ p m.
      each_member (has_value e) s.equal p met (chooses-member s.equal p (each_member (chooses s.equal) part.equal p two.0 m)))

  part_under : (k : KeyParts) → is_under s.ancestor k ≡ true → cond (is_by_key q.columns) (is_under q.ancestor k) true ≡ true
      → is_under (cond part.ancestor q.ancestor None) k ≡ true
  part_under k under keyed = by part.ancestor (both (list_all (chooses s.equal) part.equal) (not part.ancestor || binds_ancestor q defs
      s.index) bound).1 where
        flagged : has_flag defs s.index ≡ true → is_under q.ancestor k ≡ true
        flagged e =
            let b = bound_scan q defs s lawful scan in
            let same : s.ancestor ≡ q.ancestor = b.ancestor ∙ ap (λ f. cond f q.ancestor None) (sym b.found.flagged ∙ e) in
            sym (ap (λ a. is_under a k) same) ∙ under

        by : (a : Bool) → (not a || binds_ancestor q defs s.index) ≡ true → is_under (cond a q.ancestor None) k ≡ true
        by false h = refl
        by true h = elim (or_cases (is_by_key q.columns) (has_flag defs s.index) h) [
          | inl e ↦ sym (ap (λ b. cond b (is_under q.ancestor k) true) e) ∙ keyed
          | inr e ↦ flagged e
        ]

  -- of an entity that counts for the scan, a row in the range is a row of the part's branch
  row_of_part : (end : Option Place) (ends : IsLawfulEnds q) (e : EntityParts) (r : RowParts) → IsIndexable e
      → is_found (scan_branch q s) e ≡ true
      → Member r (entity_rows q.columns e) → in_range (low_of q) (high_of q end) (place_of q.columns r) ≡ true
      → (IsRowOfEntity (branch_of_part q part) (e ∷ []) r) × (is_up_to end (place_of q.columns r) ≡ true)
  row_of_part end ends e r p counts m inside =
      let row = row_of_bytes q e r p m in
      let key : r.key ≡ e.key = (entity_row q.columns e r m).0 in
      let all = sym (row_stands q end r lawful ends row) ∙ inside in
      let range = both (in_values q.range (first_value r)) (cond (is_by_key q.columns) (is_under q.ancestor r.key) true
      && is_up_to end (place_of q.columns r)) all in
      let others = both (cond (is_by_key q.columns) (is_under q.ancestor r.key) true) (is_up_to end (place_of q.columns r)) range.1 in
      let keyed : cond (is_by_key q.columns) (is_under q.ancestor e.key) true ≡ true =
      sym (ap (λ k. cond (is_by_key q.columns) (is_under q.ancestor k) true) key) ∙ others.0 in
      let one = both (bytes_eq e.key.namespace q.namespace && has_kind q.kind e.key
      && is_under s.ancestor e.key) (list_all (has_value e) s.equal) counts in
      let two = both (bytes_eq e.key.namespace q.namespace && has_kind q.kind e.key) (is_under s.ancestor e.key) one.0 in
      let found : is_found (branch_of_part q part) e ≡ true =
      join (bytes_eq e.key.namespace q.namespace && has_kind q.kind e.key
      && is_under (cond part.ancestor q.ancestor None) e.key) (list_all (has_value e) part.equal)
      (join (bytes_eq e.key.namespace q.namespace && has_kind q.kind e.key) (is_under (cond part.ancestor q.ancestor None) e.key) two.0
      (part_under e.key two.1 keyed)) (pairs_met e one.1) in
      (record { entity = e; there = inl refl; counts = found; row = m; within = range.0 }, others.1)

-- ---- seen rows

within_same : (stop : Option Place) (x : List ℕ) → is_within (bytes_of stop) x ≡ is_up_to stop x
within_same None x = refl
within_same (Some p) x = refl

after_same : (start : Option Place) (x : List ℕ) → is_above (bytes_of start) x ≡ is_after start x
after_same None x = refl
after_same (Some p) x = refl

module _ (q : Branch) (defs : List IndexDef) (scans : List PlannedScan) (stamp : ℕ) (versions : List Version) (start end stop : Option
    Place)
    (planned : IsPlanned q defs scans stamp versions) where
  abbrev entities : List EntityParts
  entities = entities_at stamp versions

  is_suited : IsSuited q defs scans
  is_suited = suited q defs scans planned.suits

  a_scan : (s : PlannedScan) → Member s scans → is_scan q defs s ≡ true
  a_scan s m = each_member (is_scan q defs) scans s is_suited.are m

  abbrev test : List ℕ → Bool
  test x = is_above (bytes_of start) x && is_within (bytes_of stop) x

  -- a string between the places is the place of a row of the part that is looked at
  string_of_part : (s : PlannedScan) (part : Part) → Member s scans → binds q defs s part ≡ true → (x : List ℕ)
      → Member x (rests (range_of q defs end s) (rows_at defs stamp versions)) → test x ≡ true
      → Member x (map (place_of q.columns) (part_rows q start end stop entities part))
  string_of_part s part m bound x there tested =
      let is = of_scan q defs scans stamp versions end planned s x m (contained (rests (range_of q defs end s) (rows_at defs stamp
      versions)) x there) in
      let e = is.entity in
      let indexable = entity_indexable stamp versions planned.tables.indexable e is.there in
      let inside = ap (λ y. in_range (low_of q) (high_of q end) y) (sym is.place) ∙ is.inside in
      let r = row_of_part q defs s part planned.branch (a_scan s m) bound end planned.ends e is.row indexable is.counts is.is_row inside in
      let two = both (is_above (bytes_of start) x) (is_within (bytes_of stop) x) tested in
      let mine : Member is.row (rows (branch_of_part q part) entities) =
      member_row (branch_of_part q part) entities is.row (record {
        entity = e;
        there = is.there;
        counts = ap (is_found (branch_of_part q part)) (sym (only r.0.entity e r.0.there)) ∙ r.0.counts;
        row = is.is_row;
        within = r.0.within;
      }) in
      let after : is_after start (place_of q.columns is.row) ≡ true = ap (is_after start) (sym is.place) ∙ sym (after_same start x)
      ∙ two.0 in
      let upto : is_up_to stop (place_of q.columns is.row) ≡ true = ap (is_up_to stop) (sym is.place) ∙ sym (within_same stop x) ∙ two.1 in
      let between = member_filter (is_between q.columns start end) (rows (branch_of_part q part) entities) is.row mine
      (join (is_after start (place_of q.columns is.row)) (is_up_to end (place_of q.columns is.row)) after r.1) in
      let looked = member_filter (λ (row : RowParts). is_up_to stop (place_of q.columns row)) (filter (is_between q.columns start end)
      (rows (branch_of_part q part) entities))
      is.row between upto in
      subst (λ y. Member y (map (place_of q.columns) (part_rows q start end stop entities part))) (sym is.place)
      (member_map (place_of q.columns) (part_rows q start end stop entities part) is.row looked)

  strings_few : (s : PlannedScan) (part : Part) → Member s scans → binds q defs s part ≡ true
      → count_between (bytes_of start) (bytes_of stop) (rests (range_of q defs end s) (rows_at defs stamp versions))
      ≤ length (part_rows q start end stop entities part)
  strings_few s part m bound =
      once_counted test (place_of q.columns) (rests (range_of q defs end s) (rows_at defs stamp versions)) (part_rows q start end stop
      entities part)
      (strict_once (rests (range_of q defs end s) (rows_at defs stamp versions))
      (rests-ascend (range_of q defs end s) (rows_at defs stamp versions) (rows_ascend defs stamp versions)))
      (string_of_part s part m bound)

  -- each part is bound by a scan
  first_scan : (ss : List PlannedScan) → are_some ss ≡ true → (s : PlannedScan) × Member s ss
  first_scan [] h = absurd (cc h)
  first_scan (s ∷ ss) h = (s, inl refl)

  and_true : (b : Bool) → b ≡ true → (b && true) ≡ true
  and_true true e = refl
  and_true false e = e

  bound_by : (part : Part) → Member part (parts q) → (s : PlannedScan) × (Member s scans × (binds q defs s part ≡ true))
  bound_by part m = by (conditions q) refl m where
    pair_bound : (p : Pair) → Member p q.equal → (s : PlannedScan) × (Member s scans × (binds q defs s (pair_part p) ≡ true))
    pair_bound p n =
        let s = some_member (λ (t : PlannedScan). chooses t.equal p) scans
        (each_member (λ (r : Pair). list_any (λ (t : PlannedScan). chooses t.equal r) scans) q.equal p is_suited.chosen n) in
        (s.0, (s.1.0, and_true (chooses s.0.equal p && true) (and_true (chooses s.0.equal p) s.1.1)))

    ancestor_bound : is_some q.ancestor ≡ true → (s : PlannedScan) × (Member s scans × (binds q defs s ancestor_part ≡ true))
    ancestor_bound some =
        let any : list_any (λ (s : PlannedScan). binds_ancestor q defs s.index) scans ≡ true = of q.ancestor some is_suited.ancestor in
        let s = some_member (λ (t : PlannedScan). binds_ancestor q defs t.index) scans any in
        (s.0, (s.1.0, s.1.1)) where
          of : (a : Option KeyParts) → is_some a ≡ true
              → (is_none a || list_any (λ (s : PlannedScan). binds_ancestor q defs s.index) scans) ≡ true
              → list_any (λ (s : PlannedScan). binds_ancestor q defs s.index) scans ≡ true
          of None e h = absurd (cc e)
          of (Some a) e h = h

    condition_bound : Member part (conditions q) → (s : PlannedScan) × (Member s scans × (binds q defs s part ≡ true))
    condition_bound n = elim (member_append (map pair_part q.equal) (cond (is_some q.ancestor) (ancestor_part ∷ []) []) part n) [
      | inl h ↦
          let w = map_member pair_part q.equal part h in
          let b = pair_bound w.0 w.1.0 in
          (b.0, (b.1.0, ap (binds q defs b.0) w.1.1 ∙ b.1.1))
      | inr h ↦ of (is_some q.ancestor) refl h
    ] where
      of : (b : Bool) → is_some q.ancestor ≡ b → Member part (cond b (ancestor_part ∷ []) [])
          → (s : PlannedScan) × (Member s scans × (binds q defs s part ≡ true))
      of true e (inl h) = let b = ancestor_bound e in (b.0, (b.1.0, ap (binds q defs b.0) h ∙ b.1.1))
      of true e (inr h) = absurd h
      of false e h = absurd h

    by : (cs : List Part) → conditions q ≡ cs → Member part (or_empty_part cs)
        → (s : PlannedScan) × (Member s scans × (binds q defs s part ≡ true))
    by [] e (inl h) =
        let s = first_scan scans is_suited.some in
        (s.0, (s.1, ap (binds q defs s.0) h))
    by [] e (inr h) = absurd h
    by (c ∷ cs) e n = condition_bound (subst (λ ds. Member part ds) (sym e) n)

  parts_some : 0 < length (parts q)
  parts_some = by (conditions q) where
    by : (cs : List Part) → 0 < length (or_empty_part cs)
    by [] = omega arith
    by (c ∷ cs) = omega arith

  pub strings_least : least_count (bytes_of start) (bytes_of stop) (plan_strings q defs scans stamp versions end)
      ≤ least_of (map (λ part. length (part_rows q start end stop entities part)) (parts q))
  strings_least =
      let strings : PlannedScan → List (List ℕ) = λ (s : PlannedScan). rests (range_of q defs end s) (rows_at defs stamp versions) in
      below_least (least_count (bytes_of start) (bytes_of stop) (plan_strings q defs scans stamp versions end))
      (λ part. length (part_rows q start end stop entities part)) (parts q) parts_some (λ part m.
      let b = bound_by part m in
      let few = strings_few b.0 part b.1.0 b.1.1 in
      let least = least_member (count_between (bytes_of start) (bytes_of stop)) (plan_strings q defs scans stamp versions end) (strings b.0)
      (member_map strings scans b.0 b.1.0) in
      omega (arith, few, least))

  -- ---- rows that aren't seen

  abbrev tests : PlannedScan → List ℕ → Bool
  tests s row = is_in (range_of q defs end s) row && test (rest (scan_prefix q defs s) row)

  unseen_row : (s : PlannedScan) (part : Part) → Member s scans → binds q defs s part ≡ true → (e : EntityParts) → IsIndexable e
      → (row : List ℕ)
      → Member row (rows_of defs e) → tests s row ≡ true
      → Member row (map (λ (r : RowParts). scan_prefix q defs s ++ place_of q.columns r) (rows (branch_of_part q part) (e ∷ [])))
  unseen_row s part m bound e indexable row there tested =
      let prefix = scan_prefix q defs s in
      let x = rest prefix row in
      let one = both (is_in (range_of q defs end s) row) (test x) tested in
      let two = both (begins_with prefix row) (in_range (low_of q) (high_of q end) x) one.0 in
      let is : row ≡ prefix ++ x = begins-is prefix row two.0 in
      let law = scans_tell defs q s e planned.tables.definitions planned.branch (a_scan s m) (all_member (IsLawfulScan defs) scans s
      planned.lawful m) indexable x in
      let own = law.0 (contained (rows_of defs e) (prefix ++ x) (subst (λ y. Member y (rows_of defs e)) is there)) in
      let w = map_member (place_of q.columns) (rows (scan_branch q s) (e ∷ [])) x
      (member_contained (map (place_of q.columns) (rows (scan_branch q s) (e ∷ []))) x own) in
      let mine = row_member (scan_branch q s) (e ∷ []) w.0 w.1.0 in
      let same : mine.entity ≡ e = only mine.entity e mine.there in
      let counts : is_found (scan_branch q s) e ≡ true = ap (is_found (scan_branch q s)) (sym same) ∙ mine.counts in
      let own_row : Member w.0 (entity_rows q.columns e) = subst (λ y. Member w.0 (entity_rows q.columns y)) same mine.row in
      let inside = ap (λ y. in_range (low_of q) (high_of q end) y) (sym w.1.1) ∙ two.1 in
      let r = row_of_part q defs s part planned.branch (a_scan s m) bound end planned.ends e w.0 indexable counts own_row inside in
      subst (λ y. Member y (map (λ (z : RowParts). prefix ++ place_of q.columns z) (rows (branch_of_part q part) (e ∷ []))))
      (sym (is ∙ ap (λ (y : List ℕ). prefix ++ y) w.1.1))
      (member_map (λ (z : RowParts). prefix ++ place_of q.columns z) (rows (branch_of_part q part) (e ∷ [])) w.0
      (member_row (branch_of_part q part) (e ∷ []) w.0 r.0))

  unseen_few : (s : PlannedScan) (part : Part) → Member s scans → binds q defs s part ≡ true → (e : EntityParts) → IsIndexable e
      → count_by (tests s) (rows_of defs e) ≤ length (rows (branch_of_part q part) (e ∷ []))
  unseen_few s part m bound e indexable =
      once_counted (tests s) (λ (r : RowParts). scan_prefix q defs s
      ++ place_of q.columns r) (rows_of defs e) (rows (branch_of_part q part) (e ∷ []))
      (rows_once defs e planned.tables.definitions indexable indexable.ascend) (unseen_row s part m bound e indexable)

  -- entity by entity
  filter_append : {A : Type 0} (p : A → Bool) (xs ys : List A) → filter p (xs ++ ys) ≡ filter p xs ++ filter p ys
  filter_append p [] ys = refl
  filter_append p (x ∷ xs) ys = by (p x) (filter_append p xs ys) where
    by : (b : Bool) → filter p (xs ++ ys) ≡ filter p xs ++ filter p ys
        → cond b (x ∷ filter p (xs ++ ys)) (filter p (xs ++ ys)) ≡ cond b (x ∷ filter p xs) (filter p xs) ++ filter p ys
    by true e = ap (λ zs. x ∷ zs) e
    by false e = e

  rows_split : (b : Branch) (e : EntityParts) (es : List EntityParts) → rows b (e ∷ es) ≡ rows b (e ∷ []) ++ rows b es
  rows_split b e es = by (is_found b e) where
    p : RowParts → Bool
    p row = in_values b.range (first_value row)

    by : (f : Bool) → filter p (flat_map (entity_rows b.columns) (cond f (e ∷ filter (is_found b) es) (filter (is_found b) es)))
        ≡ filter p (flat_map (entity_rows b.columns) (cond f (e ∷ []) [])) ++ rows b es
    by true =
        filter_append p (entity_rows b.columns e) (flat_map (entity_rows b.columns) (filter (is_found b) es))
        ∙ ap (λ ys. ys ++ rows b es) (sym (filter_append p (entity_rows b.columns e) [] ∙ append-nil (filter p (entity_rows b.columns e))))
    by false = refl

  count_append : {A : Type 0} (p : A → Bool) (xs ys : List A) → count_by p (xs ++ ys) ≡ count_by p xs + count_by p ys
  count_append p [] ys = omega arith
  count_append p (x ∷ xs) ys =
      let one = sum_by-cons (λ y. cond (p y) 1 0) x (xs ++ ys) in
      let two = sum_by-cons (λ y. cond (p y) 1 0) x xs in
      let more = count_append p xs ys in
      omega (arith, one, two, more)

  all_few : (s : PlannedScan) (part : Part) → Member s scans → binds q defs s part ≡ true → (vs : List Version)
      → ((v : Version) → Member v vs → IsIndexable v.entity)
      → count_by (tests s) (flat_map (λ (v : Version). rows_of defs v.entity) vs)
      ≤ length (rows (branch_of_part q part) (map (λ (v : Version). v.entity) vs))
  all_few s part m bound [] indexable = omega arith
  all_few s part m bound (v ∷ vs) indexable =
      let es = map (λ (w : Version). w.entity) vs in
      let one = unseen_few s part m bound v.entity (indexable v (inl refl)) in
      let more = all_few s part m bound vs (λ w n. indexable w (inr n)) in
      let split = count_append (tests s) (rows_of defs v.entity) (flat_map (λ (w : Version). rows_of defs w.entity) vs) in
      let b = branch_of_part q part in
      let long = ap length (rows_split b v.entity es) ∙ length-append (rows b (v.entity ∷ [])) (rows b es) in
      omega (arith, one, more, split, long)

  passed_few : (s : PlannedScan) (part : Part) → Member s scans → binds q defs s part ≡ true
      → count_between (bytes_of start) (bytes_of stop) (rests (range_of q defs end s) (rows_not_at defs stamp versions))
      ≤ length (rows (branch_of_part q part) (unseen_at stamp versions))
  passed_few s part m bound =
      let unseen = filter (λ (v : Version). not (is_seen stamp v)) versions in
      let moved = sum_by-IsPermutation (λ row. cond (tests s row) 1 0) (unseen_rows defs stamp versions) (rows_not_at defs stamp versions)
      (IsPermutation-sorted_by bytes_cmp (unseen_rows defs stamp versions)) in
      let counted = count-rests (range_of q defs end s) test (rows_not_at defs stamp versions) in
      let few = all_few s part m bound unseen (λ v n.
      all_member (λ (w : Version). IsIndexable w.entity) versions v planned.tables.indexable (filter_member (λ (w : Version). not
      (is_seen stamp w)) versions v n).0) in
      omega (arith, moved, counted, few)

  -- ---- scan by scan, each with its part

  abbrev strings_not : PlannedScan → List (List ℕ)
  strings_not s = rests (range_of q defs end s) (rows_not_at defs stamp versions)

  abbrev part_old : Part → ℕ
  part_old part = length (rows (branch_of_part q part) (unseen_at stamp versions))

  each_few : (ss : List PlannedScan) (given : List Part) → ((s : PlannedScan) → Member s ss → Member s scans) → BindEach q defs ss given
      → total_count (bytes_of start) (bytes_of stop) (map strings_not ss) ≤ sum_by part_old given
  each_few [] [] inside bound = omega arith
  each_few [] (p ∷ given) inside bound = absurd bound
  each_few (s ∷ ss) [] inside bound = absurd bound
  each_few (s ∷ ss) (p ∷ given) inside bound =
      let one = passed_few s p (inside s (inl refl)) bound.0 in
      let more = each_few ss given (λ t n. inside t (inr n)) bound.1 in
      let left = sum_by-cons (count_between (bytes_of start) (bytes_of stop)) (strings_not s) (map strings_not ss) in
      let right = sum_by-cons part_old p given in
      omega (arith, one, more, left, right)

  sum_append : (xs ys : List Part) → sum_by part_old (xs ++ ys) ≡ sum_by part_old xs + sum_by part_old ys
  sum_append [] ys = omega arith
  sum_append (x ∷ xs) ys =
      let one = sum_by-cons part_old x (xs ++ ys) in
      let two = sum_by-cons part_old x xs in
      let more = sum_append xs ys in
      omega (arith, one, two, more)

  pub passed_old : IsLean q defs scans → total_count (bytes_of start) (bytes_of stop) (map strings_not scans) ≤ old q stamp versions
  passed_old lean =
      let few = each_few scans lean.given (λ s m. m) lean.bound in
      let all = sum_by-IsPermutation part_old (lean.given ++ lean.others) (parts q) lean.each_once in
      let split = sum_append lean.given lean.others in
      omega (arith, few, all, split)

pub few_strings : ScansHaveFewStrings
few_strings q defs scans stamp versions start end stop planned =
    (strings_least q defs scans stamp versions start end stop planned, passed_old q defs scans stamp versions start end stop planned)
