-- What a planned scan's index is: its columns are those that the scan is bound to and then the branch's.
use Rattle.std.proofs.Common.{◌≡◌, ℕ, zero, suc, ◌<◌, List, [], ◌∷◌, ◌++◌, length, get_or, Bool, true, false, ◌&&◌, ◌||◌, not, cond, refl}
use Rattle.std.proofs.Common.{sym, ap, ◌∙◌, arith, Option, Some, None, append_assoc}
use Rattle.std.specs.Prelude.{is_some, is_none, option_map, option_and_then, unwrap_or}
use Rattle.std.specs.List.{list_all, slice_get}
use Rattle.ds_base.specs.declared.column.Column.{Column}
use Rattle.ds_base.specs.Keys.{KeyParts}
use Rattle.ds_base.specs.KeyOrderLaws.{same_key-decides}
use Rattle.ds_indexdef.specs.declared.IndexDef.{IndexDef}
use Rattle.ds_query.specs.declared.branch.Pair.{Pair}
use Rattle.ds_query.specs.declared.branch.Branch.{Branch}
use Rattle.ds_base.specs.KeyColumn.{is_key_name, key_descends}
use Rattle.ds_query.specs.ColumnLists.{has_column}
use Rattle.ds_query.specs.Lawful.{ends_in_key, names_differ, has_pair, IsLawfulBranch}
use Rattle.ds_planner.specs.declared.planned.PlannedIndex.{PlannedIndex as Planned}
use Rattle.ds_planner.specs.declared.planned.PlannedIndex.TheVariants as planned
use Rattle.ds_planner.specs.declared.planned.PlannedScan.{PlannedScan}
use Rattle.ds_planner.specs.Indexes.{by_key, with_key, in_front_of, index_columns, defined_columns, is_usable, is_of_kind, leading}
use Rattle.ds_planner.specs.Indexes.{are_paired, is_paired, leads, names_column, has_flag, is_candidate}
use Rattle.ds_planner.specs.Suits.{chooses, properties_differ, same_ancestor, bound_ancestor, is_choice, is_scan}
use Rattle.ds_planner.proofs.Members.{Member, both, not_true, each_member}
use Rattle.ds_planner.proofs.PairLists.{chooses-member, same_name, has_pair-member}
use Rattle.ds_rows.specs.Indexes.{RowIndex, AllByKey, KindByKey, ByProperty, Composite, has_ancestor, last_key_descends}
use Rattle.ds_rows.specs.Indexes.{front_columns}
use Rattle.ds_rows.specs.Laws.{IsIndexOf}
use Rattle.ds_query.specs.RowValues.{value_columns}
use Rattle.ds_scan.specs.Prefixes.{index_in, columns_of}
use Rattle.ds_branch.proofs.Columns.{with_key-split, end_descends, end_column, whole_split, same_ends, values_in_front, key_at_end}
use Rattle.ds_branch.proofs.Columns.{front_is, first_not_key}

-- ---- the index

-- the branch is of the index's kind, and has none where the index is of all entities
abbrev pub SuitsKind : Option (List ℕ) → RowIndex → Type 0
SuitsKind kind AllByKey = kind ≡ None
SuitsKind kind KindByKey = is_some kind ≡ true
SuitsKind kind (ByProperty name descending) = is_some kind ≡ true
SuitsKind kind (Composite n d) = kind ≡ Some d.kind

-- the property of an index isn't the key
abbrev pub IsNamed : RowIndex → Type 0
IsNamed (ByProperty name descending) = is_key_name name ≡ false
IsNamed _ = Unit {0}

-- there is an ancestor where the index has a row for each
abbrev pub SuitsFlag : RowIndex → Option KeyParts → Type 0
SuitsFlag (Composite n d) ancestor = (not d.ancestor || is_some ancestor) ≡ true
SuitsFlag _ ancestor = Unit {0}

-- ---- what stands in front

-- a list of columns, and what it has in front of the branch's
record IsLed (last : List Column) (columns : Option (List Column)) (equal : List Pair) : Type 0 where
  full : List Column
  lead : List Column
  is : columns ≡ Some full
  front : in_front_of last full ≡ Some lead
  paired : list_all (λ c. has_pair equal c.name) lead ≡ true

led : (last : List Column) (columns : Option (List Column)) (equal : List Pair)
    → are_paired equal (option_and_then (in_front_of last) columns) ≡ true → IsLed last columns equal
led last None equal h = absurd (cc h)
led last (Some full) equal h = by (in_front_of last full) refl h where
  by : (o : Option (List Column)) → in_front_of last full ≡ o → are_paired equal o ≡ true → IsLed last (Some full) equal
  by None e h = absurd (cc h)
  by (Some lead) e h = record { full = full; lead = lead; is = refl; front = e; paired = h }

-- the index of the tables that is planned, and what its columns are
pub record IsFound (q : Branch) (defs : List IndexDef) (j : Planned) (equal : List Pair) : Type 0 where
  pub index : RowIndex
  pub is : index_in defs j ≡ Some index
  pub stands : IsIndexOf defs index
  pub kind : SuitsKind q.kind index
  pub named : IsNamed index
  pub flag : SuitsFlag index q.ancestor
  pub flagged : has_flag defs j ≡ has_ancestor index
  pub lead : List Column
  pub leading : leading q defs j ≡ Some lead
  pub columns : with_key (columns_of index) ≡ lead ++ q.columns
  pub paired : list_all (λ c. has_pair equal c.name) lead ≡ true

kept_some : {A : Type 0} (b : Bool) (x y : A) → cond b (Some x) None ≡ Some y → (b ≡ true) × (x ≡ y)
kept_some true x y e = (refl, cc e)
kept_some false x y e = absurd (cc e)

none_kind : (kind : Option (List ℕ)) → is_none kind ≡ true → kind ≡ None
none_kind None e = refl
none_kind (Some k) e = absurd (cc e)

some_kind : (kind : Option (List ℕ)) (name : List ℕ) → is_of_kind kind name ≡ true → kind ≡ Some name
some_kind None name e = absurd (cc e)
some_kind (Some k) name e = ap (λ n. Some n) (same_name k name e)

stands_at : (defs : List IndexDef) (n : ℕ) (d : IndexDef) → slice_get defs n ≡ Some d → (n < length defs) × (get_or defs n d ≡ d)
stands_at [] n d e = absurd (cc e)
stands_at (x ∷ defs) zero d e = (omega arith, cc e)
stands_at (x ∷ defs) (suc n) d e = let r = stands_at defs n d e in (omega (arith, r.0), r.1)

leading_is : (q : Branch) (defs : List IndexDef) (j : Planned) (full lead : List Column) → index_columns q defs j ≡ Some full
    → in_front_of q.columns full ≡ Some lead → leading q defs j ≡ Some lead
leading_is q defs j full lead is front = ap (λ o. option_and_then (in_front_of q.columns) o) is ∙ front

abbrev pub property_column : List ℕ → Bool → Column
property_column name descending = record { name = name; descending = descending }

-- what leads an index of a property is no `__key__`
name_free : (name : List ℕ) (descending : Bool) (columns lead : List Column) (equal : List Pair)
    → names_differ columns ≡ true → ends_in_key columns ≡ true → ((n : List ℕ) → has_pair equal n ≡ true → is_key_name n ≡ false)
    → list_all (λ c. has_pair equal c.name) lead ≡ true
    → property_column name descending ∷ by_key ≡ lead ++ columns → is_key_name name ≡ false
name_free name descending [] [] equal differ ends free paired e = absurd (cc ends)
name_free name descending (c ∷ []) [] equal differ ends free paired e = absurd (cc e)
name_free name descending (c ∷ d ∷ cs) [] equal differ ends free paired e =
    let same : property_column name descending ≡ c = cc e in
    ap (λ (x : Column). is_key_name x.name) same ∙ first_not_key c d cs differ ends
name_free name descending columns (c ∷ lead) equal differ ends free paired e =
    let same : property_column name descending ≡ c = cc e in
    ap (λ (x : Column). is_key_name x.name) same
    ∙ free c.name (both (has_pair equal c.name) (list_all (λ x. has_pair equal x.name) lead) paired).0

module _ (q : Branch) (defs : List IndexDef) (equal : List Pair) (differ : names_differ q.columns ≡ true)
    (ends : ends_in_key q.columns ≡ true) (free : (n : List ℕ) → has_pair equal n ≡ true → is_key_name n ≡ false) where
  pub found : (j : Planned) → is_paired q defs j equal ≡ true → IsFound q defs j equal
  found planned.AllByKey h =
      let l = led q.columns (index_columns q defs planned.AllByKey) equal h in
      let k = kept_some (is_none q.kind) by_key l.full l.is in
      record {
        index = AllByKey;
        is = refl;
        stands = tt;
        kind = none_kind q.kind k.0;
        named = tt;
        flag = tt;
        flagged = refl;
        lead = l.lead;
        leading = leading_is q defs planned.AllByKey l.full l.lead l.is l.front;
        columns = k.1 ∙ front_is q.columns l.full l.lead l.front;
        paired = l.paired;
      }
  found planned.KindByKey h =
      let l = led q.columns (index_columns q defs planned.KindByKey) equal h in
      let k = kept_some (is_some q.kind) by_key l.full l.is in
      record {
        index = KindByKey;
        is = refl;
        stands = tt;
        kind = k.0;
        named = tt;
        flag = tt;
        flagged = refl;
        lead = l.lead;
        leading = leading_is q defs planned.KindByKey l.full l.lead l.is l.front;
        columns = k.1 ∙ front_is q.columns l.full l.lead l.front;
        paired = l.paired;
      }
  found (planned.Property name descending) h =
      let j = planned.Property name descending in
      let own : List Column = property_column name descending ∷ by_key in
      let l = led q.columns (index_columns q defs j) equal h in
      let k = kept_some (is_some q.kind) own l.full l.is in
      let whole : own ≡ l.lead ++ q.columns = k.1 ∙ front_is q.columns l.full l.lead l.front in
      let other : is_key_name name ≡ false = name_free name descending q.columns l.lead equal differ ends free l.paired whole in
      record {
        index = ByProperty name descending;
        is = refl;
        stands = tt;
        kind = k.0;
        named = other;
        flag = tt;
        flagged = refl;
        lead = l.lead;
        leading = leading_is q defs j l.full l.lead l.is l.front;
        columns = ap (λ b. cond b (property_column name descending ∷ []) own) other ∙ whole;
        paired = l.paired;
      }
  found (planned.Composite position) h = defined (slice_get defs position) refl h where
    defined : (o : Option IndexDef) → slice_get defs position ≡ o
        → are_paired equal (option_and_then (in_front_of q.columns) (defined_columns q (slice_get defs position))) ≡ true
        → IsFound q defs (planned.Composite position) equal
    defined None e h = absurd (cc (sym (ap (λ o. are_paired equal (option_and_then (in_front_of q.columns) (defined_columns q o))) e) ∙ h))
    defined (Some d) e h =
        let l = led q.columns (defined_columns q (slice_get defs position)) equal h in
        let k = kept_some (is_usable q d) (with_key d.columns) l.full (sym (ap (defined_columns q) e) ∙ l.is) in
        let usable = both (is_of_kind q.kind d.kind) (not d.ancestor || is_some q.ancestor) k.0 in
        record {
          index = Composite position d;
          is = ap (λ o. option_map (Composite position) o) e;
          stands = stands_at defs position d e;
          kind = some_kind q.kind d.kind usable.0;
          named = tt;
          flag = usable.1;
          flagged = ap (λ o. unwrap_or (option_map (λ (x : IndexDef). x.ancestor) o) false) e;
          lead = l.lead;
          leading = leading_is q defs (planned.Composite position) l.full l.lead l.is l.front;
          columns = k.1 ∙ front_is q.columns l.full l.lead l.front;
          paired = l.paired;
        }

-- ---- a scan

-- what is known of a planned scan of a lawful branch
pub record IsBoundScan (q : Branch) (defs : List IndexDef) (s : PlannedScan) : Type 0 where
  pub found : IsFound q defs s.index s.equal
  pub inside : (p : Pair) → Member p s.equal → Member p q.equal
  pub leads : (p : Pair) → Member p s.equal → has_column found.lead p.property ≡ true
  pub differ : properties_differ s.equal ≡ true
  pub ancestor : s.ancestor ≡ cond (has_ancestor found.index) q.ancestor None

ancestors_same : (a b : Option KeyParts) → same_ancestor a b ≡ true → a ≡ b
ancestors_same None None e = refl
ancestors_same None (Some b) e = absurd (cc e)
ancestors_same (Some a) None e = absurd (cc e)
ancestors_same (Some a) (Some b) e = ap (λ k. Some k) ((same_key-decides a b).0 e)

-- no pair is on `__key__`
pub pair_free : (q : Branch) → IsLawfulBranch q → (equal : List Pair) → ((p : Pair) → Member p equal → Member p q.equal)
    → (n : List ℕ) → has_pair equal n ≡ true → is_key_name n ≡ false
pair_free q lawful equal inside n h =
    let p = has_pair-member equal n h in
    ap is_key_name p.1.1
    ∙ not_true (is_key_name p.0.property)
    (each_member (λ (x : Pair). not (is_key_name x.property)) q.equal p.0 lawful.no_key_pair (inside p.0 p.1.0))

names_lead : (o : Option (List Column)) (lead : List Column) (n : List ℕ) → o ≡ Some lead → names_column o n ≡ true → has_column lead n
    ≡ true
names_lead o lead n e h = sym (ap (λ x. names_column x n) e) ∙ h

pub bound_scan : (q : Branch) (defs : List IndexDef) (s : PlannedScan) → IsLawfulBranch q → is_scan q defs s ≡ true → IsBoundScan q defs s
bound_scan q defs s lawful h =
    let among = list_all (chooses q.equal) s.equal in
    let ledby = list_all (λ (p : Pair). leads q defs s.index p.property) s.equal in
    let x = both (is_candidate q defs s.index
    && is_choice q defs s.index s.equal) (same_ancestor s.ancestor (bound_ancestor q defs s.index)) h in
    let y = both (is_candidate q defs s.index) (is_choice q defs s.index s.equal) x.0 in
    let z = both (among && ledby && is_paired q defs s.index s.equal) (properties_differ s.equal) y.1 in
    let w = both (among && ledby) (is_paired q defs s.index s.equal) z.0 in
    let v = both among ledby w.0 in
    let inside : (p : Pair) → Member p s.equal → Member p q.equal =
    λ (p : Pair) (m : Member p s.equal). chooses-member q.equal p (each_member (chooses q.equal) s.equal p v.0 m) in
    let f = found q defs s.equal lawful.names_differ lawful.key_last (pair_free q lawful s.equal inside) s.index w.1 in
    record {
      found = f;
      inside = inside;
      leads = λ p m. names_lead (leading q defs s.index) f.lead p.property f.leading
          (each_member (λ (r : Pair). leads q defs s.index r.property) s.equal p v.1 m);
      differ = z.1;
      ancestor = ancestors_same s.ancestor (bound_ancestor q defs s.index) x.1 ∙ ap (λ b. cond b q.ancestor None) f.flagged;
    }

-- ---- columns

-- in front of the key an index has the columns to which the scan is bound and then the branch's
pub columns_are : (q : Branch) (defs : List IndexDef) (j : Planned) (equal : List Pair) → IsLawfulBranch q → (f : IsFound q defs j equal)
    → (front_columns (columns_of f.index) ≡ f.lead ++ value_columns q.columns)
    × (last_key_descends (columns_of f.index) ≡ key_descends q.columns)
columns_are q defs j equal lawful f =
    let cs = columns_of f.index in
    let whole : front_columns cs ++ end_column cs ∷ [] ≡ (f.lead ++ front_columns q.columns) ++ end_column q.columns ∷ [] =
    sym (with_key-split cs) ∙ f.columns ∙ ap (λ ks. f.lead ++ ks) (whole_split q.columns lawful.key_last)
    ∙ sym (append_assoc f.lead (front_columns q.columns) (end_column q.columns ∷ [])) in
    let same = same_ends (front_columns cs) (f.lead ++ front_columns q.columns) (end_column cs) (end_column q.columns) whole in (
      same.0 ∙ ap (λ ks. f.lead ++ ks) (sym (values_in_front q.columns lawful.names_differ lawful.key_last)),
      sym (end_descends cs) ∙ ap (λ (c : Column). c.descending) same.1 ∙ end_descends q.columns
          ∙ sym (key_at_end q.columns lawful.names_differ lawful.key_last),
    )
