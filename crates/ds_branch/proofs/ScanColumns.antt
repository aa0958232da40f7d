-- The columns to which a scan is bound: what an entity has in them, and the bytes of the scan's values.
use Rattle.std.proofs.Common.{◌≡◌, inl, inr, ℕ, List, [], ◌∷◌, ◌++◌, Bool, true, false, ◌&&◌, ◌||◌, not, cond, refl, sym, ap}
use Rattle.std.proofs.Common.{◌∙◌, subst, Some, None, map}
use Rattle.std.specs.Prelude.{bytes_eq, unwrap_or, All}
use Rattle.std.specs.List.{list_all}
use Rattle.std.proofs.lemmas.List.{map-append}
use Rattle.std.proofs.lemmas.List.Elements.{All-nil, All-cons}
use Rattle.ds_base.specs.declared.column.Column.{Column}
use Rattle.ds_base.specs.declared.index_value.IndexValue.{IndexValue}
use Rattle.ds_base.specs.declared.index_value.IndexValue.TheVariants.{Null}
use Rattle.ds_base.specs.declared.index_value.IndexValue.TheVariants as class
use Rattle.ds_entity.specs.Entities.{EntityParts}
use Rattle.ds_bytes.specs.Encoding.{encoding}
use Rattle.ds_bytes.specs.Lawful.{IsLawfulValue}
use Rattle.ds_bytes.specs.Rows.{columns_bytes}
use Rattle.ds_indexdef.specs.declared.IndexDef.{IndexDef}
use Rattle.ds_query.specs.declared.branch.Pair.{Pair}
use Rattle.ds_query.specs.declared.branch.Branch.{Branch}
use Rattle.ds_base.specs.KeyColumn.{is_key_name, key_name, key_descends}
use Rattle.ds_query.specs.ColumnLists.{ascending}
use Rattle.ds_query.specs.Lawful.{ends_in_key, has_pair, IsLawfulBranch}
use Rattle.ds_planner.specs.declared.planned.PlannedScan.{PlannedScan}
use Rattle.ds_planner.specs.Indexes.{by_key}
use Rattle.ds_planner.proofs.Members.{Member, both, each_member, all_members, filter_member, not_true, refuted, true_false}
use Rattle.ds_planner.proofs.Members.{member_append}
use Rattle.ds_planner.proofs.PairLists.{has_pair-member, member-has_pair, same_name}
use Rattle.ds_rows.specs.Indexes.{RowIndex, AllByKey, KindByKey, ByProperty, Composite, directions as index_directions}
use Rattle.ds_rows.specs.Indexes.{index_key_descends, last_key_descends, front_columns}
use Rattle.ds_rows.specs.IndexedValues.{indexed_values, column_values}
use Rattle.ds_rows.specs.Rows.{index_lists}
use Rattle.ds_query.specs.RowValues.{value_columns, asked_value}
use Rattle.ds_cursor.specs.RowsOfColumns.{directions}
use Rattle.ds_scan.specs.Prefixes.{columns_of, bound_or, bound_bytes}
use Rattle.ds_scan.specs.Scans.{AreLawfulBound, IsLawfulOr}
use Rattle.ds_branch.proofs.Columns.{with_key-split, end_column, same_ends}
use Rattle.ds_branch.proofs.ScanIndexes.{IsBoundScan, IsNamed, columns_are, pair_free}

-- ---- pairs

-- the value asked of a property; null where there is none
abbrev pub asked_or_null : List Pair → Column → IndexValue
asked_or_null pairs c = unwrap_or (asked_value pairs c.name) Null

abbrev pub pair_of : List ℕ → IndexValue → Pair
pair_of name v = record { property = name; value = v }

pub record IsAsked (pairs : List Pair) (name : List ℕ) : Type 0 where
  pub value : IndexValue
  pub is : asked_value pairs name ≡ Some value
  pub pair : Member (pair_of name value) pairs

pub asked_some : (pairs : List Pair) (name : List ℕ) → has_pair pairs name ≡ true → IsAsked pairs name
asked_some [] name h = absurd (cc h)
asked_some (p ∷ ps) name h = by (bytes_eq name p.property) refl h (asked_some ps name) where
  by : (b : Bool) → bytes_eq name p.property ≡ b → (b || has_pair ps name) ≡ true → (has_pair ps name ≡ true → IsAsked ps name)
      → IsAsked (p ∷ ps) name
  by true e h more = record {
    value = p.value;
    is = ap (λ b. cond b (Some p.value) (asked_value ps name)) e;
    pair = inl (ap (λ n. pair_of n p.value) (same_name name p.property e));
  }
  by false e h more =
      let r = more h in
      record { value = r.value; is = ap (λ b. cond b (Some p.value) (asked_value ps name)) e ∙ r.is; pair = inr r.pair }

pub asked_none : (pairs : List Pair) (name : List ℕ) → has_pair pairs name ≡ false → asked_value pairs name ≡ None
asked_none [] name h = refl
asked_none (p ∷ ps) name h = by (bytes_eq name p.property) h (asked_none ps name) where
  by : (b : Bool) → (b || has_pair ps name) ≡ false → (has_pair ps name ≡ false → asked_value ps name ≡ None)
      → cond b (Some p.value) (asked_value ps name) ≡ None
  by true h more = absurd (cc h)
  by false h more = more h

-- ---- the bytes of the scan's values

abbrev pub HasPairs : List Pair → List Column → Type 0
HasPairs pairs cs = list_all (λ c. has_pair pairs c.name) cs ≡ true

abbrev pub HasNoPairs : List Pair → List Column → Type 0
HasNoPairs pairs cs = list_all (λ c. not (has_pair pairs c.name)) cs ≡ true

pub bound_is : (pairs : List Pair) (lead rest : List Column) → HasPairs pairs lead → HasNoPairs pairs rest
    → bound_bytes pairs (lead ++ rest) ≡ columns_bytes (map (λ c. c.descending) lead) (map (asked_or_null pairs) lead)
bound_is pairs [] [] some none = refl
bound_is pairs [] (c ∷ rest) some none =
    let n : has_pair pairs c.name ≡ false =
    not_true (has_pair pairs c.name) (both (not (has_pair pairs c.name)) (list_all (λ c. not (has_pair pairs c.name)) rest) none).0 in
    ap (λ o. bound_or c.descending o (bound_bytes pairs rest)) (asked_none pairs c.name n)
bound_is pairs (c ∷ lead) rest some none =
    let s = both (has_pair pairs c.name) (list_all (λ c. has_pair pairs c.name) lead) some in
    let v = asked_some pairs c.name s.0 in
    ap (λ o. bound_or c.descending o (bound_bytes pairs (lead ++ rest))) v.is
    ∙ (λ i. encoding c.descending (unwrap_or (sym v.is i) Null) ++ bound_is pairs lead rest s.1 none i)

pub bound_lawful : (pairs : List Pair) (lead rest : List Column) → HasPairs pairs lead → AreLawfulBound pairs (lead ++ rest)
    → All IsLawfulValue (map (asked_or_null pairs) lead)
bound_lawful pairs [] rest some lawful = All-nil IsLawfulValue
bound_lawful pairs (c ∷ lead) rest some lawful =
    let s = both (has_pair pairs c.name) (list_all (λ c. has_pair pairs c.name) lead) some in
    let v = asked_some pairs c.name s.0 in
    let l = subst (λ o. IsLawfulOr o (AreLawfulBound pairs (lead ++ rest))) v.is lawful in
    All-cons IsLawfulValue (asked_or_null pairs c) (map (asked_or_null pairs) lead)
    (subst IsLawfulValue (sym (ap (λ o. unwrap_or o Null) v.is)) l.0) (bound_lawful pairs lead rest s.1 l.1)

-- ---- the columns of the index

-- behind the columns to which a scan is bound there are some to which it isn't
pub record HasRest (pairs : List Pair) (cs lead : List Column) : Type 0 where
  pub rest : List Column
  pub is : cs ≡ lead ++ rest
  pub none : HasNoPairs pairs rest

-- a scan has no pair on a column of the branch
pub no_pairs : (q : Branch) (defs : List IndexDef) (s : PlannedScan) → IsLawfulBranch q → IsBoundScan q defs s
    → HasNoPairs s.equal q.columns
no_pairs q defs s lawful b =
    all_members (λ (c : Column). not (has_pair s.equal c.name)) q.columns (λ c m.
    let n : has_pair q.equal c.name ≡ false =
    not_true (has_pair q.equal c.name) (each_member (λ (x : Column). not (has_pair q.equal x.name)) q.columns c lawful.apart m) in
    ap not (refuted (has_pair s.equal c.name) (λ h.
    let p = has_pair-member s.equal c.name h in
    true_false ⊥ (has_pair q.equal c.name)
    (ap (has_pair q.equal) p.1.1 ∙ member-has_pair q.equal p.0 (b.inside p.0 p.1.0)) n)))

fewer : (pairs : List Pair) (cs : List Column) → HasNoPairs pairs cs → HasNoPairs pairs (value_columns cs)
fewer pairs cs none =
    all_members (λ (c : Column). not (has_pair pairs c.name)) (value_columns cs) (λ c m.
    each_member (λ (x : Column). not (has_pair pairs x.name)) cs c none
    (filter_member (λ (x : Column). not (is_key_name x.name)) cs c m).0)

pub rest_is : (q : Branch) (defs : List IndexDef) (s : PlannedScan) → IsLawfulBranch q → (b : IsBoundScan q defs s)
    → HasRest s.equal (columns_of b.found.index) b.found.lead
rest_is q defs s lawful b = by (ends_in_key (columns_of b.found.index)) refl where
  none : HasNoPairs s.equal q.columns
  none = no_pairs q defs s lawful b

  by : (e : Bool) → ends_in_key (columns_of b.found.index) ≡ e → HasRest s.equal (columns_of b.found.index) b.found.lead
  by true e = record {
    rest = q.columns;
    is = sym (ap (λ d. cond d (columns_of b.found.index) (columns_of b.found.index ++ by_key)) e) ∙ b.found.columns;
    none = no_pairs q defs s lawful b;
  }
  by false e =
      let cs = columns_of b.found.index in
      let whole = sym (ap (λ d. cond d cs (cs ++ by_key)) e) ∙ with_key-split cs in
      let same = same_ends cs (front_columns cs) (ascending key_name) (end_column cs) whole in
      record {
        rest = value_columns q.columns;
        is = same.0 ∙ (columns_are q defs s.index s.equal lawful b.found).0;
        none = fewer s.equal q.columns (no_pairs q defs s lawful b);
      }

-- ---- what an entity has in the columns

abbrev pub values_in : EntityParts → Column → List IndexValue
values_in e c = indexed_values e c.name

abbrev AreNotKeys : List Column → Type 0
AreNotKeys cs = list_all (λ c. not (is_key_name c.name)) cs ≡ true

plain_values : (e : EntityParts) (cs : List Column) → AreNotKeys cs → map (λ c. column_values e c.name) cs ≡ map (values_in e) cs
plain_values e [] h = refl
plain_values e (c ∷ cs) h =
    let s = both (not (is_key_name c.name)) (list_all (λ c. not (is_key_name c.name)) cs) h in
    λ i. cond (not_true (is_key_name c.name) s.0 i) (class.Key e.key ∷ []) (values_in e c)
    ∷ plain_values e cs s.1 i

lists_in_front : (e : EntityParts) (i : RowIndex) → IsNamed i → index_lists e i
    ≡ map (λ c. column_values e c.name) (front_columns (columns_of i))
lists_in_front e AllByKey n = refl
lists_in_front e KindByKey n = refl
lists_in_front e (ByProperty name d) n =
    (λ i. cond (sym n i) [] (cond (sym n i) (class.Key e.key ∷ []) (indexed_values e name) ∷ []))
    ∙ by (is_key_name name) where
      by : (b : Bool) → cond b [] (column_values e name ∷ [])
          ≡ map (λ (c : Column). column_values e c.name) (cond b [] (record { name = name; descending = d } ∷ []))
      by true = refl
      by false = refl
lists_in_front e (Composite k d) n = refl

directions_in_front : (i : RowIndex) → IsNamed i → index_directions i ≡ map (λ c. c.descending) (front_columns (columns_of i))
directions_in_front AllByKey n = refl
directions_in_front KindByKey n = refl
directions_in_front (ByProperty name d) n =
    (λ i. cond (sym n i) [] (d ∷ [])) ∙ by (is_key_name name) where
      by : (b : Bool) → cond b [] (d ∷ []) ≡ map (λ (c : Column). c.descending) (cond b [] (record { name = name; descending = d } ∷ []))
      by true = refl
      by false = refl
directions_in_front (Composite k d) n = refl

key_in_front : (i : RowIndex) → IsNamed i → index_key_descends i ≡ last_key_descends (columns_of i)
key_in_front AllByKey n = refl
key_in_front KindByKey n = refl
key_in_front (ByProperty name d) n = λ i. sym n i && d
key_in_front (Composite k d) n = refl

not_keys : (q : Branch) (defs : List IndexDef) (s : PlannedScan) → IsLawfulBranch q → (b : IsBoundScan q defs s)
    → AreNotKeys (b.found.lead ++ value_columns q.columns)
not_keys q defs s lawful b =
    all_members (λ (c : Column). not (is_key_name c.name)) (b.found.lead ++ value_columns q.columns) (λ c m.
    elim (member_append b.found.lead (value_columns q.columns) c m) [
      | inl h ↦ ap not (pair_free q lawful s.equal b.inside c.name (each_member (λ (x : Column). has_pair s.equal x.name) b.found.lead c
          b.found.paired h))
      | inr h ↦ (filter_member (λ (x : Column). not (is_key_name x.name)) q.columns c h).1
    ])

-- what the index holds of an entity, and the directions of its columns
pub record AreIndexColumns (q : Branch) (i : RowIndex) (lead : List Column) : Type 0 where
  pub lists : (e : EntityParts) → index_lists e i ≡ map (values_in e) lead ++ map (values_in e) (value_columns q.columns)
  pub directions : index_directions i ≡ map (λ c. c.descending) lead ++ directions q.columns
  pub key : index_key_descends i ≡ key_descends q.columns

pub index_columns_are : (q : Branch) (defs : List IndexDef) (s : PlannedScan) → IsLawfulBranch q → (b : IsBoundScan q defs s)
    → AreIndexColumns q b.found.index b.found.lead
index_columns_are q defs s lawful b =
    let i = b.found.index in
    let lead = b.found.lead in
    let columns = columns_are q defs s.index s.equal lawful b.found in
    record {
      lists = λ e. lists_in_front e i b.found.named ∙ ap (map (λ (c : Column). column_values e c.name)) columns.0
          ∙ plain_values e (lead ++ value_columns q.columns) (not_keys q defs s lawful b)
          ∙ map-append (values_in e) lead (value_columns q.columns);
      directions = directions_in_front i b.found.named ∙ ap (map (λ (c : Column). c.descending)) columns.0
          ∙ map-append (λ (c : Column). c.descending) lead (value_columns q.columns);
      key = key_in_front i b.found.named ∙ columns.1;
    }
