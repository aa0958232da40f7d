-- The rows of entities are bytes.
use Rattle.std.proofs.Common.{◌≡◌, inl, inr, ℕ, ◌%◌, ◌/◌, ◌^◌, ◌<◌, List, [], ◌∷◌, ◌++◌, Bool, true, false, sym}
use Rattle.std.proofs.Common.{subst, Option, Some, None, arith}
use Rattle.std.specs.Prelude.{All, flat_map, filter, not}
use Rattle.std.specs.List.{enumerate_from}
use Rattle.std.proofs.lemmas.Nat.{mod_below}
use Rattle.std.proofs.lemmas.List.Elements.{All-nil, All-cons, All-append, All-head, All-tail}
use Rattle.std.proofs.lemmas.List.Sorted.{All-permutation}
use Rattle.ds_lanes.specs.Kernels.{complement}
use Rattle.ds_base.specs.declared.key.Elem.{Elem}
use Rattle.ds_entity.specs.declared.entity.Property.{Property}
use Rattle.ds_base.specs.declared.index_value.IndexValue.{IndexValue}
use Rattle.ds_base.specs.Keys.{KeyParts}
use Rattle.ds_base.specs.KeyOrder.{bytes_cmp}
use Rattle.ds_entity.specs.Entities.{EntityParts}
use Rattle.ds_base.specs.SortingLaws.{IsPermutation-sorted_by}
use Rattle.ds_indexdef.specs.declared.IndexDef.{IndexDef}
use Rattle.ds_bytes.specs.Encoding.{escaped, encoding, key_bytes, key_encoding, value_bytes}
use Rattle.ds_bytes.specs.Lawful.{IsElemOfBytes, IsKeyOfBytes, IsValueOfBytes}
use Rattle.ds_base.specs.Bytes.{AreBytes}
use Rattle.ds_bytes.specs.ByteLaws.{escaped-AreBytes, key_bytes-AreBytes, value_bytes-AreBytes}
use Rattle.ds_bytes.specs.Rows.{columns_bytes}
use Rattle.ds_planner.proofs.Members.{Member, member_append, map_member, filter_member}
use Rattle.ds_rows.specs.IndexedValues.{last_kind, kind_of, kind_in}
use Rattle.ds_rows.specs.Indexes.{RowIndex, AllByKey, KindByKey, ByProperty, Composite, indexes_of, property_indexes, composite_indexes}
use Rattle.ds_rows.specs.Indexes.{has_ancestor, directions, index_key_descends}
use Rattle.ds_rows.specs.Rows.{IndexRow, four_bytes, index_front, ancestor_bytes, index_row_bytes, index_rows, rows_in, rows_of}
use Rattle.ds_rows.specs.Laws.{IsIndexOf, SuitsAncestor}
use Rattle.ds_rows.specs.OwnRowLaws.{each_flat, each_map, own_rows, own_indexes, IsOwn}
use Rattle.ds_rows.specs.Indexable.{IsIndexable}
use Rattle.ds_rows.specs.Versions.{Version, is_seen, unseen_rows}
use Rattle.ds_scan.specs.Stamped.{rows_not_at}
use Rattle.ds_scan.proofs.MemberLists.{all_from, all_member, flat_map_member}

joined : (s t : List ℕ) → AreBytes s → AreBytes t → AreBytes (s ++ t)
joined s t p q = All-append (λ b. b < 256) s t p q

one : (b : ℕ) (bs : List ℕ) → b < 256 → AreBytes bs → AreBytes (b ∷ bs)
one b bs p q = All-cons (λ b. b < 256) b bs p q

-- ---- parts of a row

turned : (bs : List ℕ) → AreBytes (complement bs)
turned [] = All-nil (λ b. b < 256)
turned (b ∷ bs) = one _ (complement bs) (omega arith) (turned bs)

encoding_bytes : (d : Bool) (v : IndexValue) → IsValueOfBytes v → AreBytes (encoding d v)
encoding_bytes false v p = value_bytes-AreBytes v p
encoding_bytes true v p = turned (value_bytes v)

key_encoding_bytes : (d : Bool) (k : KeyParts) → IsKeyOfBytes k → AreBytes (key_encoding d k)
key_encoding_bytes false k p = key_bytes-AreBytes k p
key_encoding_bytes true k p = turned (key_bytes k)

values_bytes : (ds : List Bool) (vs : List IndexValue) → All IsValueOfBytes vs → AreBytes (columns_bytes ds vs)
values_bytes [] vs p = All-nil (λ b. b < 256)
values_bytes (d ∷ ds) [] p = All-nil (λ b. b < 256)
values_bytes (d ∷ ds) (v ∷ vs) p =
    joined (encoding d v) (columns_bytes ds vs) (encoding_bytes d v (All-head IsValueOfBytes v vs p)) (values_bytes ds vs (All-tail
    IsValueOfBytes v vs p))

kind_bytes : (es : List Elem) → All IsElemOfBytes es → AreBytes (last_kind es)
kind_bytes [] p = All-nil (λ b. b < 256)
kind_bytes (e ∷ []) p = (All-head IsElemOfBytes e [] p).kind
kind_bytes (e ∷ f ∷ es) p = kind_bytes (f ∷ es) (All-tail IsElemOfBytes e (f ∷ es) p)

low : (n : ℕ) (bs : List ℕ) → AreBytes bs → AreBytes (n % 256 ∷ bs)
low n bs p = one (n % 256) bs (mod_below n 256 (omega arith)) p

-- the property of an index has a name of bytes
abbrev IsNameOfBytes : RowIndex → Type 0
IsNameOfBytes (ByProperty name d) = AreBytes name
IsNameOfBytes _ = Unit {0}

front_bytes : (i : RowIndex) (namespace kind : List ℕ) → IsNameOfBytes i → AreBytes namespace → AreBytes kind
    → AreBytes (index_front i namespace kind)
front_bytes AllByKey n k p q r = one 0 (escaped n) (omega arith) (escaped-AreBytes n q)
front_bytes KindByKey n k p q r =
    one 1 (escaped n ++ escaped k) (omega arith) (joined (escaped n) (escaped k) (escaped-AreBytes n q) (escaped-AreBytes k r))
front_bytes (ByProperty name false) n k p q r =
    one 2 (escaped n ++ (escaped k ++ escaped name)) (omega arith)
    (joined (escaped n) (escaped k ++ escaped name) (escaped-AreBytes n q)
    (joined (escaped k) (escaped name) (escaped-AreBytes k r) (escaped-AreBytes name p)))
front_bytes (ByProperty name true) n k p q r =
    one 3 (escaped n ++ (escaped k ++ escaped name)) (omega arith)
    (joined (escaped n) (escaped k ++ escaped name) (escaped-AreBytes n q)
    (joined (escaped k) (escaped name) (escaped-AreBytes k r) (escaped-AreBytes name p)))
front_bytes (Composite m d) n k p q r =
    one 4 (escaped n ++ four_bytes m) (omega arith) (joined (escaped n) (four_bytes m) (escaped-AreBytes n q)
    (low (m / 2 ^ 24) (m / 2 ^ 16 % 256 ∷ m / 2 ^ 8 % 256 ∷ m % 256 ∷ []) (low (m / 2 ^ 16) (m / 2 ^ 8 % 256 ∷ m % 256 ∷ [])
    (low (m / 2 ^ 8) (m % 256 ∷ []) (low m [] (All-nil (λ b. b < 256)))))))

ancestors_bytes : (flag : Bool) (a : Option KeyParts) → SuitsAncestor flag a → AreBytes (ancestor_bytes a)
ancestors_bytes flag None p = All-nil (λ b. b < 256)
ancestors_bytes true (Some a) p = key_bytes-AreBytes a p
ancestors_bytes false (Some a) p = absurd p

-- ---- rows

names_of_bytes : (defs : List IndexDef) (e : EntityParts) → IsIndexable e → (i : RowIndex) → Member i (indexes_of defs e) → IsNameOfBytes i
names_of_bytes defs e p AllByKey m = tt
names_of_bytes defs e p KindByKey m = tt
names_of_bytes defs e p (Composite n d) m = tt
names_of_bytes defs e p (ByProperty name d) (inl h) = absurd (cc h)
names_of_bytes defs e p (ByProperty name d) (inr (inl h)) = absurd (cc h)
names_of_bytes defs e p (ByProperty name d) (inr (inr m)) =
    elim (member_append (flat_map property_indexes e.properties) (composite_indexes defs e) (ByProperty name d) m) [
      | inl h ↦
          let w = flat_map_member property_indexes e.properties (ByProperty name d) h in
          subst AreBytes (sym (name_is w.0 w.1.1)) (all_member (λ (x : Property). AreBytes x.name) e.properties w.0 p.names w.1.0)
      | inr h ↦
          let c = map_member (λ (placed : ℕ × IndexDef). Composite placed.0 placed.1)
          (filter (λ (placed : ℕ × IndexDef). kind_in placed.1.kind e.key) (enumerate_from 0 defs)) (ByProperty name d) h in
          absurd (apart c.0.0 c.0.1 c.1.1)
    ] where
      same_name : (a b : List ℕ) (x y : Bool) → ByProperty a x ≡ ByProperty b y → a ≡ b
      same_name a b x y h = cc h

      name_is : (x : Property) → Member (ByProperty name d) (property_indexes x) → name ≡ x.name
      name_is x (inl h) = same_name name x.name d false h
      name_is x (inr (inl h)) = same_name name x.name d true h
      name_is x (inr (inr h)) = absurd h

      apart : (n : ℕ) (x : IndexDef) → ByProperty name d ≡ Composite n x → ⊥
      apart n x h = cc h

row_bytes : (defs : List IndexDef) (e : EntityParts) (i : RowIndex) (r : IndexRow) → IsIndexable e → IsNameOfBytes i → IsOwn defs e i r
    → AreBytes (index_row_bytes i r)
row_bytes defs e i r p named own =
    let is = own.0 in
    let key = is.parts.key in
    joined (index_front i r.parts.key.namespace (kind_of r.parts.key)) _
    (front_bytes i r.parts.key.namespace (kind_of r.parts.key) named key.namespace (kind_bytes r.parts.key.elems key.elems))
    (joined (ancestor_bytes r.ancestor) _ (ancestors_bytes (has_ancestor i) r.ancestor is.ancestor)
    (joined (columns_bytes (directions i) r.parts.values) (key_encoding (index_key_descends i) r.parts.key)
    (values_bytes (directions i) r.parts.values is.parts.values) (key_encoding_bytes (index_key_descends i) r.parts.key key)))

pub rows_bytes : (defs : List IndexDef) (e : EntityParts) → IsIndexable e → All AreBytes (rows_of defs e)
rows_bytes defs e p =
    each_flat AreBytes (rows_in e) (indexes_of defs e)
    (all_from (λ i. All AreBytes (rows_in e i)) (indexes_of defs e) (λ i m.
    each_map AreBytes (index_row_bytes i) (index_rows e i)
    (all_from (λ r. AreBytes (index_row_bytes i r)) (index_rows e i) (λ r n.
    row_bytes defs e i r p (names_of_bytes defs e p i m)
    (all_member (IsOwn defs e i) (index_rows e i) r (own_rows defs e i p (all_member (IsIndexOf defs) (indexes_of defs e) i (own_indexes
    defs e) m)) n)))))

pub passed_are_bytes : (defs : List IndexDef) (stamp : ℕ) (versions : List Version) → All (λ (v : Version). IsIndexable v.entity) versions
    → All AreBytes (rows_not_at defs stamp versions)
passed_are_bytes defs stamp versions all =
    All-permutation AreBytes (unseen_rows defs stamp versions) (rows_not_at defs stamp versions)
    (IsPermutation-sorted_by bytes_cmp (unseen_rows defs stamp versions))
    (each_flat AreBytes (λ (v : Version). rows_of defs v.entity) (filter (λ v. not (is_seen stamp v)) versions)
    (all_from (λ (v : Version). All AreBytes (rows_of defs v.entity)) (filter (λ v. not (is_seen stamp v)) versions) (λ v m.
    rows_bytes defs v.entity (all_member (λ (x : Version). IsIndexable x.entity) versions v all
    (filter_member (λ (x : Version). not (is_seen stamp x)) versions v m).0))))
