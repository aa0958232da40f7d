-- The entities of the keys of a kind are those of the kind that all counted entries leave, by key.
use Rattle.std.proofs.Common.{◌≡◌, ℕ, Bool, true, false, ◌||◌, cond, List, [], ◌∷◌, ◌++◌, map, refl, ap, sym}
use Rattle.std.proofs.Common.{◌∙◌, subst, Option, Some, None}
use Rattle.std.specs.Prelude.{bytes_eq, flat_map, ⊤}
use Rattle.std.specs.BTreeMap.{BTreeMap, IsOrdered, is_at}
use Rattle.std.proofs.lemmas.List.Elements.{recursion_from_All}
use Rattle.std.proofs.lemmas.Map.Views.{All-found}
use Rattle.std.specs.Cmp.{IsTotalOrder, on_total}
use Rattle.std.specs.Cmp.Lexicographic.{bytes_decides}
use Rattle.std.specs.List.{AllByRecursion, list_any}
use Rattle.std.specs.List.Sorted.{IsStrictlySortedBy}
use Rattle.std.specs.Map.{lookup}
use Rattle.std.specs.Ordering.{is_eq, is_gt, ordering_reverse}
use Rattle.std.specs.declared.cmp.Ordering.{Ordering}
use Rattle.std.specs.declared.cmp.Ordering.TheVariants.{Less, Equal, Greater}
use Rattle.ds_base.specs.KeyOrder.{key_cmp, same_key}
use Rattle.ds_base.specs.KeyOrderLaws.{key_cmp-same, key_cmp-total}
use Rattle.ds_base.specs.Keys.{KeyParts}
use Rattle.ds_base.specs.SortingLaws.{Ascends, Ascends-sorted_by, sorted_by-filter}
use Rattle.ds_entity.specs.Entities.{EntityParts}
use Rattle.ds_entity.specs.EntityOrder.{entity_cmp, sorted_by_key}
use Rattle.ds_log.specs.declared.Commit.{Commit}
use Rattle.ds_log.specs.declared.Entry.{Entry}
use Rattle.ds_log.specs.Logs.{entry_writes}
use Rattle.ds_model.specs.ByKey.{KeysDiffer, NoneAt, shard_views}
use Rattle.ds_model.specs.Results.{entity_of}
use Rattle.ds_model.specs.Rows.{has_kind}
use Rattle.ds_model.specs.Views.{counted, global_view}
use Rattle.ds_model.specs.Worlds.{shard_lists}
use Rattle.ds_model.proofs.DistinctKeys.{AreFound, AreFound-all, KeysDiffer-after, KeysDiffer-filter, KeysDiffer-sorted}
use Rattle.ds_model.proofs.FoundByKey.{entity_of-sorted}
use Rattle.ds_model.proofs.GroupViews.{same_key-equal}
use Rattle.ds_model.proofs.ShardViews.{views_of_journal}
use Rattle.ds_rows.specs.IndexedValues.{kind_in, kind_of}
use Rattle.ds_history.specs.Versions.{Keys, Kinds, Versions, entries_in, items_in, keys_in, listed, of_kind, seen_at}
use Rattle.ds_history.specs.Versions.{seen_in, seen_of, versions_at, versions_in}
use Rattle.ds_history.specs.Versions.{versions_of}
use Rattle.ds_history.proofs.VersionLaws.{seen_versions}

apart : false ≡ true → ⊥
apart e = cc

-- ---- entities in the order of their keys

-- every entity of the list comes after k
abbrev AllAfter : KeyParts → List EntityParts → Type 0
AllAfter k = AllByRecursion (λ (e : EntityParts). key_cmp k e.key ≡ Less)

abbrev StrictlySorted : List EntityParts → Type 0
StrictlySorted [] = ⊤
StrictlySorted (e ∷ es) = AllAfter e.key es × StrictlySorted es

turned : (x y : KeyParts) (r : Ordering) → key_cmp x y ≡ r → same_key y x ≡ is_eq (ordering_reverse r)
turned x y r is = ap is_eq (key_cmp-total.antisymm y x ∙ ap ordering_reverse is)

strict : (es : List EntityParts) → Ascends entity_cmp es → KeysDiffer es → StrictlySorted es
strict [] up differ = tt
strict (e ∷ es) up differ = (all es up.0 differ.0, strict es up.1 differ.1) where
  all : (fs : List EntityParts) → AllByRecursion (λ (f : EntityParts). is_gt (entity_cmp e f) ≡ false) fs → NoneAt e.key fs
      → AllAfter e.key fs
  all [] low none = tt
  all (f ∷ fs) low none = (by (key_cmp e.key f.key) refl, all fs low.1 none.1) where
    by : (r : Ordering) → key_cmp e.key f.key ≡ r → r ≡ Less
    by Less is = refl
    by Equal is = absurd (apart (sym none.0 ∙ turned e.key f.key Equal is))
    by Greater is = absurd (apart (sym low.0 ∙ ap is_gt is))

none_after : (k : KeyParts) (es : List EntityParts) → AllAfter k es → entity_of es k ≡ None
none_after k [] after = refl
none_after k (e ∷ es) after =
    ap (λ b. cond b (Some e) (entity_of es k)) (turned k e.key Less after.0) ∙ none_after k es after.1

earlier : (k l : KeyParts) (es : List EntityParts) → key_cmp k l ≡ Less → AllAfter l es → AllAfter k es
earlier k l [] less after = tt
earlier k l (e ∷ es) less after = (key_cmp-total.trans k l e.key less after.0, earlier k l es less after.1)

-- ---- looked up key by key

-- the keys of the entities are among these
abbrev pub AreAmong : List KeyParts → List EntityParts → Type 0
AreAmong ks = AllByRecursion (λ (e : EntityParts). list_any (same_key e.key) ks ≡ true)

among_tail : (k : KeyParts) (ks : List KeyParts) (es : List EntityParts) → AllAfter k es → AreAmong (k ∷ ks) es → AreAmong ks es
among_tail k ks [] after among = tt
among_tail k ks (e ∷ es) after among = (
  ap (λ b. b || list_any (same_key e.key) ks) (sym (turned k e.key Less after.0)) ∙ among.0,
  among_tail k ks es after.1 among.1,
)

abbrev KeysAfter : KeyParts → List KeyParts → Type 0
KeysAfter k = AllByRecursion (λ l. key_cmp k l ≡ Less)

absent : (k l : KeyParts) (ks : List KeyParts) → key_cmp k l ≡ Less → KeysAfter l ks → list_any (same_key k) ks ≡ false
absent k l [] less after = refl
absent k l (m ∷ ks) less after =
    ap (λ b. b || list_any (same_key k) ks) (ap is_eq (key_cmp-total.trans k l m less after.0)) ∙ absent k l ks less after.1

-- the entities of these keys
abbrev pub looked_up : List EntityParts → List KeyParts → List EntityParts
looked_up es = flat_map (λ k. listed (entity_of es k))

passed : (e : EntityParts) (es : List EntityParts) (ks : List KeyParts) → KeysAfter e.key ks → looked_up (e ∷ es) ks ≡ looked_up es ks
passed e es [] after = refl
passed e es (k ∷ ks) after =
    ap (λ b. listed (cond b (Some e) (entity_of es k)) ++ looked_up (e ∷ es) ks) (ap is_eq after.0)
    ∙ ap (λ fs. listed (entity_of es k) ++ fs) (passed e es ks after.1)

-- ascending keys, among which are all those of the entities, give the entities in order
pub picked : (es : List EntityParts) (ks : List KeyParts) → StrictlySorted es → IsStrictlySortedBy key_cmp ks → AreAmong ks es
    → looked_up es ks ≡ es
unfolding IsStrictlySortedBy
picked [] [] sorted up among = refl
picked [] (k ∷ ks) sorted up among = picked [] ks tt up.1 tt
picked (e ∷ es) [] sorted up among = absurd (apart among.0)
picked (e ∷ es) (k ∷ ks) sorted up among =
    by (λ left. picked (e ∷ es) ks sorted up.1 left) (λ left. picked es ks sorted.1 up.1 left) (key_cmp k e.key) refl where
      by : (AreAmong ks (e ∷ es) → looked_up (e ∷ es) ks ≡ e ∷ es) → (AreAmong ks es → looked_up es ks ≡ es) → (r : Ordering)
          → key_cmp k e.key ≡ r → looked_up (e ∷ es) (k ∷ ks) ≡ e ∷ es
      by all rest Less is =
          let after : AllAfter k (e ∷ es) = (is, earlier k e.key es is sorted.0) in
          ap (λ o. listed o ++ looked_up (e ∷ es) ks) (none_after k (e ∷ es) after) ∙ all (among_tail k ks (e ∷ es) after among)
      by all rest Equal is =
          let same : k ≡ e.key = key_cmp-same k e.key is in
          ap (λ b. listed (cond b (Some e) (entity_of es k)) ++ looked_up (e ∷ es) ks) (turned k e.key Equal is)
          ∙ ap (λ fs. e ∷ fs)
          (passed e es ks (subst (λ l. KeysAfter l ks) same up.0)
          ∙ rest (among_tail k ks es (subst (λ l. AllAfter l es) (sym same) sorted.0) among.1))
      by all rest Greater is =
          let less : key_cmp e.key k ≡ Less = key_cmp-total.antisymm e.key k ∙ ap ordering_reverse is in
          absurd (apart (sym (ap (λ b. b || list_any (same_key e.key) ks) (ap is_eq less) ∙ absent e.key k ks less up.0) ∙ among.0))

-- ---- of a kind

pub found_kind : (kind : Option (List ℕ)) (es : List EntityParts) (k : KeyParts)
    → entity_of (of_kind kind es) k ≡ cond (has_kind kind k) (entity_of es k) None
found_kind kind [] k = by (has_kind kind k) where
  by : (b : Bool) → entity_of [] k ≡ cond b (entity_of [] k) None
  by true = refl
  by false = refl
found_kind kind (e ∷ es) k = by (found_kind kind es k) (has_kind kind e.key) refl (same_key e.key k) refl where
  by : entity_of (of_kind kind es) k ≡ cond (has_kind kind k) (entity_of es k) None → (b : Bool) → has_kind kind e.key ≡ b → (c : Bool)
      → same_key e.key k ≡ c
      → entity_of (cond b (e ∷ of_kind kind es) (of_kind kind es)) k ≡ cond (has_kind kind k) (cond c (Some e) (entity_of es k)) None
  by rest true own true same =
      ap (λ c. cond c (Some e) (entity_of (of_kind kind es) k)) same
      ∙ sym (ap (λ c. cond c (Some e) None) (sym (ap (has_kind kind) (same_key-equal e.key k same)) ∙ own))
  by rest true own false other = ap (λ c. cond c (Some e) (entity_of (of_kind kind es) k)) other ∙ rest
  by rest false own true same =
      rest ∙ ap (λ c. cond c (entity_of es k) None) (sym (ap (has_kind kind) (same_key-equal e.key k same)) ∙ own)
      ∙ sym (ap (λ c. cond c (Some e) None) (sym (ap (has_kind kind) (same_key-equal e.key k same)) ∙ own))
  by rest false own false other = rest

-- ---- the keys that are kept

key_listed : (keys : Keys) (k : KeyParts) (versions : Versions) → lookup (is_at (key_cmp k)) keys ≡ Some versions
    → list_any (same_key k) (map (λ (x : KeyParts × Versions). x.0) keys) ≡ true
key_listed [] k versions is = absurd (none is) where
  none : None ≡ Some versions → ⊥
  none e = cc
key_listed (x ∷ keys) k versions is = by (key_listed keys k versions) (same_key k x.0) is where
  by : (lookup (is_at (key_cmp k)) keys ≡ Some versions → list_any (same_key k) (map (λ (y : KeyParts × Versions). y.0) keys) ≡ true)
      → (b : Bool)
      → cond b (Some x.1) (lookup (is_at (key_cmp k)) keys) ≡ Some versions
      → (b || list_any (same_key k) (map (λ (y : KeyParts × Versions). y.0) keys)) ≡ true
  by rest true is = refl
  by rest false is = rest is

module _ (counts : List ℕ) (lists : List (List Entry)) (kinds : Kinds)
    (kept : (k : KeyParts) → versions_in kinds k ≡ versions_of k lists) where
  abbrev all : List EntityParts
  all = global_view lists counts

  all_differ : KeysDiffer all
  all_differ = KeysDiffer-after (entry_writes (counted lists counts))

  seen_key : (k : KeyParts) → seen_at counts (versions_in kinds k) ≡ entity_of all k
  seen_key k = ap (seen_at counts) (kept k) ∙ seen_versions counts k lists

  module _ (kind : List ℕ) (keys : Keys) (own : keys_in kinds kind ≡ keys) where
    abbrev these : List EntityParts
    these = of_kind (Some kind) all

    own_key : (k : KeyParts) → kind_in kind k ≡ true → seen_at counts (versions_at keys k) ≡ entity_of all k
    own_key k is =
        let same : kind ≡ kind_of k = (bytes_decides kind (kind_of k)).0 is in
        ap (λ xs. seen_at counts (versions_at xs k)) (sym own ∙ ap (keys_in kinds) same) ∙ seen_key k

    one_key : (x : KeyParts × Versions) → lookup (is_at (key_cmp x.0)) keys ≡ Some x.1
        → seen_of kind counts x ≡ entity_of these x.0
    one_key x is = by (kind_in kind x.0) refl ∙ sym (found_kind (Some kind) all x.0) where
      by : (b : Bool) → kind_in kind x.0 ≡ b → cond b (seen_at counts x.1.items) None ≡ cond (kind_in kind x.0) (entity_of all x.0) None
      by true here =
          ap (λ o. seen_at counts (items_in o)) (sym is) ∙ own_key x.0 here ∙ sym (ap (λ b. cond b (entity_of all x.0) None) here)
      by false other = sym (ap (λ b. cond b (entity_of all x.0) None) other)

    each_key : (xs : Keys) → AllByRecursion (λ x. lookup (is_at (key_cmp x.0)) keys ≡ Some x.1) xs
        → seen_in kind counts xs ≡ looked_up these (map (λ (x : KeyParts × Versions). x.0) xs)
    each_key [] are = refl
    each_key (x ∷ xs) are =
        ap (λ o. listed o ++ seen_in kind counts xs) (one_key x are.0)
        ∙ ap (λ es. listed (entity_of these x.0) ++ es) (each_key xs are.1)

    these_differ : KeysDiffer these
    these_differ = KeysDiffer-filter (λ (e : EntityParts). has_kind (Some kind) e.key) all all_differ

    kept_key : (e : EntityParts) → entity_of these e.key ≡ Some e
        → list_any (same_key e.key) (map (λ (x : KeyParts × Versions). x.0) keys) ≡ true
    kept_key e is = by (kind_in kind e.key) refl (sym (found_kind (Some kind) all e.key) ∙ is) where
      some : (o : Option Versions) → lookup (is_at (key_cmp e.key)) keys ≡ o → seen_at counts (items_in o) ≡ Some e
          → list_any (same_key e.key) (map (λ (x : KeyParts × Versions). x.0) keys) ≡ true
      some (Some versions) found seen = key_listed keys e.key versions found
      some None found seen = absurd (none seen) where
        none : None ≡ Some e → ⊥
        none it = cc

      by : (b : Bool) → kind_in kind e.key ≡ b → cond (kind_in kind e.key) (entity_of all e.key) None ≡ Some e
          → list_any (same_key e.key) (map (λ (x : KeyParts × Versions). x.0) keys) ≡ true
      by true here it =
          some (lookup (is_at (key_cmp e.key)) keys) refl
          (own_key e.key here ∙ sym (ap (λ b. cond b (entity_of all e.key) None) here) ∙ it)
      by false other it = absurd (none (sym (ap (λ b. cond b (entity_of all e.key) None) other) ∙ it)) where
        none : None ≡ Some e → ⊥
        none it = cc

    among : (es : List EntityParts) → AreFound these es → AreAmong (map (λ (x : KeyParts × Versions). x.0) keys) es
    among [] found = tt
    among (e ∷ es) found = (kept_key e found.0, among es found.1)

    -- the entities of the kind's keys, by key
    pub kind_seen : AllByRecursion (λ x. lookup (is_at (key_cmp x.0)) keys ≡ Some x.1) keys
        → IsStrictlySortedBy key_cmp (map (λ (x : KeyParts × Versions). x.0) keys)
        → seen_in kind counts keys ≡ of_kind (Some kind) (sorted_by_key all)
    kind_seen found up =
        let ks = map (λ (x : KeyParts × Versions). x.0) keys in
        let sorted : List EntityParts = sorted_by_key these in
        each_key keys found
        ∙ same ks
        ∙ picked sorted ks (strict sorted (Ascends-sorted_by entity_total these) (KeysDiffer-sorted these these_differ)) up
        (among sorted (found_sorted sorted (AreFound-all sorted (KeysDiffer-sorted these these_differ))))
        ∙ sorted_by-filter entity_total (λ (e : EntityParts). has_kind (Some kind) e.key) all where
          entity_total : IsTotalOrder entity_cmp
          entity_total = on_total (λ (e : EntityParts). e.key) key_cmp-total

          same : (ks : List KeyParts) → looked_up these ks ≡ looked_up (sorted_by_key these) ks
          same [] = refl
          same (k ∷ ks) =
              ap (λ o. listed o ++ looked_up these ks) (sym (entity_of-sorted these k these_differ))
              ∙ ap (λ es. listed (entity_of (sorted_by_key these) k) ++ es) (same ks)

          found_sorted : (es : List EntityParts) → AreFound (sorted_by_key these) es → AreFound these es
          found_sorted [] are = tt
          found_sorted (e ∷ es) are = (sym (entity_of-sorted these e.key these_differ) ∙ are.0, found_sorted es are.1)

-- ---- over a journal

module _ (journal : List Commit) (shards : ℕ) (counts : List ℕ) (kinds : Kinds) (kind : List ℕ)
    (kept : (k : KeyParts) → versions_in kinds k ≡ versions_of k (shard_lists shards journal)) where
  -- the entities of the keys that are kept of a kind are those of the kind at the counts, by key
  pub seen_there : (keys : BTreeMap KeyParts Versions) → Some keys ≡ lookup (bytes_eq kind) kinds → IsOrdered key_cmp keys
      → seen_in kind counts keys.entries ≡ of_kind (Some kind) (sorted_by_key (shard_views (shard_lists shards journal) counts))
  seen_there keys is up =
      kind_seen counts (shard_lists shards journal) kinds kept kind keys.entries (ap entries_in (sym is))
      (recursion_from_All (λ (x : KeyParts × Versions). lookup (is_at (key_cmp x.0)) keys.entries ≡ Some x.1) keys.entries
      (All-found key_cmp-total keys up)) up
      ∙ ap (of_kind (Some kind)) (sym (views_of_journal journal shards counts))

  -- and where none are kept there are none
  pub seen_nowhere : None ≡ lookup (bytes_eq kind) kinds
      → [] ≡ of_kind (Some kind) (sorted_by_key (shard_views (shard_lists shards journal) counts))
  unfolding IsStrictlySortedBy
  seen_nowhere is =
      kind_seen counts (shard_lists shards journal) kinds kept kind [] (ap entries_in (sym is)) tt tt
      ∙ ap (of_kind (Some kind)) (sym (views_of_journal journal shards counts))
