-- The entities of all shards are those of the global view: shards have no entity group in common, so what the writes of all shards
-- leave is what those of each shard leave, side by side.
use Rattle.std.proofs.Common.{◌≡◌, ℕ, zero, suc, ◌+◌, ◌<◌, ◌≤◌, List, [], ◌∷◌, ◌++◌, take, map, fold, refl, ap, sym, ◌∙◌, subst}
use Rattle.std.proofs.Common.{Bool, true, false, cond, not}
use Rattle.std.proofs.Common.{append_assoc, append-nil, Some, arith}
use Rattle.std.specs.Prelude.{filter, flat_map, ◌==◌, ⊤}
use Rattle.std.specs.List.{AllByRecursion, range_with_len}
use Rattle.std.specs.declared.cmp.Ordering.TheVariants.{Equal}
use Rattle.std.proofs.lemmas.Bool.{eqb-true}
use Rattle.std.proofs.lemmas.Grind.{flat_map-append}
use Rattle.std.proofs.lemmas.List.Sums.{fold-append}
use Rattle.ds_base.specs.Keys.{KeyParts, root_of}
use Rattle.ds_base.specs.KeyOrder.{same_key}
use Rattle.ds_base.specs.KeyOrderLaws.{key_cmp-total, key_cmp-same}
use Rattle.ds_entity.specs.Entities.{EntityParts}
use Rattle.ds_base.specs.Sorting.{insert_by}
use Rattle.std.specs.Cmp.{on_total, IsTotalOrder}
use Rattle.ds_log.specs.declared.Commit.{Commit}
use Rattle.ds_log.specs.declared.Entry.{Entry}
use Rattle.ds_log.specs.declared.Write.{Write}
use Rattle.ds_log.specs.declared.Write.TheVariants.{Put, Delete}
use Rattle.ds_log.specs.After.{after, apply_write, without}
use Rattle.ds_log.specs.Logs.{key_of, group_of, groups_of, group_writes, commit_entries, entries_from, entry_writes, shard_list}
use Rattle.ds_log.specs.Shards.{shard_of}
use Rattle.ds_base.specs.declared.column.Column.{Column}
use Rattle.ds_bytes.specs.Rows.{RowParts}
use Rattle.ds_query.specs.declared.branch.Normal.{Normal}
use Rattle.ds_query.specs.declared.branch.Window.{Window}
use Rattle.ds_query.specs.declared.query.Select.{Select}
use Rattle.ds_model.specs.Results.{entity_of, result, items_of}
use Rattle.ds_model.specs.Views.{counted, global_view}
use Rattle.ds_model.specs.Worlds.{shard_lists}
use Rattle.ds_model.proofs.GroupViews.{same_key-equal}
use Rattle.ds_model.specs.ByKey.{entity_cmp, sorted_by_key, KeysDiffer, NoneAt, shard_views}
use Rattle.ds_model.proofs.AllOf.{all-append, all-filter, all-sorted}
use Rattle.ds_model.proofs.DistinctKeys.{AreFound, AreFound-all, KeysDiffer-after, KeysDiffer-sorted}
use Rattle.ds_model.proofs.ResultOrder.{result_sorted, items_sorted}
use Rattle.ds_model.proofs.SameOrder.{put-sorted}

-- ---- writes to one shard

module _ (shards : ℕ) where
  -- the key is one of a group of this shard
  abbrev InShard : ℕ → KeyParts → Type 0
  InShard shard k = shard_of (root_of k) shards ≡ shard

  abbrev WritesIn : ℕ → List Write → Type 0
  WritesIn shard = AllByRecursion (λ w. InShard shard (key_of w))

  abbrev EntitiesIn : ℕ → List EntityParts → Type 0
  EntitiesIn shard = AllByRecursion (λ (e : EntityParts). InShard shard e.key)

  -- the entities are in shards before this one
  abbrev Before : ℕ → List EntityParts → Type 0
  Before shard = AllByRecursion (λ (e : EntityParts). shard_of (root_of e.key) shards < shard)

  written_in : (shard : ℕ) (es : List EntityParts) (w : Write) → InShard shard (key_of w) → EntitiesIn shard es
      → EntitiesIn shard (apply_write es w)
  written_in shard es (Put e) own p =
      all-append (λ (x : EntityParts). InShard shard x.key) (without e.key es) (e ∷ [])
      (all-filter (λ (x : EntityParts). InShard shard x.key) (λ x. not (same_key x.key e.key)) es p) (own, tt)
  written_in shard es (Delete k) own p = all-filter (λ (x : EntityParts). InShard shard x.key) (λ x. not (same_key x.key k)) es p

  all_written_in : (shard : ℕ) (es : List EntityParts) (ws : List Write) → WritesIn shard ws → EntitiesIn shard es
      → EntitiesIn shard (fold apply_write es ws)
  all_written_in shard es [] own p = p
  all_written_in shard es (w ∷ ws) own p = all_written_in shard (apply_write es w) ws own.1 (written_in shard es w own.0 p)

  -- ---- side by side

  apart : false ≡ true → ⊥
  apart e = cc

  other_key : (shard : ℕ) (e : EntityParts) (k : KeyParts) → shard_of (root_of e.key) shards < shard → InShard shard k
      → same_key e.key k ≡ false
  other_key shard e k before own = by (same_key e.key k) refl where
    by : (b : Bool) → same_key e.key k ≡ b → b ≡ false
    by true same =
        let is : shard_of (root_of e.key) shards ≡ shard =
        ap (λ (l : KeyParts). shard_of (root_of l) shards) (same_key-equal e.key k same) ∙ own in
        absurd (omega (arith, before, is))
    by false other = refl

  without_beside : (shard : ℕ) (es fs : List EntityParts) (k : KeyParts) → Before shard es → InShard shard k
      → without k (es ++ fs) ≡ es ++ without k fs
  without_beside shard [] fs k before own = refl
  without_beside shard (e ∷ es) fs k before own =
      ap (λ b. cond (not b) (e ∷ without k (es ++ fs)) (without k (es ++ fs))) (other_key shard e k before.0 own)
      ∙ ap (λ gs. e ∷ gs) (without_beside shard es fs k before.1 own)

  write_beside : (shard : ℕ) (es fs : List EntityParts) (w : Write) → Before shard es → InShard shard (key_of w)
      → apply_write (es ++ fs) w ≡ es ++ apply_write fs w
  write_beside shard es fs (Put e) before own =
      ap (λ gs. gs ++ e ∷ []) (without_beside shard es fs e.key before own) ∙ append_assoc es (without e.key fs) (e ∷ [])
  write_beside shard es fs (Delete k) before own = without_beside shard es fs k before own

  writes_beside : (shard : ℕ) (es fs : List EntityParts) (ws : List Write) → Before shard es → WritesIn shard ws
      → fold apply_write (es ++ fs) ws ≡ es ++ fold apply_write fs ws
  writes_beside shard es fs [] before own = refl
  writes_beside shard es fs (w ∷ ws) before own =
      ap (λ gs. fold apply_write gs ws) (write_beside shard es fs w before own.0)
      ∙ writes_beside shard es (apply_write fs w) ws before own.1

  in_before : (shard : ℕ) (es : List EntityParts) → EntitiesIn shard es → Before (shard + 1) es
  in_before shard [] p = tt
  in_before shard (e ∷ es) p = (let own = p.0 in omega (arith, own), in_before shard es p.1)

  later_before : (shard : ℕ) (es : List EntityParts) → Before shard es → Before (shard + 1) es
  later_before shard [] p = tt
  later_before shard (e ∷ es) p = (let own = p.0 in omega (arith, own), later_before shard es p.1)

  -- ---- the entries of a shard

  own_writes : (g : KeyParts) (ws : List Write) → WritesIn (shard_of g shards) (group_writes g ws)
  own_writes g [] = tt
  own_writes g (w ∷ ws) = by (own_writes g ws) (same_key (group_of w) g) refl where
    by : WritesIn (shard_of g shards) (group_writes g ws) → (b : Bool) → same_key (group_of w) g ≡ b
        → WritesIn (shard_of g shards) (cond b (w ∷ group_writes g ws) (group_writes g ws))
    by rest true same = (ap (λ h. shard_of h shards) (same_key-equal (group_of w) g same), rest)
    by rest false other = rest

  -- each write of the entry is to its group, which is one of the shard
  abbrev IsOwn : ℕ → Entry → Type 0
  IsOwn shard e = WritesIn shard e.writes

  own_entry : (n : ℕ) (ws : List Write) (gs : List KeyParts)
      → AllByRecursion (λ (e : Entry). IsOwn (shard_of e.group shards) e)
      (map (λ g. record { commit = n; group = g; writes = group_writes g ws }) gs)
  own_entry n ws [] = tt
  own_entry n ws (g ∷ gs) = (own_writes g ws, own_entry n ws gs)

  all_own : (n : ℕ) (cs : List Commit) → AllByRecursion (λ (e : Entry). IsOwn (shard_of e.group shards) e) (entries_from n cs)
  all_own n [] = tt
  all_own n (c ∷ cs) =
      all-append (λ (e : Entry). IsOwn (shard_of e.group shards) e) (commit_entries n c) (entries_from (n + 1) cs)
      (own_entry n c.writes (groups_of c.writes)) (all_own (n + 1) cs)

  own_filtered : (shard : ℕ) (es : List Entry) → AllByRecursion (λ (e : Entry). IsOwn (shard_of e.group shards) e) es
      → AllByRecursion (IsOwn shard) (filter (λ (e : Entry). shard_of e.group shards == shard) es)
  own_filtered shard [] p = tt
  own_filtered shard (e ∷ es) p = by (own_filtered shard es p.1) (shard_of e.group shards == shard) refl where
    by : AllByRecursion (IsOwn shard) (filter (λ (f : Entry). shard_of f.group shards == shard) es) → (b : Bool)
        → (shard_of e.group shards == shard) ≡ b
        → AllByRecursion (IsOwn shard)
        (cond b (e ∷ filter (λ (f : Entry). shard_of f.group shards == shard) es)
        (filter (λ (f : Entry). shard_of f.group shards == shard) es))
    by rest true own = (subst (λ s. IsOwn s e) (eqb-true (shard_of e.group shards) shard own) p.0, rest)
    by rest false other = rest

  own_taken : (shard : ℕ) (count : ℕ) (es : List Entry) → AllByRecursion (IsOwn shard) es → WritesIn shard (entry_writes (take count es))
  own_taken shard zero es p = tt
  own_taken shard (suc count) [] p = tt
  own_taken shard (suc count) (e ∷ es) p =
      all-append (λ w. InShard shard (key_of w)) e.writes (entry_writes (take count es)) p.0 (own_taken shard count es p.1)

  -- ---- all shards

  -- the entries of each list, from that of a first shard on, are of its shard
  abbrev pub AreOwn : ℕ → List (List Entry) → Type 0
  AreOwn first [] = ⊤
  AreOwn first (entries ∷ lists) = AllByRecursion (IsOwn first) entries × AreOwn (first + 1) lists

  own_from : (journal : List Commit) (first n : ℕ) → AreOwn first (map (λ shard. shard_list journal shard shards) (range_with_len first n))
  own_from journal first zero = tt
  own_from journal first (suc n) = (
    own_filtered first (entries_from 1 journal) (all_own 1 journal),
    own_from journal (first + 1) n,
  )

  -- those of a journal are
  own_lists : (journal : List Commit) → AreOwn 0 (shard_lists shards journal)
  own_lists journal = own_from journal 0 shards

  -- what the first entries of a shard leave is of the shard
  pub left_own : (shard count : ℕ) (entries : List Entry) → AllByRecursion (IsOwn shard) entries
      → EntitiesIn shard (sorted_by_key (after (entry_writes (take count entries))))
  left_own shard count entries own =
      let writes : List Write = entry_writes (take count entries) in
      all-sorted (λ (e : EntityParts). InShard shard e.key) entity_cmp (after writes)
      (all_written_in shard [] writes (own_taken shard count entries own) tt)

  -- what each shard's writes leave, side by side
  abbrev beside : List (List Entry) → List ℕ → List EntityParts
  beside [] counts = []
  beside (entries ∷ lists) [] = []
  beside (entries ∷ lists) (count ∷ counts) = after (entry_writes (take count entries)) ++ beside lists counts

  global_from : (first : ℕ) (lists : List (List Entry)) (counts : List ℕ) (es : List EntityParts) → AreOwn first lists → Before first es
      → fold apply_write es (entry_writes (counted lists counts)) ≡ es ++ beside lists counts
  global_from first [] counts es own before = sym (append-nil es)
  global_from first (entries ∷ lists) [] es own before = sym (append-nil es)
  global_from first (entries ∷ lists) (count ∷ counts) es own before =
      let taken : List Entry = take count entries in
      let left : List EntityParts = after (entry_writes taken) in
      let writes = own_taken first count entries own.0 in
      let rest : List Entry = counted lists counts in
      ap (fold apply_write es) (flat_map-append (λ (e : Entry). e.writes) taken rest)
      ∙ fold-append apply_write es (entry_writes taken) (entry_writes rest)
      ∙ ap (λ gs. fold apply_write (fold apply_write gs (entry_writes taken)) (entry_writes rest)) (sym (append-nil es))
      ∙ ap (λ gs. fold apply_write gs (entry_writes rest)) (writes_beside first es [] (entry_writes taken) before writes)
      ∙ global_from (first + 1) lists counts (es ++ left) own.1
      (all-append (λ (e : EntityParts). shard_of (root_of e.key) shards < first + 1) es left (later_before first es before)
      (in_before first left (all_written_in first [] (entry_writes taken) writes tt)))
      ∙ append_assoc es left (beside lists counts)

  -- the global view is what each shard's counted entries leave, side by side
  global_beside : (lists : List (List Entry)) (counts : List ℕ) → AreOwn 0 lists → global_view lists counts ≡ beside lists counts
  global_beside lists counts own = global_from 0 lists counts [] own tt

-- ---- no two entities have one key

module _ (shards : ℕ) where
  -- the entities are in this shard or later ones
  abbrev NotBefore : ℕ → List EntityParts → Type 0
  NotBefore shard = AllByRecursion (λ (e : EntityParts). shard ≤ shard_of (root_of e.key) shards)

  none_later : (shard : ℕ) (k : KeyParts) (ys : List EntityParts) → InShard shards shard k → NotBefore (shard + 1) ys → NoneAt k ys
  none_later shard k [] own later = tt
  none_later shard k (y ∷ ys) own later = (by (same_key y.key k) refl, none_later shard k ys own later.1) where
    by : (b : Bool) → same_key y.key k ≡ b → b ≡ false
    by true same =
        let is : shard_of (root_of y.key) shards ≡ shard =
        ap (λ (l : KeyParts). shard_of (root_of l) shards) (same_key-equal y.key k same) ∙ own in
        absurd (let past = later.0 in omega (arith, past, is))
    by false other = refl

  none_joined : (k : KeyParts) (xs ys : List EntityParts) → NoneAt k xs → NoneAt k ys → NoneAt k (xs ++ ys)
  none_joined k [] ys p q = q
  none_joined k (x ∷ xs) ys p q = (p.0, none_joined k xs ys p.1 q)

  differ_joined : (shard : ℕ) (xs ys : List EntityParts) → KeysDiffer xs → EntitiesIn shards shard xs → KeysDiffer ys
      → NotBefore (shard + 1) ys
      → KeysDiffer (xs ++ ys)
  differ_joined shard [] ys p own q later = q
  differ_joined shard (x ∷ xs) ys p own q later =
      (none_joined x.key xs ys p.0 (none_later shard x.key ys own.0 later), differ_joined shard xs ys p.1 own.1 q later)

  from_here : (shard : ℕ) (es : List EntityParts) → EntitiesIn shards shard es → NotBefore shard es
  from_here shard [] p = tt
  from_here shard (e ∷ es) p = (let own = p.0 in omega (arith, own), from_here shard es p.1)

  from_later : (shard : ℕ) (es : List EntityParts) → NotBefore (shard + 1) es → NotBefore shard es
  from_later shard [] p = tt
  from_later shard (e ∷ es) p = (let own = p.0 in omega (arith, own), from_later shard es p.1)

  views_from : (first : ℕ) (lists : List (List Entry)) (counts : List ℕ) → AreOwn shards first lists
      → KeysDiffer (shard_views lists counts) × NotBefore first (shard_views lists counts)
  views_from first [] counts own = (tt, tt)
  views_from first (entries ∷ lists) [] own = (tt, tt)
  views_from first (entries ∷ lists) (count ∷ counts) own =
      let writes : List Write = entry_writes (take count entries) in
      let here = left_own shards first count entries own.0 in
      let rest = views_from (first + 1) lists counts own.1 in (
        differ_joined first (sorted_by_key (after writes)) (shard_views lists counts)
            (KeysDiffer-sorted (after writes) (KeysDiffer-after writes)) here rest.0 rest.1,
        all-append (λ (e : EntityParts). first ≤ shard_of (root_of e.key) shards) (sorted_by_key (after writes)) (shard_views lists counts)
            (from_here first (sorted_by_key (after writes)) here)
            (from_later first (shard_views lists counts) rest.1),
      )

-- No two of the entities of all shards have one key.
pub own_differ : (shards : ℕ) (lists : List (List Entry)) (counts : List ℕ) → AreOwn shards 0 lists → KeysDiffer (shard_views lists counts)
own_differ shards lists counts own = (views_from shards 0 lists counts own).0

pub views_differ : (journal : List Commit) (shards : ℕ) (counts : List ℕ) → KeysDiffer (shard_views (shard_lists shards journal) counts)
views_differ journal shards counts = own_differ shards (shard_lists shards journal) counts (own_lists shards journal)

-- ---- in order

entity_total : IsTotalOrder entity_cmp
entity_total = on_total (λ (e : EntityParts). e.key) key_cmp-total

-- entities that are found by their keys in one list are equal where their keys are
module _ (all : List EntityParts) where
  abbrev IsFound : EntityParts → Type 0
  IsFound e = entity_of all e.key ≡ Some e

  found-same : (x y : EntityParts) → IsFound x → IsFound y → entity_cmp x y ≡ Equal → x ≡ y
  found-same x y p q is = inside (sym p ∙ ap (entity_of all) (key_cmp-same x.key y.key is) ∙ q) where
    inside : Some x ≡ Some y → x ≡ y
    inside e = cc

  one_each : (es : List EntityParts) → flat_map (λ e. e ∷ []) es ≡ es
  one_each [] = refl
  one_each (e ∷ es) = ap (λ fs. e ∷ fs) (one_each es)

  as_gives : (es : List EntityParts) → AllByRecursion IsFound es → AllByRecursion (λ e. AllByRecursion IsFound (e ∷ [])) es
  as_gives [] p = tt
  as_gives (e ∷ es) p = ((p.0, tt), as_gives es p.1)

  abbrev put : List EntityParts → List EntityParts → List EntityParts
  put done es = fold (insert_by entity_cmp) done es

  put-same : (done es : List EntityParts) → AllByRecursion IsFound es → put done (sorted_by_key es) ≡ put done es
  put-same done es p =
      ap (put done) (sym (one_each (sorted_by_key es)))
      ∙ put-sorted entity_total IsFound found-same entity_cmp (λ e. e ∷ []) done es (as_gives es p)
      ∙ ap (put done) (one_each es)

  first_part : (P : EntityParts → Type 0) (es fs : List EntityParts) → AllByRecursion P (es ++ fs)
      → AllByRecursion P es × AllByRecursion P fs
  first_part P [] fs p = (tt, p)
  first_part P (e ∷ es) fs p = let rest = first_part P es fs p.1 in ((p.0, rest.0), rest.1)

  views-put : (shards : ℕ) (lists : List (List Entry)) (counts : List ℕ) (done : List EntityParts)
      → AllByRecursion IsFound (beside shards lists counts)
      → put done (shard_views lists counts) ≡ put done (beside shards lists counts)
  views-put shards [] counts done p = refl
  views-put shards (entries ∷ lists) [] done p = refl
  views-put shards (entries ∷ lists) (count ∷ counts) done p =
      let left : List EntityParts = after (entry_writes (take count entries)) in
      let parts = first_part IsFound left (beside shards lists counts) p in
      fold-append (insert_by entity_cmp) done (sorted_by_key left) (shard_views lists counts)
      ∙ ap (λ d. put d (shard_views lists counts)) (put-same done left parts.0)
      ∙ views-put shards lists counts (put done left) parts.1
      ∙ sym (fold-append (insert_by entity_cmp) done left (beside shards lists counts))

as_all : (all es : List EntityParts) → AreFound all es → AllByRecursion (IsFound all) es
as_all all [] p = tt
as_all all (e ∷ es) p = (p.0, as_all all es p.1)

-- The entities of all shards by key are those of the global view by key.
own_sorted : (shards : ℕ) (lists : List (List Entry)) (counts : List ℕ) → AreOwn shards 0 lists
    → sorted_by_key (shard_views lists counts) ≡ sorted_by_key (global_view lists counts)
own_sorted shards lists counts own =
    let all : List EntityParts = beside shards lists counts in
    let is : global_view lists counts ≡ all = global_beside shards lists counts own in
    let differ : KeysDiffer all = subst KeysDiffer is (KeysDiffer-after (entry_writes (counted lists counts))) in
    views-put all shards lists counts [] (as_all all all (AreFound-all all differ)) ∙ ap sorted_by_key (sym is)

pub views_of_journal : (journal : List Commit) (shards : ℕ) (counts : List ℕ)
    → sorted_by_key (shard_views (shard_lists shards journal) counts) ≡ sorted_by_key (global_view (shard_lists shards journal) counts)
views_of_journal journal shards counts = own_sorted shards (shard_lists shards journal) counts (own_lists shards journal)

-- Queries without an ancestor: over the entities of all shards by key they have the results that they have over the global view, and
-- the same is told of their rows.
module _ (shards : ℕ) (lists : List (List Entry)) (counts : List ℕ) (own : AreOwn shards 0 lists) where
  pub own_result : (n : Normal) (w : Window) → result n w (sorted_by_key (shard_views lists counts)) ≡ result n w (global_view lists counts)
  own_result n w = ap (result n w) (own_sorted shards lists counts own) ∙ result_sorted n w (global_view lists counts)

  pub own_items : (columns : List Column) (selected : Select) (rs : List RowParts)
      → items_of columns selected (sorted_by_key (shard_views lists counts)) rs ≡ items_of columns selected (global_view lists counts) rs
  own_items columns selected rs =
      ap (λ es. items_of columns selected es rs) (own_sorted shards lists counts own)
      ∙ items_sorted columns selected (global_view lists counts) rs (KeysDiffer-after (entry_writes (counted lists counts)))

module _ (journal : List Commit) (shards : ℕ) (counts : List ℕ) where
  pub views_result : (n : Normal) (w : Window)
      → result n w (sorted_by_key (shard_views (shard_lists shards journal) counts))
      ≡ result n w (global_view (shard_lists shards journal) counts)
  views_result = own_result shards (shard_lists shards journal) counts (own_lists shards journal)

  pub views_items : (columns : List Column) (selected : Select) (rs : List RowParts)
      → items_of columns selected (sorted_by_key (shard_views (shard_lists shards journal) counts)) rs
      ≡ items_of columns selected (global_view (shard_lists shards journal) counts) rs
  views_items = own_items shards (shard_lists shards journal) counts (own_lists shards journal)
