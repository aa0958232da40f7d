-- A journal whose commits each put one item: its entries, what they leave, and the numbers of its items.
use Rattle.std.proofs.Common.{◌≡◌, ℕ, zero, suc, ◌+◌, ◌-◌, ◌<◌, ◌≤◌, List, [], ◌∷◌, ◌++◌, refl, ap, sym, ◌∙◌, arith, Bool, true, false}
use Rattle.std.proofs.Common.{cond, map, length, Option, Some, subst, append-nil, append_assoc, length-append}
use Rattle.std.proofs.Common.{eq-eqb, mod-lt}
use Rattle.std.specs.Prelude.{◌==◌, flat_map, fold, not, slice_get, All}
use Rattle.std.specs.List.{AllByRecursion, range_with_len}
use Rattle.std.proofs.lemmas.List.{take_all}
use Rattle.std.proofs.lemmas.List.Elements.{All-head, All-tail}
use Rattle.std.proofs.lemmas.List.{map-append}
use Rattle.ds_base.specs.declared.key.Elem.{Elem}
use Rattle.ds_base.specs.declared.key.Ident.{Ident}
use Rattle.ds_base.specs.declared.key.Ident.TheVariants.{Id, Name}
use Rattle.ds_base.specs.Keys.{KeyParts}
use Rattle.ds_base.specs.KeyOrder.{same_key}
use Rattle.ds_log.specs.declared.Commit.{Commit}
use Rattle.ds_log.specs.declared.Entry.{Entry}
use Rattle.ds_log.specs.declared.Write.{Write}
use Rattle.ds_log.specs.declared.Write.TheVariants.{Put}
use Rattle.ds_log.specs.After.{after, apply_write, without}
use Rattle.ds_log.specs.Logs.{commit_entries, entries_from, entry_writes}
use Rattle.ds_log.specs.Shards.{shard_of}
use Rattle.ds_model.specs.Answers.{CountsWithin}
use Rattle.ds_model.specs.Views.{counted, global_view}
use Rattle.ds_model.specs.Worlds.{shard_lists}
use Rattle.ds_model.proofs.AllOf.{all-filter, all-flat_map}
use Rattle.ds_model.proofs.DistinctKeys.{same_key-itself}
use Rattle.ds_model.proofs.GroupViews.{same_key-equal}
use Rattle.ds_load.specs.Items.{item_of, key_of_item}
use Rattle.ds_load.specs.Telling.{sum_of}
use Rattle.ds_load.proofs.Counts.{SameTimes, times, once, times-append}
use Rattle.ds_load.proofs.Puts.{IsPut, IsPutAt, index_of, index_at, index_if, index_in}
use Rattle.ds_load.proofs.Shares.{own, parted, served}

-- ---- by number

at_end : (done : List Commit) (c : Commit) (cs : List Commit) → slice_get (done ++ c ∷ cs) (length done) ≡ Some c
at_end [] c cs = refl
at_end (d ∷ done) c cs = at_end done c cs

numbered : (done : List Commit) (c : Commit) (cs : List Commit) → slice_get (done ++ c ∷ cs) (length done + 1 - 1) ≡ Some c
numbered done c cs =
    let same : length done + 1 - 1 ≡ length done = omega arith in
    ap (slice_get (done ++ c ∷ cs)) same ∙ at_end done c cs

one_more : (done : List Commit) (c : Commit) → length (done ++ c ∷ []) + 1 ≡ length done + 1 + 1
one_more done c = omega (arith, length-append done (c ∷ []))

pub indexes : (done journal : List Commit) → map (index_at (done ++ journal)) (range_with_len (length done + 1) (length journal))
    ≡ map index_of journal
indexes done [] = refl
indexes done (c ∷ cs) =
    ap (λ m. m ∷ map (index_at (done ++ c ∷ cs)) (range_with_len (length done + 1 + 1) (length cs))) (ap index_if (numbered done c cs))
    ∙ ap (λ ms. index_of c ∷ ms)
    (ap (λ a. map (index_at (done ++ c ∷ cs)) (range_with_len a (length cs))) (sym (one_more done c))
    ∙ ap (λ j. map (index_at j) (range_with_len (length (done ++ c ∷ []) + 1) (length cs))) (sym (append_assoc done (c ∷ []) cs))
    ∙ indexes (done ++ c ∷ []) cs)

put_at : (o : Option Commit) (c : Commit) → o ≡ Some c → (d : Commit) × (o ≡ Some d) × IsPut d → IsPut c
put_at o c is (d, at, put) = let same : d ≡ c = (let e : Some d ≡ Some c = sym at ∙ is in cc) in subst IsPut same put

pub puts : (done journal : List Commit) → All (IsPutAt (done ++ journal)) (range_with_len (length done + 1) (length journal))
    → AllByRecursion IsPut journal
puts done [] all = tt
puts done (c ∷ cs) all =
    let P : ℕ → Type 0 = IsPutAt (done ++ c ∷ cs) in (
      put_at _ c (numbered done c cs) (All-head P (length done + 1) (range_with_len (length done + 1 + 1) (length cs)) all),
      puts (done ++ c ∷ []) cs
          (subst (λ j. All (IsPutAt j) (range_with_len (length (done ++ c ∷ []) + 1) (length cs))) (sym (append_assoc done (c ∷ []) cs))
          (subst (λ a. All P (range_with_len a (length cs))) (sym (one_more done c))
          (All-tail P (length done + 1) (range_with_len (length done + 1 + 1) (length cs)) all))),
    )

-- ---- its entries

abbrev item_entry : ℕ → ℕ → Entry
item_entry n i = record { commit = n; group = key_of_item i; writes = Put (item_of i) ∷ [] }

abbrev entries_with : ℕ → List Write → List Entry
entries_with n ws = commit_entries n (record { client = 0; touched = []; writes = ws })

own_entry : (n i : ℕ) → entries_with n (Put (item_of i) ∷ []) ≡ item_entry n i ∷ []
own_entry n i =
    ap (λ b. (record { commit = n; group = key_of_item i; writes = cond b (Put (item_of i) ∷ []) [] }) ∷ [])
    (same_key-itself (key_of_item i))

entry_of : (n : ℕ) (c : Commit) → IsPut c → commit_entries n c ≡ item_entry n (index_of c) ∷ []
entry_of n c put = ap (entries_with n) put ∙ own_entry n (index_of c)

-- ---- spread over the shards

-- the number of the item that an entry puts
abbrev pub entry_number : Entry → ℕ
entry_number e = index_in e.writes

-- the entry puts one item, and does nothing else
abbrev PutsOne : Entry → Type 0
PutsOne e = e.writes ≡ Put (item_of (entry_number e)) ∷ []

each_puts : (n : ℕ) (journal : List Commit) → AllByRecursion IsPut journal → AllByRecursion PutsOne (entries_from n journal)
each_puts n [] all = tt
each_puts n (c ∷ cs) all =
    subst (λ es. AllByRecursion PutsOne (es ++ entries_from (n + 1) cs)) (sym (entry_of n c all.0)) (refl, each_puts (n + 1) cs all.1)

numbers_are : (n : ℕ) (journal : List Commit) → AllByRecursion IsPut journal
    → map entry_number (entries_from n journal) ≡ map index_of journal
numbers_are n [] all = refl
numbers_are n (c ∷ cs) all =
    ap (λ es. map entry_number (es ++ entries_from (n + 1) cs)) (entry_of n c all.0)
    ∙ ap (λ is. index_of c ∷ is) (numbers_are (n + 1) cs all.1)

entries_written : (es : List Entry) → AllByRecursion PutsOne es → entry_writes es ≡ map (λ i. Put (item_of i)) (map entry_number es)
entries_written [] all = refl
entries_written (e ∷ es) all = ap (λ ws. ws ++ entry_writes es) all.0
    ∙ ap (λ ws. Put (item_of (entry_number e)) ∷ ws) (entries_written es all.1)

-- the entries of all four shards, one shard behind the other
abbrev pub joined_lists : List Commit → List Entry
joined_lists journal = flat_map (λ entries. entries) (shard_lists 4 journal)

-- the numbers of their items
abbrev pub spread : List Commit → List ℕ
spread journal = map entry_number (joined_lists journal)

one_shard : (n : ℕ) → n < 4 → served n (range_with_len 0 4) ≡ 1
one_shard zero small = refl
one_shard (suc zero) small = refl
one_shard (suc (suc zero)) small = refl
one_shard (suc (suc (suc zero))) small = refl
one_shard (suc (suc (suc (suc n)))) small = absurd (omega (arith, small))

abbrev shard : Entry → ℕ
shard e = shard_of e.group 4

each_shard : (es : List Entry) → AllByRecursion (λ (e : Entry). served (shard e) (range_with_len 0 4) ≡ 1) es
each_shard [] = tt
each_shard (e ∷ es) = (one_shard (shard e) (mod-lt _ (omega arith)), each_shard es)

-- each entry is in one shard
pub spread_same : (journal : List Commit) → AllByRecursion IsPut journal → SameTimes (spread journal) (map index_of journal)
spread_same journal all k =
    parted entry_number shard k (range_with_len 0 4) (entries_from 1 journal) (each_shard (entries_from 1 journal))
    ∙ ap (times k) (numbers_are 1 journal all)

each_own : (shards : List ℕ) (es : List Entry) → AllByRecursion PutsOne es
    → AllByRecursion (λ c. AllByRecursion PutsOne (own entry_number shard 0 c es)) shards
each_own [] es all = tt
each_own (c ∷ cs) es all = (all-filter PutsOne (λ e. shard e == c) es all, each_own cs es all)

joined_put : (journal : List Commit) → AllByRecursion IsPut journal → AllByRecursion PutsOne (joined_lists journal)
joined_put journal all =
    let es : List Entry = entries_from 1 journal in
    all-flat_map PutsOne (λ c. own entry_number shard 0 c es) (range_with_len 0 4) (each_own (range_with_len 0 4) es (each_puts 1 journal all))

-- ---- counted entries

-- no more are counted than there are
pub few_counted : (least : ℕ → ℕ) (shard : ℕ) (cs : List ℕ) (lists : List (List Entry)) (counts : List ℕ)
    → CountsWithin least shard cs lists counts
    → sum_of counts ≤ length (flat_map (λ entries. entries) lists)
few_counted least shard [] [] [] within = omega arith
few_counted least shard (c ∷ cs) (entries ∷ lists) (count ∷ counts) within =
    omega (arith, within.2, length-append entries (flat_map (λ es. es) lists), few_counted least (shard + 1) cs lists counts within.3)
few_counted least shard [] [] (count ∷ counts) within = absurd within
few_counted least shard [] (entries ∷ lists) counts within = absurd within
few_counted least shard (c ∷ cs) [] counts within = absurd within
few_counted least shard (c ∷ cs) (entries ∷ lists) [] within = absurd within

-- where as many are counted, these are all of them
pub all_counted : (least : ℕ → ℕ) (shard : ℕ) (cs : List ℕ) (lists : List (List Entry)) (counts : List ℕ)
    → CountsWithin least shard cs lists counts
    → length (flat_map (λ entries. entries) lists) ≤ sum_of counts → counted lists counts ≡ flat_map (λ entries. entries) lists
all_counted least shard [] [] [] within all = refl
all_counted least shard (c ∷ cs) (entries ∷ lists) (count ∷ counts) within all =
    let long : length (entries ++ flat_map (λ es. es) lists) ≡ length entries + length (flat_map (λ es. es) lists) =
    length-append entries (flat_map (λ es. es) lists) in
    let behind = few_counted least (shard + 1) cs lists counts within.3 in
    ap (λ es. es ++ counted lists counts) (take_all count entries (omega (arith, long, behind, all)))
    ∙ ap (λ es. entries ++ es) (all_counted least (shard + 1) cs lists counts within.3 (omega (arith, long, within.2, all)))
all_counted least shard [] [] (count ∷ counts) within all = absurd within
all_counted least shard [] (entries ∷ lists) counts within all = absurd within
all_counted least shard (c ∷ cs) [] counts within all = absurd within
all_counted least shard (c ∷ cs) (entries ∷ lists) [] within all = absurd within

-- ---- what the entries leave

abbrev of_ident : Ident → ℕ
of_ident (Id n) = n
of_ident (Name x) = 0

abbrev id_in : KeyParts → ℕ
id_in k = first_id k.elems where
  first_id : List Elem → ℕ
  first_id [] = 0
  first_id (e ∷ es) = of_ident e.ident

ids_same : (x y : ℕ) → key_of_item x ≡ key_of_item y → x ≡ y
ids_same x y same = let ids : x + 1 ≡ y + 1 = ap id_in same in omega (arith, ids)

apart : (x y : ℕ) → (x ≡ y → ⊥) → same_key (key_of_item x) (key_of_item y) ≡ false
apart x y other = by (same_key (key_of_item x) (key_of_item y)) refl where
  by : (b : Bool) → same_key (key_of_item x) (key_of_item y) ≡ b → b ≡ false
  by false is = refl
  by true is = absurd (other (ids_same x y (same_key-equal (key_of_item x) (key_of_item y) is)))

none_out : (x : ℕ) (done : List ℕ) → times x done ≡ 0 → without (key_of_item x) (map item_of done) ≡ map item_of done
none_out x [] none = refl
none_out x (y ∷ done) none =
    let other : y ≡ x → ⊥ = λ e. (let self : once x y ≡ 1 = ap (λ b. cond b 1 0) (eq-eqb y x e) in omega (arith, none, self)) in
    ap (λ b. cond (not b) (item_of y ∷ without (key_of_item x) (map item_of done)) (without (key_of_item x) (map item_of done)))
    (apart y x other)
    ∙ ap (λ es. item_of y ∷ es) (none_out x done (omega (arith, none)))

put_in_turn : (is done : List ℕ) → ((k : ℕ) → times k (done ++ is) ≤ 1)
    → fold apply_write (map item_of done) (map (λ i. Put (item_of i)) is) ≡ map item_of (done ++ is)
put_in_turn [] done single = ap (map item_of) (sym (append-nil done))
put_in_turn (i ∷ is) done single =
    let self : once i i ≡ 1 = ap (λ b. cond b 1 0) (eq-eqb i i refl) in
    let fresh : times i done ≡ 0 = omega (arith, single i, times-append i done (i ∷ is), self) in
    ap (λ es. fold apply_write (es ++ item_of i ∷ []) (map (λ j. Put (item_of j)) is)) (none_out i done fresh)
    ∙ ap (λ es. fold apply_write es (map (λ j. Put (item_of j)) is)) (sym (map-append item_of done (i ∷ [])))
    ∙ put_in_turn is (done ++ i ∷ []) (λ k. subst (λ js. times k js ≤ 1) (sym (append_assoc done (i ∷ []) is)) (single k))
    ∙ ap (map item_of) (append_assoc done (i ∷ []) is)

-- items that differ are left as they were put
pub left_items : (is : List ℕ) → ((k : ℕ) → times k is ≤ 1) → after (map (λ i. Put (item_of i)) is) ≡ map item_of is
left_items is single = put_in_turn is [] single

-- the entities that are visible where all entries are counted
pub viewed : (journal : List Commit) (counts : List ℕ) → AllByRecursion IsPut journal
    → counted (shard_lists 4 journal) counts ≡ joined_lists journal
    → ((k : ℕ) → times k (spread journal) ≤ 1) → global_view (shard_lists 4 journal) counts ≡ map item_of (spread journal)
viewed journal counts all whole single =
    ap (λ es. after (entry_writes es)) whole
    ∙ ap after (entries_written (joined_lists journal) (joined_put journal all))
    ∙ left_items (spread journal) single
