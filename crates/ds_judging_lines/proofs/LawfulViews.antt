-- The entities that lawful writes leave are lawful.
use Rattle.std.proofs.Common.{ℕ, zero, suc, ◌+◌, ◌==◌, List, [], ◌∷◌, take, fold}
use Rattle.std.specs.Prelude.{All, not}
use Rattle.std.specs.List.{AllByRecursion, range_with_len}
use Rattle.std.proofs.lemmas.List.Elements.{All-head, All-tail, recursion_from_All}
use Rattle.ds_entity.specs.Entities.{EntityParts}
use Rattle.ds_base.specs.Keys.{KeyParts}
use Rattle.ds_base.specs.KeyOrder.{same_key}
use Rattle.ds_log.specs.declared.Commit.{Commit}
use Rattle.ds_log.specs.declared.Entry.{Entry}
use Rattle.ds_log.specs.declared.Write.{Write}
use Rattle.ds_log.specs.declared.Write.TheVariants.{Put, Delete}
use Rattle.ds_log.specs.After.{apply_write, without}
use Rattle.ds_log.specs.Logs.{commit_entries, entries_from, entry_writes, group_of, group_writes, groups_of, shard_list, writes_of}
use Rattle.ds_log.specs.Shards.{shard_of}
use Rattle.ds_journal_text.specs.Lawful.{IsLawfulEntity, IsLawfulWrite}
use Rattle.ds_model.specs.Views.{counted, global_view, strong_view}
use Rattle.ds_model.specs.Worlds.{shard_lists}
use Rattle.ds_model.proofs.AllOf.{all_of, all-append, all-filter, all-flat_map, all-map}

-- ---- writes

abbrev AreLawful : List Write → Type 0
AreLawful = AllByRecursion IsLawfulWrite

left_by : (es : List EntityParts) (w : Write) → IsLawfulWrite w → AllByRecursion IsLawfulEntity es
    → AllByRecursion IsLawfulEntity (apply_write es w)
left_by es (Put e) lawful all =
    all-append IsLawfulEntity (without e.key es) (e ∷ []) (all-filter IsLawfulEntity (λ d. not (same_key d.key e.key)) es all) (lawful, tt)
left_by es (Delete k) lawful all = all-filter IsLawfulEntity (λ d. not (same_key d.key k)) es all

left : (es : List EntityParts) (ws : List Write) → AreLawful ws → AllByRecursion IsLawfulEntity es
    → AllByRecursion IsLawfulEntity (fold apply_write es ws)
left es [] lawful all = all
left es (w ∷ ws) lawful all = left (apply_write es w) ws lawful.1 (left_by es w lawful.0 all)

taken : {X : Type 0} (P : X → Type 0) (n : ℕ) (xs : List X) → AllByRecursion P xs → AllByRecursion P (take n xs)
taken P zero xs all = tt
taken P (suc n) [] all = tt
taken P (suc n) (x ∷ xs) all = (all.0, taken P n xs all.1)

-- ---- commits and entries

abbrev HaveLawful : List Commit → Type 0
HaveLawful = AllByRecursion (λ (c : Commit). AreLawful c.writes)

have_lawful : (cs : List Commit) → All (λ (c : Commit). All IsLawfulWrite c.writes) cs → HaveLawful cs
have_lawful [] all = tt
have_lawful (c ∷ cs) all = (
  recursion_from_All IsLawfulWrite c.writes (All-head (λ (c : Commit). All IsLawfulWrite c.writes) c cs all),
  have_lawful cs (All-tail (λ (c : Commit). All IsLawfulWrite c.writes) c cs all),
)

abbrev EntryLawful : Entry → Type 0
EntryLawful e = AreLawful e.writes

of_commit : (n : ℕ) (c : Commit) → AreLawful c.writes → AllByRecursion EntryLawful (commit_entries n c)
of_commit n c lawful =
    all-map (λ (g : KeyParts). Unit {0}) EntryLawful (λ g. record { commit = n; group = g; writes = group_writes g c.writes })
    (λ g any. all-filter IsLawfulWrite (λ w. same_key (group_of w) g) c.writes lawful) (groups_of c.writes)
    (all_of (λ (g : KeyParts). Unit {0}) (λ g. tt) (groups_of c.writes))

of_commits : (n : ℕ) (cs : List Commit) → HaveLawful cs → AllByRecursion EntryLawful (entries_from n cs)
of_commits n [] lawful = tt
of_commits n (c ∷ cs) lawful =
    all-append EntryLawful (commit_entries n c) (entries_from (n + 1) cs) (of_commit n c lawful.0) (of_commits (n + 1) cs lawful.1)

abbrev ListLawful : List Entry → Type 0
ListLawful = AllByRecursion EntryLawful

of_shards : (shards : ℕ) (journal : List Commit) → HaveLawful journal → AllByRecursion ListLawful (shard_lists shards journal)
of_shards shards journal lawful =
    all-map (λ (shard : ℕ). Unit {0}) ListLawful (λ shard. shard_list journal shard shards)
    (λ shard any. all-filter EntryLawful (λ (e : Entry). shard_of e.group shards == shard) (entries_from 1 journal)
    (of_commits 1 journal lawful))
    (range_with_len 0 shards) (all_of (λ (shard : ℕ). Unit {0}) (λ shard. tt) (range_with_len 0 shards))

of_counted : (lists : List (List Entry)) (counts : List ℕ) → AllByRecursion ListLawful lists → ListLawful (counted lists counts)
of_counted [] counts all = tt
of_counted (entries ∷ lists) [] all = tt
of_counted (entries ∷ lists) (count ∷ counts) all =
    all-append EntryLawful (take count entries) (counted lists counts) (taken EntryLawful count entries all.0)
    (of_counted lists counts all.1)

-- ---- views

module _ (journal : List Commit) (lawful : All (λ (c : Commit). All IsLawfulWrite c.writes) journal) where
  pub strong_lawful : (m : ℕ) → AllByRecursion IsLawfulEntity (strong_view journal m)
  strong_lawful m =
      left [] (writes_of (take m journal))
      (all-flat_map IsLawfulWrite (λ (c : Commit). c.writes) (take m journal)
      (taken (λ (c : Commit). AreLawful c.writes) m journal (have_lawful journal lawful))) tt

  pub global_lawful : (shards : ℕ) (counts : List ℕ) → AllByRecursion IsLawfulEntity (global_view (shard_lists shards journal) counts)
  global_lawful shards counts =
      left [] (entry_writes (counted (shard_lists shards journal) counts))
      (all-flat_map IsLawfulWrite (λ (e : Entry). e.writes) (counted (shard_lists shards journal) counts)
      (of_counted (shard_lists shards journal) counts (of_shards shards journal (have_lawful journal lawful)))) tt
