-- Strong reads: what is seen of one entity group in its shard's entities is what is seen of it in the strong view of the journal.
use Rattle.std.proofs.Common.{◌≡◌, ℕ, ◌<◌, ◌≤◌, List, [], ◌∷◌, take, refl, ap, sym, ◌∙◌, Bool, true, false, cond, Some}
use Rattle.ds_base.specs.Keys.{KeyParts, root_of}
use Rattle.ds_base.specs.KeyOrder.{same_key}
use Rattle.ds_entity.specs.Entities.{EntityParts}
use Rattle.ds_log.specs.declared.Commit.{Commit}
use Rattle.ds_log.specs.declared.Entry.{Entry}
use Rattle.ds_log.specs.After.{after}
use Rattle.ds_log.specs.Logs.{entry_writes, shard_list, writes_of}
use Rattle.ds_log.specs.Shards.{shard_of}
use Rattle.ds_model.specs.Results.{entity_of}
use Rattle.ds_model.specs.Views.{strong_view}
use Rattle.ds_model.proofs.GroupPrefixes.{own_entries}
use Rattle.ds_model.proofs.GroupViews.{cut, cut_view, in_group, same_key-equal}
use Rattle.ds_model.specs.ByKey.{sorted_by_key, left_by}
use Rattle.ds_model.proofs.DistinctKeys.{KeysDiffer-after, same_key-itself}
use Rattle.ds_model.proofs.FoundByKey.{entity_of-sorted}

-- ---- one group

-- the shard's entities, cut to a group, are those of the strong view
pub group_seen : (journal : List Commit) (m shards : ℕ) (g : KeyParts)
    → cut g (after (entry_writes (shard_list (take m journal) (shard_of g shards) shards))) ≡ cut g (strong_view journal m)
group_seen journal m shards g =
    cut_view g (entry_writes (shard_list (take m journal) (shard_of g shards) shards))
    ∙ ap after (own_entries g shards (take m journal))
    ∙ sym (cut_view g (writes_of (take m journal)))

-- an entity is found by its key in its group
pub found_in_group : (k : KeyParts) (es : List EntityParts) → entity_of es k ≡ entity_of (cut (root_of k) es) k
found_in_group k [] = refl
found_in_group k (e ∷ es) = by (found_in_group k es) (same_key e.key k) refl (in_group (root_of k) e) refl where
  by : entity_of es k ≡ entity_of (cut (root_of k) es) k → (a : Bool) → same_key e.key k ≡ a → (b : Bool) → in_group (root_of k) e ≡ b
      → cond a (Some e) (entity_of es k) ≡ entity_of (cond b (e ∷ cut (root_of k) es) (cut (root_of k) es)) k
  by later true same true own = sym (ap (λ c. cond c (Some e) (entity_of (cut (root_of k) es) k)) same)
  by later true same false own =
      absurd (apart (sym own ∙ ap (λ (l : KeyParts). same_key (root_of l) (root_of k)) (same_key-equal e.key k same) ∙ same_key-itself
      (root_of k))) where
        apart : false ≡ true → ⊥
        apart e = cc
  by later false other true own = later ∙ sym (ap (λ c. cond c (Some e) (entity_of (cut (root_of k) es) k)) other)
  by later false other false own = later

-- A get: what is found by a key in its shard, at the entries of the first m commits, is what the strong view has. The shard's list may be
-- longer than the journal's own part.
pub get_seen : (journal : List Commit) (entries : List Entry) (count m shards : ℕ) (k : KeyParts)
    → take count entries ≡ shard_list (take m journal) (shard_of (root_of k) shards) shards
    → entity_of (left_by entries count) k ≡ entity_of (strong_view journal m) k
get_seen journal entries count m shards k first =
    let g : KeyParts = root_of k in
    let own : List Entry = shard_list (take m journal) (shard_of g shards) shards in
    ap (λ (es : List Entry). entity_of (sorted_by_key (after (entry_writes es))) k) first
    ∙ entity_of-sorted (after (entry_writes own)) k (KeysDiffer-after (entry_writes own))
    ∙ found_in_group k (after (entry_writes own))
    ∙ ap (λ es. entity_of es k) (group_seen journal m shards g)
    ∙ sym (found_in_group k (strong_view journal m))
