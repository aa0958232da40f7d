-- What a get tells, of where it stands and what is found there.
use Rattle.std.proofs.Common.{◌≡◌, ℕ, ◌+◌, ◌≤◌, max, List, length, take, Option, None, Some, true, sym, ap, subst, ◌∙◌, arith}
use Rattle.std.proofs.Common.{refl}
use Rattle.std.specs.Prelude.{is_some}
use Rattle.std.proofs.lemmas.List.{length-take}
use Rattle.ds_entity.specs.Entities.{EntityParts}
use Rattle.ds_base.specs.Keys.{KeyParts, root_of}
use Rattle.ds_log.specs.declared.Entry.{Entry}
use Rattle.ds_log.specs.Shards.{shard_of}
use Rattle.ds_model.specs.ByKey.{left_by}
use Rattle.ds_model.specs.Results.{entity_of}
use Rattle.ds_model.specs.Sessions.{last_commit, list_of}
use Rattle.ds_model.proofs.GroupReads.{get_seen}
use Rattle.ds_store_passes.specs.Answered.{HasReadGroup, IsExpired, IsGot, entries_up_to}
use Rattle.ds_store_passes.specs.Passes.{PassParts, HasRead}
use Rattle.ds_store_shards.specs.Standing.{StandsAt}
use Rattle.ds_store_passes.proofs.Growing.{begins_no_longer}
use Rattle.ds_store_passes.proofs.PassReads.{read_place}
use Rattle.ds_store_passes.proofs.Seeing.{HasRead-through}
use Rattle.ds_store_passes.proofs.SlotLists.{count_there, longer_there}

-- so many entries the pass has seen
pub stands_seen : (shards shard : ℕ) (before after : PassParts) (asked : Option ℕ) (m entries : ℕ)
    → StandsAt shards before after shard asked m entries
    → entries ≤ length (list_of after.lists shard)
stands_seen shards shard before after asked m entries stand =
    let all : length (take entries (list_of after.lists shard)) ≡ entries =
    ap (λ (es : List Entry). length es) stand.first ∙ sym stand.entries_are in
    omega (arith, all, length-take entries (list_of after.lists shard))

-- a strong read of a group stands in the group's shard
pub group_read : (shards : ℕ) (before after : PassParts) (group : KeyParts) (asked : Option ℕ) (m entries : ℕ)
    → StandsAt shards before after (shard_of group shards) asked m entries → HasReadGroup shards before after group asked m entries
group_read shards before after group asked m entries stand = record {
  read = stand.read;
  stands = stand.stands;
  entries_are = stand.entries_are;
  seen = omega (
    arith,
    stands_seen shards (shard_of group shards) before after asked m entries stand,
    count_there after.lists
        (shard_of group shards),
  );
}

pub got : (shards : ℕ) (before after : PassParts) (key : KeyParts) (asked : Option ℕ) (m entries : ℕ) (found : Option EntityParts)
    → StandsAt shards before after (shard_of (root_of key) shards) asked m entries
    → found ≡ entity_of (left_by (list_of after.lists (shard_of (root_of key) shards)) entries) key
    → IsGot shards before after key asked found m entries
got shards before after key asked m entries found stand is = record {
  read = group_read shards before after (root_of key) asked m entries stand;
  exact = is ∙ get_seen after.journal (list_of after.lists (shard_of (root_of key) shards)) entries m shards key stand.first;
}

-- A read at a touch place whose versions are gone has also seen the commit of the last applied entry.
module _ (shards window : ℕ) (before seen after : PassParts) (group : KeyParts) (m snapshot applied commit : ℕ)
    (gone : snapshot + window ≤ applied) (applied_is : applied ≡ length (list_of seen.lists (shard_of group shards)))
    (commit_is : commit ≡ last_commit (list_of seen.lists (shard_of group shards)))
    (shown : after ≡ record seen { place = max seen.place commit }) where
  later : HasRead before seen → HasRead before after
  later read = HasRead-through before seen after read (read_place seen after commit shown)

  pub expired : (asked : Option ℕ) → is_some asked ≡ true → StandsAt shards before seen (shard_of group shards) asked m snapshot
      → IsExpired shards window before after group asked snapshot applied commit
  expired None is stand = absurd (cc (is))
  expired (Some place) is stand =
      let journal : after.journal ≡ seen.journal = ap (λ (p : PassParts). p.journal) shown in
      let lists : after.lists ≡ seen.lists = ap (λ (p : PassParts). p.lists) shown in
      let higher : after.place ≡ max seen.place commit = ap (λ (p : PassParts). p.place) shown in
      let at_place : m ≡ place = stand.stands.0 in
      let few = stands_seen shards (shard_of group shards) before seen (Some place) m snapshot stand in
      let list : list_of after.lists (shard_of group shards) ≡ list_of seen.lists (shard_of group shards) =
      ap (λ ls. list_of ls (shard_of group shards)) lists in
      let long : length (list_of after.lists (shard_of group shards)) ≡ length (list_of seen.lists (shard_of group shards)) =
      ap (λ (es : List Entry). length es) list in
      record {
        place = place;
        inside = λ i. Some place;
        read = record {
          read = later stand.read;
          stands = (λ i. place, omega (arith, stand.stands.1, at_place, ap (λ (p : PassParts). length p.journal) shown));
          entries_are = stand.entries_are ∙ (λ i. entries_up_to (sym journal i) shards (at_place i) (shard_of group shards));
          seen = omega (arith, few, long, count_there after.lists (shard_of group shards));
        };
        gone = gone;
        applied_is = applied_is ∙ sym (count_there after.lists (shard_of group shards) ∙ long);
        no_lower = omega (
          arith,
          applied_is,
          count_there before.lists (shard_of group shards),
          begins_no_longer (list_of before.lists (shard_of group shards)) (list_of seen.lists (shard_of group shards))
              (longer_there before.lists seen.lists (shard_of group shards) stand.read.lists),
        );
        commit_is = commit_is ∙ ap last_commit (sym list);
        stands = omega (arith, higher);
      }

-- the same, where the shard is that of the key's group, and the look-up has left the pass as it was
pub got_in : (shards shard : ℕ) (before p q : PassParts) (key : KeyParts) (asked : Option ℕ) (m entries : ℕ) (found : Option EntityParts)
    → shard ≡ shard_of (root_of key) shards → q ≡ p → StandsAt shards before p shard asked m entries
    → found ≡ entity_of (left_by (list_of p.lists shard) entries) key → IsGot shards before q key asked found m entries
got_in shards shard before p q key asked m entries found is same stand there =
    got shards before q key asked m entries found
    (subst (λ s. StandsAt shards before q s asked m entries) is (subst (λ r. StandsAt shards before r shard asked m entries) (sym same)
    stand))
    (there ∙ (λ i. entity_of (left_by (list_of (sym same i).lists (is i)) entries) key))

pub expired_in : (shards shard window : ℕ) (before p q after : PassParts) (key : KeyParts) (asked : Option ℕ)
    (m entries snapshot applied commit : ℕ)
    → shard ≡ shard_of (root_of key) shards → q ≡ p → StandsAt shards before p shard asked m entries
    → snapshot ≡ entries → applied ≡ length (list_of p.lists shard) → commit ≡ last_commit (list_of p.lists shard)
    → entries + window ≤ length (list_of p.lists shard) → is_some asked ≡ true → after ≡ record q { place = max q.place commit }
    → IsExpired shards window before after (root_of key) asked snapshot applied commit
expired_in shards shard window before p q after key asked m entries snapshot applied commit is same stand snap app last gone inside shown =
    let there : StandsAt shards before q (shard_of (root_of key) shards) asked m snapshot =
    subst (λ n. StandsAt shards before q (shard_of (root_of key) shards) asked m n) (sym snap)
    (subst (λ s. StandsAt shards before q s asked m entries) is (subst (λ r. StandsAt shards before r shard asked m entries) (sym same)
    stand)) in
    let list : list_of p.lists shard ≡ list_of q.lists (shard_of (root_of key) shards) = λ i. list_of (sym same i).lists (is i) in
    expired shards window before q after (root_of key) m snapshot applied commit (omega (arith, snap, app, gone))
    (app ∙ ap (λ (es : List Entry). length es) list) (last ∙ ap last_commit list) shown asked inside there

-- Outside a transaction all entries of the shard are read, to which each window reaches back.
pub inside_one : (asked : Option ℕ) (entries window long : ℕ) → 1 ≤ window → (asked ≡ None → entries ≡ long) → entries + window ≤ long
    → is_some asked ≡ true
inside_one (Some place) entries window long some all gone = refl
inside_one None entries window long some all gone = absurd (omega (arith, some, all refl, gone))
