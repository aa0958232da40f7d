-- What each call of the store answers, over what its pass had seen before and has seen after.
use Rattle.std.specs.Prelude.{◌≡◌, ℕ, ◌+◌, ◌≤◌, ◌<◌, Bool, true, false, List, [], ◌∷◌, ◌++◌, length, take, Option, Some, None}
use mathlib.Core.List.{IsPrefix}
use Rattle.ds_entity.specs.Entities.{EntityParts}
use Rattle.ds_base.specs.Keys.{KeyParts, root_of}
use Rattle.ds_base.specs.Limits.{greatest_id}
use Rattle.ds_draw.specs.Draws.{numbers}
use Rattle.ds_journal.specs.declared.refusals.CommitCause.{CommitCause}
use Rattle.ds_journal.specs.declared.refusals.CommitCause.TheVariants as cause
use Rattle.ds_log.specs.declared.Commit.{Commit}
use Rattle.ds_log.specs.declared.Conflict.{Conflict}
use Rattle.ds_log.specs.declared.Entry.{Entry}
use Rattle.ds_log.specs.declared.Touch.{Touch}
use Rattle.ds_log.specs.Conflicts.{IsCommitted, conflict_of}
use Rattle.ds_log.specs.Logs.{shard_list}
use Rattle.ds_log.specs.Shards.{shard_of}
use Rattle.ds_model.specs.Results.{entity_of}
use Rattle.ds_model.specs.Sessions.{count_of, counted_place, last_commit, list_of}
use Rattle.ds_model.specs.Views.{strong_view}
use Rattle.ds_store_passes.specs.declared.answers.Expired.{Expired}
use Rattle.ds_store_passes.specs.declared.answers.GetRefused.{GetRefused}
use Rattle.ds_store_passes.specs.declared.answers.GetRefused.TheVariants as get
use Rattle.ds_store_passes.specs.declared.answers.NewCause.{NewCause}
use Rattle.ds_store_passes.specs.declared.answers.NewCause.TheVariants as new_cause
use Rattle.ds_store_passes.specs.Passes.{PassParts, HasRead, counts_of}

-- how many entries the first m commits of a journal give a shard
abbrev pub entries_up_to : List Commit → ℕ → ℕ → ℕ → ℕ
entries_up_to journal shards m shard = length (shard_list (take m journal) shard shards)

-- A look at the journal: the place is that of all commits that the pass has then seen.
pub record HasLooked (before after : PassParts) (place : ℕ) : Type 0 where
  pub read : HasRead before after
  pub whole : place ≡ length after.journal
  pub stands : after.place ≡ place

-- A commit was appended behind commits that begin with those that the pass had seen, above its place, and conflicts with none of them;
-- it is one of the pass's own, and these ids were drawn for it.
pub record IsAppended (before after : PassParts) (c : Commit) (n : ℕ) (drawn : List ℕ) : Type 0 where
  pub front : List Commit
  pub seen : IsPrefix before.journal front
  pub journal : after.journal ≡ front ++ c ∷ []
  pub number : n ≡ length front + 1
  pub later : before.place < n
  pub committed : IsCommitted front c
  pub stands : after.place ≡ n
  pub lists : after.lists ≡ before.lists
  pub next : before.next ≤ after.next
  pub commits : after.commits ≡ before.commits ++ n ∷ []
  pub draws : after.draws ≡ before.draws ++ drawn

-- a commit that is refused for a conflict has it with the journal that the pass has then seen
pub record IsConflict (before after : PassParts) (touched : List Touch) (conflict : Conflict) : Type 0 where
  pub looked : HasLooked before after conflict.place
  pub is : conflict_of after.journal touched ≡ Some conflict

-- what holds of a conflict, where that is the cause of a refusal
abbrev pub WhereConflict : (Conflict → Type 0) → CommitCause → Type 0
WhereConflict P (cause.Conflict conflict) = P conflict
WhereConflict P cause.NoMemory = Unit {0}

-- what holds of the id counter, where no id is left
abbrev pub WhereExhausted : (ℕ → Type 0) → NewCause → Type 0
WhereExhausted P (new_cause.IdsExhausted next) = P next
WhereExhausted P new_cause.NoMemory = Unit {0}

-- the next ids were drawn, from the id counter on, which wasn't below the one that the pass knew
pub record HasDrawn (before after : PassParts) (first count : ℕ) : Type 0 where
  pub shown : before.next ≤ first
  pub within : first + count ≤ greatest_id
  pub after_is : after ≡ record before { next = first + count; draws = before.draws ++ numbers first (first + count) }

-- the id counter was looked at, and nothing else
pub record HasSeenNext (before after : PassParts) (next : ℕ) : Type 0 where
  pub shown : before.next ≤ next
  pub bounded : next ≤ greatest_id
  pub after_is : after ≡ record before { next = next }

-- Where a strong read stands: outside a transaction at all commits that the pass has then seen, no lower than it stood before, and
-- inside one at the touch place.
abbrev pub ReadsAt : Option ℕ → PassParts → PassParts → ℕ → Type 0
ReadsAt None before after m = (before.place ≤ m) × (m ≡ length after.journal) × (m ≤ after.place)
ReadsAt (Some place) before after m = (m ≡ place) × (m ≤ length after.journal)

-- A strong read of a group at a place: it has seen so many entries of the group's shard as the journal up to there has, and no list of
-- another shard changes.
pub record HasReadGroup (shards : ℕ) (before after : PassParts) (group : KeyParts) (at : Option ℕ) (m entries : ℕ) : Type 0 where
  pub read : HasRead before after
  pub stands : ReadsAt at before after m
  pub entries_are : entries ≡ entries_up_to after.journal shards m (shard_of group shards)
  pub seen : entries ≤ count_of (counts_of after) (shard_of group shards)

-- a get tells the entity of its key in the strong view at its place, if there is one
pub record IsGot (shards : ℕ) (before after : PassParts) (key : KeyParts) (at : Option ℕ) (found : Option EntityParts) (m entries : ℕ)
    : Type 0 where
  pub read : HasReadGroup shards before after (root_of key) at m entries
  pub exact : found ≡ entity_of (strong_view after.journal m) key

-- The versions of the touch place are gone: so many entries are applied that the window doesn't reach back to those up to the place.
pub record IsExpired (shards window : ℕ) (before after : PassParts) (group : KeyParts) (at : Option ℕ) (snapshot applied commit : ℕ)
    : Type 0 where
  pub place : ℕ
  pub inside : at ≡ Some place
  pub read : HasReadGroup shards before after group at place snapshot
  pub gone : snapshot + window ≤ applied
  pub applied_is : applied ≡ count_of (counts_of after) (shard_of group shards)
  pub no_lower : count_of (counts_of before) (shard_of group shards) ≤ applied
  pub commit_is : commit ≡ last_commit (list_of after.lists (shard_of group shards))
  pub stands : commit ≤ after.place

-- Entries were applied, or there was none to apply up to the place that was looked at.
abbrev pub AppliedCount : Bool → ℕ → ℕ → ℕ → Type 0
AppliedCount true before up_to count = (before < count) × (count ≤ up_to)
AppliedCount false before up_to count = up_to ≤ count

pub record HasApplied (shards : ℕ) (before after : PassParts) (shard : ℕ) (moved : Bool) (count place commit : ℕ) : Type 0 where
  pub read : HasRead before after
  pub seen : before.place ≤ place
  pub whole : place ≡ length after.journal
  pub count_is : count ≡ count_of (counts_of after) shard
  pub counted : AppliedCount moved (count_of (counts_of before) shard) (entries_up_to after.journal shards place shard) count
  pub commit_is : commit ≡ last_commit (list_of after.lists shard)
  pub stands : (place ≤ after.place) × (commit ≤ after.place)

-- each shard has applied at least all entries up to a place
abbrev pub AllApplied : ℕ → List Commit → ℕ → ℕ → List (List Entry) → Type 0
AllApplied shards journal m shard [] = Unit {0}
AllApplied shards journal m shard (entries ∷ lists) =
    (entries_up_to journal shards m shard ≤ length entries) × AllApplied shards journal m (shard + 1) lists

pub record HasSettled (shards : ℕ) (before after : PassParts) (place : ℕ) (counts : List ℕ) (commit : ℕ) : Type 0 where
  pub read : HasRead before after
  pub seen : before.place ≤ place
  pub within : place ≤ length after.journal
  pub counts_are : counts ≡ counts_of after
  pub applied : AllApplied shards after.journal place 0 after.lists
  pub commit_is : commit ≡ counted_place after.lists counts
  pub stands : (place ≤ after.place) × (commit ≤ after.place)

-- commits that were handed out: those above a place, up to all that the pass has then seen
pub record AreSince (before after : PassParts) (from place next : ℕ) (commits : List Commit) : Type 0 where
  pub looked : HasLooked before after place
  pub all : after.journal ≡ take from after.journal ++ commits
  pub next_is : after.next ≡ next

-- shard by shard no lower than these
abbrev pub AreAtLeast : List ℕ → List ℕ → Type 0
AreAtLeast [] [] = Unit {0}
AreAtLeast (least ∷ others) (count ∷ counts) = (least ≤ count) × AreAtLeast others counts
AreAtLeast [] (count ∷ counts) = ⊥
AreAtLeast (least ∷ others) [] = ⊥

-- what holds of an expiry, where that is the cause of a refusal
abbrev pub WhereExpired : (Expired → Type 0) → GetRefused → Type 0
WhereExpired P (get.Expired expired) = P expired
WhereExpired P get.NoMemory = Unit {0}
