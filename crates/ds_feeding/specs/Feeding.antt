-- What feeding commits into another store leaves.
use Rattle.std.specs.Prelude.{◌≡◌, ℕ, ◌+◌, ◌-◌, ◌≤◌, List, [], ◌∷◌, ◌++◌, Some, All, length, max, slice_get, take, ⊤}
use mathlib.Core.List.{IsPrefix}
use Rattle.ds_base.specs.Limits.{most_commits}
use Rattle.ds_indexdef.specs.declared.IndexDef.{IndexDef}
use Rattle.ds_log.specs.declared.Commit.{Commit}
use Rattle.ds_log.specs.Conflicts.{IsSerial}
use Rattle.ds_log.specs.Ids.{AllIssued}
use Rattle.ds_store.specs.Answered.{AllApplied}
use Rattle.ds_store.specs.Loads.{LoadingParts, loaded}
use Rattle.ds_store.specs.Lower.{IsNoLower}
use Rattle.ds_store.specs.Passes.{HasRead, PassParts, StoreParts, nothing_seen}
use Rattle.ds_row_limit.specs.ManyRows.{HaveFewRows, first_too_many}
use Rattle.ds_feeding.specs.declared.refused.ReindexRefused.{ReindexRefused}
use Rattle.ds_feeding.specs.declared.refused.ReindexRefused.TheVariants as refused

-- Commits of a journal were fed, behind those that were fed before: none of them has too many rows.
pub record AreFed (definitions : List IndexDef) (journal : List Commit) (before after : LoadingParts) : Type 0 where
  pub behind : List Commit
  pub fed : after.journal ≡ before.journal ++ behind
  pub few : HaveFewRows definitions behind
  pub begins : IsPrefix after.journal journal
  pub shards : after.shards ≡ before.shards
  pub passes : after.passes ≡ before.passes
  pub least : before.next ≤ after.next

-- The next commits of those that a pass has seen, at most so many, with its place, which is that of the last one; and the ids are drawn
-- that are below its id counter.
pub record IsNextPart (before drawn : LoadingParts) (seen : PassParts) (most : ℕ) (commits : List Commit) (place : ℕ) : Type 0 where
  pub draws : drawn ≡ record before { next = max before.next seen.next }
  pub part : before.journal ++ commits ≡ take (length before.journal + most) seen.journal
  pub serial : IsSerial seen.journal
  pub issued : AllIssued drawn.next commits
  pub whole : place ≡ length seen.journal
  pub stands : seen.place ≡ place
  pub few : place ≤ most_commits

-- what holds of a commit's number and of a number of rows, where too many are the cause of a refusal
abbrev pub WhereTooMany : (ℕ → ℕ → Type 0) → ReindexRefused → Type 0
WhereTooMany P (refused.TooManyRows commit count) = P commit count
WhereTooMany P refused.NoMemory = ⊤

-- the next commit that is to be fed has too many rows, and that is its number
pub record HasTooMany (definitions : List IndexDef) (journal fed : List Commit) (commit count : ℕ) : Type 0 where
  pub next : Commit
  pub there : slice_get journal (length fed) ≡ Some next
  pub number : commit ≡ length fed + 1
  pub many : first_too_many definitions next.writes ≡ Some count

-- What feeding leaves beside a running store: a pass of that store has seen more, and some of the commits that it has then seen were fed.
-- The pass stands no lower than they are, and no id was drawn that isn't below the id counter which it has seen.
pub record HasFed (definitions : List IndexDef) (old new : PassParts) (before after : LoadingParts) : Type 0 where
  pub read : HasRead old new
  pub fed : AreFed definitions new.journal before after
  pub stands : length after.journal ≤ new.place
  pub next : after.next ≤ max before.next new.next

-- ---- the cut

-- all commits that a pass has seen were fed, and all ids below the id counter that it has seen were drawn; it stands at the last commit
pub record HasFedAll (definitions : List IndexDef) (before after : LoadingParts) (seen : PassParts) (place : ℕ) : Type 0 where
  pub fed : AreFed definitions seen.journal before after
  pub all : after.journal ≡ seen.journal
  pub drawn : after.next ≡ max before.next seen.next
  pub whole : place ≡ length seen.journal
  pub stands : seen.place ≡ place

-- one after another, these passes have gone on from those
abbrev pub HaveRead : List PassParts → List PassParts → Type 0
HaveRead [] [] = ⊤
HaveRead (p ∷ before) (q ∷ after) = HasRead p q × HaveRead before after
HaveRead [] (q ∷ after) = ⊥
HaveRead (p ∷ before) [] = ⊥

-- A pass of the second store has seen no less than one of the old store had, and all entries up to that one's place are applied.
pub record HasCaughtUp (shards : ℕ) (old new : PassParts) : Type 0 where
  pub no_lower : IsNoLower old new
  pub place : ℕ
  pub up_to : old.place ≤ place
  pub applied : AllApplied shards new.journal place 0 new.lists

-- So many passes that have done nothing since they were made, and the one that loaded: all have caught up.
pub record AreCaughtUp (shards : ℕ) (old : PassParts) (n : ℕ) (loader : PassParts) (passes : List PassParts) : Type 0 where
  pub front : List PassParts
  pub last : PassParts
  pub all : passes ≡ front ++ last ∷ []
  pub many : length front ≡ n
  pub idle : All (HasRead (nothing_seen shards)) front
  pub read : HasRead loader last
  pub caught_up : All (HasCaughtUp shards old) passes

-- What was loaded is shared, and its passes have caught up with one of another store.
pub record IsSharedWith (before : LoadingParts) (old : PassParts) (store : StoreParts) (passes : List PassParts) : Type 0 where
  pub shards : store.shards ≡ before.shards
  pub many : store.passes ≡ before.passes
  pub some : 1 ≤ before.passes
  pub caught_up : AreCaughtUp before.shards old (before.passes - 1) (loaded before.shards before.journal before.next) passes

-- The second store has the old one's journal and id counter, as a pass of the old one has then seen them, and no more; its passes have
-- caught up with that pass.
pub record IsCutOver (definitions : List IndexDef) (before : LoadingParts) (old : PassParts) (store : StoreParts) (passes : List PassParts)
    (place : ℕ) : Type 0 where
  pub shards : store.shards ≡ before.shards
  pub many : store.passes ≡ before.passes
  pub caught_up : AreCaughtUp before.shards old (before.passes - 1) (loaded before.shards old.journal (max before.next old.next)) passes
  pub whole : place ≡ length old.journal
  pub stands : old.place ≡ place
  pub some : 1 ≤ before.passes
  pub behind : List Commit
  pub fed : old.journal ≡ before.journal ++ behind
  pub few : HaveFewRows definitions behind

-- of the commits that were still to be fed one has too many rows, and none before it
pub record HasTooManyLeft (definitions : List IndexDef) (journal before : List Commit) (commit count : ℕ) : Type 0 where
  pub behind : List Commit
  pub begins : IsPrefix (before ++ behind) journal
  pub few : HaveFewRows definitions behind
  pub many : HasTooMany definitions journal (before ++ behind) commit count
