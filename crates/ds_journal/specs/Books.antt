-- What a book of commits is, and what it keeps.
use Rattle.std.specs.Prelude.{◌≡◌, ◌⊎◌, ℕ, ◌+◌, ◌≤◌, List, ◌&&◌, cond, nat_lt, length, Option, Some, None}
use Rattle.std.specs.Option.{option_map}
use Rattle.ds_base.specs.Limits.{first_drawn_id, greatest_id, most_commits}
use Rattle.ds_log.specs.declared.Commit.{Commit}
use Rattle.ds_log.specs.declared.Conflict.{Conflict}
use Rattle.ds_log.specs.Conflicts.{IsSerial}
use Rattle.ds_log.specs.Ids.{AllIssued}
use Rattle.ds_journal.specs.declared.refusals.CommitCause.{CommitCause}
use Rattle.ds_journal.specs.declared.refusals.CommitCause.TheVariants as cause

pub record BookParts : Type 0 where
  -- all commits, the n-th being commit n
  pub journal : List Commit
  -- the id counter: the next id that is drawn
  pub next : ℕ
  -- a commit of fewer writes than this asks for no memory
  pub spare : ℕ

-- what each book keeps
pub record IsBook (journal : List Commit) (next : ℕ) : Type 0 where
  -- no commit conflicted when it was appended, each has at most 500 writes, and its touch places are below its number
  pub serial : IsSerial journal
  -- each id of 2^52 or more in a written key is below the counter
  pub issued : AllIssued next journal
  -- the counter is from 2^52 to 2^63 - 1
  pub drawn : first_drawn_id ≤ next
  pub left : next ≤ greatest_id
  -- there are at most 2^48 commits
  pub bounded : length journal ≤ most_commits

-- the room for one commit, of a list of so many commits and a capacity, with room for some groups in the heads
abbrev pub room_for_commit : ℕ → ℕ → ℕ → ℕ
room_for_commit commits capacity groups = cond (nat_lt commits capacity && nat_lt commits most_commits) (groups + 1) 0

-- the answer to a commit that has this conflict or none: the conflict, or where there is none lack of memory
abbrev pub IsCommitAnswer : Option Conflict → Option CommitCause → Type 0
IsCommitAnswer conflict answer = (answer ≡ option_map cause.Conflict conflict) ⊎ ((conflict ≡ None) × (answer ≡ Some cause.NoMemory))
