-- What is told of a file that was read, and of its parts.
use Rattle.std.specs.Prelude.{◌≡◌, ℕ, ◌≤◌, List, ◌++◌, true, false, length, drop, IsTrue}
use Rattle.ds_log.specs.declared.Commit.{Commit}
use Rattle.ds_log.specs.Conflicts.{IsCommitted}
use Rattle.ds_log.specs.Ids.{AreIssued}
use Rattle.ds_journal.specs.Books.{BookParts}
use Rattle.ds_journal_text.specs.Texts.{commits_text}
use Rattle.ds_kept_file.specs.Files.{Kept, Batch, with_batch, next_number, body_of, is_open}
use Rattle.ds_kept_file.specs.Files.{MayFollow, Continues, BeginsWith, StandsFor, HasNoBatch, IsDamaged}
use Rattle.ds_kept_file.specs.declared.reading.FileRead.{FileRead}

-- ---- a file

-- what a reading found that is kept
abbrev pub found : FileRead → Kept
found read = record { journal = read.journal; next = read.next }

-- the reading tells of the file all that there is to tell
pub record IsReadingOf (file : List ℕ) (read : FileRead) : Type 0 where
  -- whole batches stand in front of the gate, by which this is kept
  pub front : BeginsWith file (found read) (drop read.gate file)
  pub within : read.gate ≤ length file
  -- the file is damaged exactly where that gate is open, and then there is no batch behind it that may follow
  pub gate : is_open (drop read.gate file) ≡ read.damaged
  pub none : IsTrue read.damaged → HasNoBatch (found read) (drop read.gate file)
  -- a file that stands for something isn't damaged, and stands for this alone
  pub alone : (other : Kept) → StandsFor other file → (read.damaged ≡ false) × (other ≡ found read)
  -- a file that is damaged is so at that gate
  pub there : (place : ℕ) (other : Kept) → IsDamaged file place other → (read.damaged ≡ true) × (place ≡ read.gate)

-- ---- the body of a batch

abbrev pub kept_in : BookParts → Kept
kept_in book = record { journal = book.journal; next = book.next }

-- a body was read, after which this is kept: it is that of a batch that may follow, and of no other
pub record IsBodyRead (kept : Kept) (body : List ℕ) (now : Kept) : Type 0 where
  pub batch : Batch
  pub is : body ≡ body_of (next_number kept) batch
  pub continues : Continues kept batch
  pub after : now ≡ with_batch kept batch
  pub alone : (other : Batch) → body ≡ body_of (next_number kept) other → Continues kept other → now ≡ with_batch kept other

abbrev pub HasNoBody : Kept → List ℕ → Type 0
HasNoBody kept body = (batch : Batch) → body ≡ body_of (next_number kept) batch → Continues kept batch → ⊥

-- ---- the lines of its commits

-- what stands behind a journal's last line is the text of these commits
abbrev pub AreNext : Kept → List ℕ → List Commit → Type 0
AreNext kept text commits = (text ≡ commits_text (next_number kept) commits) × MayFollow kept.journal kept.next commits

-- lines were read, after which this is kept: they are those of commits that may follow, and of no others
pub record AreLinesRead (kept : Kept) (text : List ℕ) (now : Kept) : Type 0 where
  pub commits : List Commit
  pub next : AreNext kept text commits
  pub journal : now.journal ≡ kept.journal ++ commits
  pub counter : now.next ≡ kept.next
  pub alone : (others : List Commit) → AreNext kept text others → now.journal ≡ kept.journal ++ others

-- this commit may follow
pub record MayCommit (kept : Kept) (commit : Commit) : Type 0 where
  pub committed : IsCommitted kept.journal commit
  pub issued : AreIssued kept.next commit.writes
