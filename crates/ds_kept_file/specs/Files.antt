-- A kept journal's file: batches, and then a closed gate.
use Rattle.std.specs.Prelude.{◌≡◌, ℕ, ◌+◌, ◌<◌, ◌≤◌, List, [], ◌∷◌, ◌++◌, ◌==◌, Bool, true, false, length, drop, codes, All, ⊤}
use Rattle.std.specs.Int.{w64, to_be_bytes}
use Rattle.serde_json.specs.Written.{compact_text}
use Rattle.ds_base.specs.Limits.{first_drawn_id, greatest_id}
use Rattle.ds_log.specs.declared.Commit.{Commit}
use Rattle.ds_log.specs.Conflicts.{IsSerial}
use Rattle.ds_log.specs.Ids.{AllIssued}
use Rattle.ds_json_printing.specs.Printing.{natural, tagged}
use Rattle.ds_journal_text.specs.Lawful.{IsLawfulCommit}
use Rattle.ds_journal_text.specs.Texts.{commits_text}

-- what a file keeps: all commits, and the id counter, which is the next id that is drawn
pub record Kept : Type 0 where
  pub journal : List Commit
  pub next : ℕ

-- at first there is no commit, and the counter is 2^52
abbrev pub nothing : Kept
nothing = record { journal = []; next = first_drawn_id }

-- what one append adds: commits, and the id counter from then on
pub record Batch : Type 0 where
  pub commits : List Commit
  pub next : ℕ

abbrev pub with_batch : Kept → Batch → Kept
with_batch kept batch = record { journal = kept.journal ++ batch.commits; next = batch.next }

-- ---- the bytes of a batch

-- the line {"next":N}, without its newline
abbrev pub next_line : ℕ → List ℕ
next_line next = compact_text (tagged (codes "next") (natural next))

-- the body: the counter's line, and the lines of the commits, which are numbered as in the journal, the first by n
abbrev pub body_of : ℕ → Batch → List ℕ
body_of n batch = next_line batch.next ++ 10 ∷ commits_text n batch.commits

-- the body behind its length, which is 8 bytes, highest first
abbrev pub sized : List ℕ → List ℕ
sized body = to_be_bytes w64 (length body) ++ body

-- an open gate, and the body with its length
abbrev pub opened : List ℕ → List ℕ
opened body = 1 ∷ sized body

-- the number of the next commit
abbrev pub next_number : Kept → ℕ
next_number kept = length kept.journal + 1

-- batches one behind another, of which the first is appended to what is kept so far
abbrev pub batches_bytes : Kept → List Batch → List ℕ
batches_bytes kept [] = []
batches_bytes kept (batch ∷ batches) = opened (body_of (next_number kept) batch) ++ batches_bytes (with_batch kept batch) batches

-- a gate is open exactly where its byte is 1 and a byte follows it
abbrev pub is_open : List ℕ → Bool
is_open (gate ∷ byte ∷ bytes) = gate == 1
is_open bytes = false

-- ---- which batches may follow

-- What commits meet that are appended to a journal while the id counter is `next`.
pub record MayFollow (journal : List Commit) (next : ℕ) (commits : List Commit) : Type 0 where
  -- they can be written: each has at most 500 writes, and is what the types of the code can hold
  pub lawful : All IsLawfulCommit commits
  -- with them the journal is still one serial history: none conflicts with a commit before it
  pub serial : IsSerial (journal ++ commits)
  -- each id of 2^52 or more in a written key is below the counter
  pub issued : AllIssued next commits

-- What a batch meets that is appended to what is kept.
pub record Continues (kept : Kept) (batch : Batch) : Type 0 where
  pub follow : MayFollow kept.journal batch.next batch.commits
  -- the counter doesn't fall, so that it is never below 2^52, and is at most 2^63 - 1
  pub rises : kept.next ≤ batch.next
  pub bounded : batch.next ≤ greatest_id

abbrev pub AreContinuing : Kept → List Batch → Type 0
AreContinuing kept [] = ⊤
AreContinuing kept (batch ∷ batches) = Continues kept batch × AreContinuing (with_batch kept batch) batches

-- what is kept after batches
abbrev pub kept_after : Kept → List Batch → Kept
kept_after kept [] = kept
kept_after kept (batch ∷ batches) = kept_after (with_batch kept batch) batches

-- ---- what a file stands for

-- What is kept grows by these batches to `all`, and these bytes stand behind them: a gate at least, unless there is no byte at all.
pub record Leads (kept : Kept) (bytes : List ℕ) (all : Kept) (behind : List ℕ) : Type 0 where
  pub batches : List Batch
  pub split : bytes ≡ batches_bytes kept batches ++ behind
  pub continuing : AreContinuing kept batches
  pub after : kept_after kept batches ≡ all
  pub gate : 0 < length bytes → 0 < length behind

-- the file's first bytes are whole batches, by which this is kept, and these bytes stand behind them
abbrev pub BeginsWith : List ℕ → Kept → List ℕ → Type 0
BeginsWith file kept behind = Leads nothing file kept behind

-- a file stands for this journal and counter: batches that keep it, and then a closed gate, whatever is behind it; or no byte
abbrev pub StandsFor : Kept → List ℕ → Type 0
StandsFor kept file = (behind : List ℕ) × BeginsWith file kept behind × (is_open behind ≡ false)

-- no batch that may follow stands there with a next gate behind it
abbrev pub HasNoBatch : Kept → List ℕ → Type 0
HasNoBatch kept bytes =
    (batch : Batch) (gates : List ℕ) → bytes ≡ opened (body_of (next_number kept) batch) ++ gates → 0 < length gates → Continues kept batch → ⊥

-- A file is damaged: behind whole batches, by which this is kept, a gate is open, at this place, and there is no batch behind it that
-- may follow.
pub record IsDamaged (file : List ℕ) (place : ℕ) (kept : Kept) : Type 0 where
  pub front : BeginsWith file kept (drop place file)
  pub opens : is_open (drop place file) ≡ true
  pub none : HasNoBatch kept (drop place file)
