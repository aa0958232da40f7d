-- What a run is whose index definitions change behind a round, and how it ends.
use Rattle.std.specs.Prelude.{◌≡◌, ℕ, ◌+◌, ◌≤◌, ◌⊎◌, List, [], ◌∷◌, ◌++◌}
use Rattle.std.specs.Prelude.{Bool, true, Option, Some, None, IfSome, flat_map, length, take, ⊤}
use Rattle.std.specs.Io.KnownBytes.{Consumes}
use Rattle.ds_row_limit.specs.ManyRows.{HaveFewRows, first_too_many}
use Rattle.ds_indexdef.specs.declared.IndexDef.{IndexDef}
use Rattle.ds_log.specs.declared.Commit.{Commit}
use Rattle.ds_reply.specs.declared.reply.Reply.{Reply}
use Rattle.ds_reply.specs.Replies.{replies_text}
use Rattle.ds_model.specs.Legal.{acknowledged}
use Rattle.ds_rounds.specs.Rounds.{NumberedLine, rounds_in}
use Rattle.ds_serve.specs.RunSteps.{StoppedPast, StoppedWithin}
use Rattle.ds_serve.specs.Runs.{IsUntouched}
use Rattle.ds_serving.specs.Runs.{AreFirst, WasSetUp, WereRun, Wrote}
use Rattle.ds_serving.specs.Settings.{AreRead, IsSetting}
use Rattle.ds_serving.specs.declared.settings.Setting.{Setting}
use Rattle.ds_words.specs.Exits.{exit_of}
use Rattle.ds_words.specs.declared.status.Status.TheVariants as status
use Rattle.ds_cutting.specs.LegalCut.{LegalCut}
use Rattle.ds_cutting.specs.declared.outcome.CutStatus.{CutStatus}
use Rattle.ds_cutting.specs.declared.outcome.CutStatus.TheVariants as cut

-- the number with which the program ends
abbrev pub cut_exit_of : CutStatus → ℕ
cut_exit_of (cut.Served how) = exit_of how
cut_exit_of (cut.NextFile line) = 8
cut_exit_of (cut.TooManyRows commit count) = 9

-- ---- how many rounds were run

-- the first n rounds were run, of an input of which these bytes were read, and whose end was met or not
abbrev pub WereFirst : ℕ → Bool → List ℕ → List (List NumberedLine) → Type 0
WereFirst n ended read rounds =
    (length rounds ≡ n) × ((behind : List (List NumberedLine)) × AreFirst rounds behind (rounds_in ended 1 read))

-- The rounds that were run: by the status of the server as there. Where a run ends at the cut, for too many rows or when out of memory,
-- they are the first n rounds, and there was no cut.
abbrev pub WereRunCut : CutStatus → Option ℕ → ℕ → Bool → List ℕ → List (List NumberedLine) → Type 0
WereRunCut (cut.Served how) cut_at n ended read rounds =
    WereRun how ended read rounds ⊎ ((how ≡ status.NoMemory) × (cut_at ≡ None) × WereFirst n ended read rounds)
WereRunCut (cut.NextFile line) cut_at n ended read rounds = (read ≡ []) × (rounds ≡ [])
WereRunCut (cut.TooManyRows commit count) cut_at n ended read rounds = WereFirst n ended read rounds

-- How many rounds were run where there was a cut: the first n at least, and a later one where some replies weren't taken.
abbrev pub IsCut : CutStatus → ℕ → ℕ → Type 0
IsCut (cut.Served how) n many = StoppedPast how n many
IsCut (cut.NextFile line) n many = ⊥
IsCut (cut.TooManyRows commit count) n many = ⊥

-- How many rounds were run where there was none: fewer than n, or n where the last one's replies weren't all taken, or where the run ends
-- at the cut, for too many rows or when out of memory.
abbrev pub IsUncut : CutStatus → ℕ → ℕ → Type 0
IsUncut (cut.Served status.NoMemory) n many = many ≤ n
IsUncut (cut.Served how) n many = StoppedWithin how n many
IsUncut (cut.NextFile line) n many = many ≡ 0
IsUncut (cut.TooManyRows commit count) n many = many ≡ n

-- ---- rows

-- The first commit of a journal that has a put with too many index rows under these definitions: its number, and how many rows the first
-- such put has.
pub record IsFirstTooMany (definitions : List IndexDef) (journal : List Commit) (commit count : ℕ) : Type 0 where
  pub before : List Commit
  pub next : Commit
  pub behind : List Commit
  pub all : journal ≡ before ++ next ∷ behind
  pub number : commit ≡ length before + 1
  pub few : HaveFewRows definitions before
  pub many : first_too_many definitions next.writes ≡ Some count

-- the cause of a run that ends for too many rows
abbrev pub AreTooMany : CutStatus → List IndexDef → List Commit → Type 0
AreTooMany (cut.TooManyRows commit count) definitions journal = IsFirstTooMany definitions journal commit count
AreTooMany _ definitions journal = ⊤

-- ---- the main theorem

-- the words and their index file set up this, and the second file has these definitions
pub record AreSettings (words : List (List ℕ)) (file : List ℕ) (content : List ℕ → Option (List ℕ)) (s : Setting) (second : List IndexDef)
    : Type 0 where
  pub setting : IsSetting words content s
  pub second_read : AreRead (content file) second

-- what the words and the index files set up, in a run that began to read, and in any that ran a round
abbrev pub WasSetUpCut : CutStatus → List (List NumberedLine) → Type 0 → Type 0
WasSetUpCut (cut.Served how) rounds set_up = WasSetUp how rounds set_up
WasSetUpCut (cut.NextFile line) rounds set_up = ⊤
WasSetUpCut (cut.TooManyRows commit count) rounds set_up = set_up

-- The bytes written, with the unsent rest, are the replies of one legal run, over the journal, of the rounds that were run, whose
-- definitions change behind the first n rounds: first those that these words and the file that they name set up, and then those of the
-- second file. The bytes that were read are those that the source had in front of what it has left, and all that it had where its end was
-- met. Where there was a cut, it tells how many commits the first n rounds made, and none of these has too many rows under the second
-- definitions.
pub record IsLegalCutRun (words : List (List ℕ)) (file : List ℕ) (n : ℕ) (content : List ℕ → Option (List ℕ)) (how : CutStatus)
    (cut_at : Option ℕ) (left rest : Option (List ℕ)) (journal : List Commit) (old new : Option (List ℕ)) (unsent : List ℕ) : Type 0 where
  pub read : List ℕ
  pub told : Consumes left rest read
  pub ended : Bool
  pub at_the_end : ended ≡ true → IfSome left (λ bytes. bytes ≡ read)
  pub rounds : List (List NumberedLine)
  pub replies : List Reply
  pub setting : Setting
  pub second : List IndexDef
  pub run : WereRunCut how cut_at n ended read rounds
  pub set_up : WasSetUpCut how rounds (AreSettings words file content setting second)
  pub legal : LegalCut setting.defs second setting.shards (Some setting.window) n rounds journal replies
  pub written : Wrote old new unsent (replies_text replies)
  pub at_cut : IfSome cut_at (λ place. IsCut how n (length rounds) × (place ≡ length (flat_map acknowledged legal.early))
      × HaveFewRows second (take place journal))
  pub uncut : cut_at ≡ None → IsUncut how n (length rounds)
  pub too_many : AreTooMany how second journal

-- ---- how a run ends

-- nothing was read or written
abbrev pub IsUntouchedCut : CutStatus → Type 0
IsUntouchedCut (cut.Served how) = IsUntouched how
IsUntouchedCut (cut.NextFile line) = ⊤
IsUntouchedCut (cut.TooManyRows commit count) = ⊥

-- a status of a run that met no fault and no limit, and whose words and files have their forms
abbrev pub IsFinished : CutStatus → Type 0
IsFinished (cut.Served status.Done) = ⊤
IsFinished (cut.Served status.NoMemory) = ⊤
IsFinished (cut.TooManyRows commit count) = ⊤
IsFinished _ = ⊥
