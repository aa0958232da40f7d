-- What a verdict on the replies of a run says.
use Rattle.std.specs.Prelude.{◌≡◌, ℕ, ◌+◌, List, [], ◌∷◌, ◌++◌, Some, flat_map, length, map, slice_get, slice_set, take, All}
use Rattle.std.specs.Prelude.{IsPermutation}
use Rattle.std.specs.List.{range_with_len}
use Rattle.ds_indexdef.specs.declared.IndexDef.{IndexDef}
use Rattle.ds_log.specs.declared.Commit.{Commit}
use Rattle.ds_model.specs.Answers.{Answers}
use Rattle.ds_model.specs.Asked.{Reading, asked, client_of}
use Rattle.ds_model.specs.Legal.{IdsDrawn, Legal, acknowledged, answered_lines, by_client}
use Rattle.ds_model.specs.Sessions.{Session, first_sessions, met}
use Rattle.ds_model.specs.Worlds.{World, world_of}
use Rattle.ds_reply.specs.declared.reply.Reply.{Reply}
use Rattle.ds_reply.specs.Replies.{reply_text, replies_text}
use Rattle.ds_rounds.specs.Drafts.{IsUnbroken}
use Rattle.ds_rounds.specs.Rounds.{NumberedLine}
use Rattle.ds_judging_lines.specs.Deciding.{HasCounter}
use Rattle.ds_check.specs.declared.checking.Verdict.{Verdict}
use Rattle.ds_check.specs.declared.checking.Verdict.TheVariants as verdict

-- ---- one line of a reply for each line

-- these lines, each with its newline
abbrev pub ended_lines : List (List ℕ) → List ℕ
ended_lines = flat_map (λ line. line ++ 10 ∷ [])

-- the text is of so many whole lines
pub record HasLines (count : ℕ) (text : List ℕ) : Type 0 where
  pub lines : List (List ℕ)
  pub whole : All IsUnbroken lines
  pub text_is : text ≡ ended_lines lines
  pub counted : length lines ≡ count

-- ---- a run, turn by turn

-- the sessions meet, or a client's line is answered
pub data Turn : Type 0 where
  Meet : Turn
  Answer : ℕ → NumberedLine → Turn

-- the turns of rounds, in the order of the replies
abbrev pub turns_of : Reading → List (List NumberedLine) → List Turn
turns_of reading = flat_map (λ round. Meet ∷ map (λ line. Answer (client_of reading line.content) line) (by_client reading round))

-- the replies are answers, one turn after another, from these sessions to those
abbrev pub Course : Reading → World → List Session → List Turn → List Reply → List Session → Type 0
Course reading w sessions [] [] after = after ≡ sessions
Course reading w sessions [] (r ∷ replies) after = ⊥
Course reading w sessions (Meet ∷ turns) replies after = Course reading w (met sessions) turns replies after
Course reading w sessions (Answer client line ∷ turns) [] after = ⊥
Course reading w sessions (Answer client line ∷ turns) (r ∷ replies) after =
    (s : Session) × (next : Session) × (slice_get sessions client ≡ Some s) × Answers reading w s line r next
    × Course reading w (slice_set sessions client next) turns replies after

-- the lines are replies that answer the turns
pub record Stand (reading : Reading) (w : World) (turns : List Turn) (lines : List (List ℕ)) : Type 0 where
  pub replies : List Reply
  pub after : List Session
  pub counters : All (λ r. HasCounter r.body) replies
  pub texts : map reply_text replies ≡ map (λ line. line ++ 10 ∷ []) lines
  pub course : Course reading w (first_sessions w.shards) turns replies after

-- The reply to the line of this number is the first that is wrong: the lines before it are answers, and with it they aren't.
pub record IsFirstWrongReply (reading : Reading) (w : World) (turns : List Turn) (lines : List (List ℕ)) (number : ℕ) : Type 0 where
  pub before : List Turn
  pub client : ℕ
  pub line : NumberedLine
  pub behind : List Turn
  pub replied : ℕ
  pub split : turns ≡ before ++ (Answer client line ∷ behind)
  pub stand : Stand reading w before (take replied lines)
  pub fall : Stand reading w (before ++ Answer client line ∷ []) (take (replied + 1) lines) → ⊥
  pub told : number ≡ line.number

-- ---- verdicts

-- the text is that of the replies of a legal run
pub record IsLegalText (definitions : List IndexDef) (shards window : ℕ) (rounds : List (List NumberedLine)) (journal : List Commit)
    (text : List ℕ) : Type 0 where
  pub replies : List Reply
  pub written : text ≡ replies_text replies
  pub legal : Legal definitions shards (Some window) rounds journal replies

-- all replies are answers, and of the numbers that they tell this holds
pub record AllAnswer (reading : Reading) (w : World) (rounds : List (List NumberedLine)) (text : List ℕ) (numbers : List Reply → Type 0)
    : Type 0 where
  pub replies : List Reply
  pub after : List Session
  pub counters : All (λ r. HasCounter r.body) replies
  pub written : text ≡ replies_text replies
  pub course : Course reading w (first_sessions w.shards) (turns_of reading rounds) replies after
  pub of_numbers : numbers replies

-- the acknowledged commits are those of the journal, each once
abbrev pub AcknowledgesAll : List Commit → List Reply → Type 0
AcknowledgesAll journal replies = IsPermutation (flat_map acknowledged replies) (range_with_len 1 (length journal))

-- the run is legal; or the first of these holds
abbrev pub IsVerdict : List IndexDef → ℕ → ℕ → List (List NumberedLine) → List Commit → List ℕ → Verdict → Type 0
IsVerdict definitions shards window rounds journal text verdict.Legal = IsLegalText definitions shards window rounds journal text
IsVerdict definitions shards window rounds journal text verdict.Count =
    HasLines (length (answered_lines (asked shards) rounds)) text → ⊥
IsVerdict definitions shards window rounds journal text (verdict.Reply number) =
    (has : HasLines (length (answered_lines (asked shards) rounds)) text)
    × IsFirstWrongReply (asked shards) (world_of definitions shards (Some window) journal) (turns_of (asked shards) rounds) has.lines number
IsVerdict definitions shards window rounds journal text verdict.Numbers =
    AllAnswer (asked shards) (world_of definitions shards (Some window) journal) rounds text (λ replies. AcknowledgesAll journal replies
    → ⊥)
IsVerdict definitions shards window rounds journal text verdict.Ids =
    AllAnswer (asked shards) (world_of definitions shards (Some window) journal) rounds text
    (λ replies. AcknowledgesAll journal replies × (IdsDrawn (asked shards) rounds replies → ⊥))
