-- Replies held against what lines ask, one step after another.
use Rattle.std.specs.Prelude.{◌≡◌, ℕ, suc, ◌+◌, ◌<◌, Bool, true, false, List, [], ◌∷◌, ◌++◌, Option, Some, None, Result, Ok, Err}
use Rattle.std.specs.Prelude.{flat_map, fold, length, map, max, slice_get, slice_set, All, IsPermutation, ⊤}
use Rattle.std.specs.List.{range_with_len}
use Rattle.ds_base.specs.Limits.{greatest_client}
use Rattle.ds_asked.specs.declared.lines.Asked.{Asked}
use Rattle.ds_asked.specs.AskedLines.{MayBeAnswered, was_read}
use Rattle.ds_model.specs.Answers.{BodyAnswers}
use Rattle.ds_model.specs.Legal.{acknowledged_in, drawn_by}
use Rattle.ds_model.specs.Sessions.{Session, met}
use Rattle.ds_model.specs.Worlds.{World}
use Rattle.ds_reply.specs.declared.reply.Body.{Body}
use Rattle.ds_reply.specs.declared.reply.Reply.{Reply}
use Rattle.ds_reply.specs.Replies.{reply_text}
use Rattle.ds_told.specs.Told.{AreIssued, ToldParts, above_in, ids_of, printed_in}
use Rattle.ds_told.specs.declared.told.Tally.{Tally}
use Rattle.ds_told.specs.declared.told.Tally.TheVariants as tally
use Rattle.ds_judging_lines.specs.Deciding.{HasCounter, IsSessionIn, IsTheAnswer, NoAnswer}
use Rattle.ds_check.specs.declared.checking.Verdict.{Verdict}
use Rattle.ds_check.specs.declared.checking.Verdict.TheVariants as verdict
use Rattle.ds_check.specs.declared.steps.Step.{Step}
use Rattle.ds_check.specs.declared.steps.Step.TheVariants.{Meet, Ask}

-- ---- steps

-- the steps of one client's lines in a round
abbrev pub client_steps : List Asked → List Step
client_steps = map Ask

-- the sessions meet, and then each client's lines are answered
abbrev pub round_steps : List (List Asked) → List Step
round_steps lists = Meet ∷ flat_map client_steps lists

abbrev pub steps_of : List (List (List Asked)) → List Step
steps_of = flat_map round_steps

-- how many lines are answered
abbrev pub asks : List Step → ℕ
asks [] = 0
asks (Meet ∷ steps) = asks steps
asks (Ask a ∷ steps) = suc (asks steps)

-- ---- replies

-- the reply answers what was asked
pub record IsReply (w : World) (s : Session) (a : Asked) (r : Reply) (after : Session) : Type 0 where
  pub numbered : r.line ≡ a.number
  pub addressed : r.client ≡ a.client
  pub said : BodyAnswers w s (was_read a) r.body after

-- the replies answer the steps, one after another
abbrev pub Walk : World → List Session → List Step → List Reply → List Session → Type 0
Walk w sessions [] [] after = after ≡ sessions
Walk w sessions [] (r ∷ replies) after = ⊥
Walk w sessions (Meet ∷ steps) replies after = Walk w (met sessions) steps replies after
Walk w sessions (Ask a ∷ steps) [] after = ⊥
Walk w sessions (Ask a ∷ steps) (r ∷ replies) after =
    (s : Session) × (next : Session) × (slice_get sessions a.client ≡ Some s) × IsReply w s a r next
    × Walk w (slice_set sessions a.client next) steps replies after

-- the lines are those of the replies
abbrev pub AreReplies : List Reply → List (List ℕ) → Type 0
AreReplies [] [] = ⊤
AreReplies (r ∷ replies) (line ∷ lines) = HasCounter r.body × (reply_text r ≡ line ++ 10 ∷ []) × AreReplies replies lines
AreReplies _ _ = ⊥

-- ---- the numbers that replies tell

-- the ids that the replies to these steps tell as drawn
abbrev pub drawn_steps : List Step → List Reply → List ℕ
drawn_steps [] replies = []
drawn_steps (Meet ∷ steps) replies = drawn_steps steps replies
drawn_steps (Ask a ∷ steps) [] = []
drawn_steps (Ask a ∷ steps) (r ∷ replies) = drawn_by (was_read a) r.body ++ drawn_steps steps replies

-- what is noted of replies
pub record IsTold (steps : List Step) (replies : List Reply) (told : ToldParts) : Type 0 where
  pub commits : told.commits ≡ flat_map (λ r. acknowledged_in r.body) replies
  pub drawn : ids_of told.drawn ≡ drawn_steps steps replies
  pub accepted : told.accepted ≡ fold (λ m r. max m (above_in r.body)) 0 replies
  pub printed : told.printed ≡ fold (λ m r. max m (printed_in r.body)) 0 replies

-- what is noted of one reply more
pub record IsNoted (a : Asked) (said : Body) (told later : ToldParts) : Type 0 where
  pub commits : later.commits ≡ told.commits ++ acknowledged_in said
  pub drawn : ids_of later.drawn ≡ ids_of told.drawn ++ drawn_by (was_read a) said
  pub accepted : later.accepted ≡ max told.accepted (above_in said)
  pub printed : later.printed ≡ max told.printed (printed_in said)

-- ---- as far as the steps have come

-- replies that answer these steps and have these lines: whatever answers the steps and others behind them, and has the lines in front of
-- others, begins with them and goes on from these sessions
pub record Stands (w : World) (sessions : List Session) (steps : List Step) (lines : List (List ℕ)) (now : List Session)
    (replies : List Reply) : Type 0 where
  pub counted : asks steps ≡ length replies
  pub lines_counted : length lines ≡ length replies
  pub further : (more : List Step) (rest : List Reply) (after : List Session) → Walk w now more rest after
      → Walk w sessions (steps ++ more) (replies ++ rest) after
  pub read : (behind : List (List ℕ)) (rest : List Reply) → AreReplies rest behind → AreReplies (replies ++ rest) (lines ++ behind)
  pub only : (more : List Step) (behind : List (List ℕ)) (others : List Reply) (after : List Session)
      → AreReplies others (lines ++ behind) → Walk w sessions (steps ++ more) others after
      → (rest : List Reply) × (others ≡ replies ++ rest) × AreReplies rest behind × Walk w now more rest after

-- the reply to what was asked is right, and what its client has seen behind it is among the sessions
pub record IsRight (w : World) (sessions : List Session) (told : ToldParts) (a : Asked) (line : List ℕ) (next : List Session)
    (later : ToldParts) : Type 0 where
  pub said : Body
  pub session : Session
  pub after : Session
  pub own : slice_get sessions a.client ≡ Some session
  pub put : next ≡ slice_set sessions a.client after
  pub answer : IsTheAnswer (λ said after. BodyAnswers w session (was_read a) said after) a.client a.number line said after
  pub noted : IsNoted a said told later

-- no reply to what was asked has the line
pub record IsWrong (w : World) (sessions : List Session) (a : Asked) (line : List ℕ) : Type 0 where
  pub session : Session
  pub own : slice_get sessions a.client ≡ Some session
  pub none : NoAnswer (λ said after. BodyAnswers w session (was_read a) said after) a.client a.number line

-- all replies are the only ones, and their numbers noted
pub record IsWalked (w : World) (sessions : List Session) (steps : List Step) (lines : List (List ℕ)) (told : ToldParts) : Type 0 where
  pub after : List Session
  pub replies : List Reply
  pub stands : Stands w sessions steps lines after replies
  pub told_is : IsTold steps replies told

-- the replies to the lines before this one are the only ones, and none answers this one
pub record IsFirstWrong (w : World) (sessions : List Session) (steps : List Step) (lines : List (List ℕ)) (number : ℕ) : Type 0 where
  pub before : List Step
  pub asked : Asked
  pub behind : List Step
  pub split : steps ≡ before ++ Ask asked ∷ behind
  pub front : List (List ℕ)
  pub line : List ℕ
  pub others : List (List ℕ)
  pub lines_split : lines ≡ front ++ line ∷ others
  pub now : List Session
  pub replies : List Reply
  pub stands : Stands w sessions before front now replies
  pub wrong : IsWrong w now asked line
  pub told : number ≡ asked.number

-- ---- the code's steps

-- each client has a session, with a count for each shard and a shown id counter that isn't 0
pub record AreSessions (shards : ℕ) (sessions : List Session) : Type 0 where
  pub clients : length sessions ≡ greatest_client + 1
  pub each : All (IsSessionIn shards) sessions

-- what a line asks may be asked of so many shards
abbrev pub MayBeTaken : ℕ → Step → Type 0
MayBeTaken shards Meet = ⊤
MayBeTaken shards (Ask a) = MayBeAnswered shards a

-- there is a reply for the step, behind so many others
abbrev pub IsReplied : Step → ℕ → ℕ → Type 0
IsReplied Meet answered count = ⊤
IsReplied (Ask a) answered count = answered < count

-- where a line is answered this holds
abbrev pub IfAsk : Step → Type 0 → Type 0
IfAsk Meet fact = ⊤
IfAsk (Ask a) fact = fact

-- the reply to what was asked is an answer; or none is
abbrev pub IsFound : World → List Session → ToldParts → Asked → List ℕ → Bool → List Session → ToldParts → Type 0
IsFound w sessions told a line true next later = IsRight w sessions told a line next later
IsFound w sessions told a line false next later = IsWrong w sessions a line

-- the step is taken: the sessions met, or one more reply is an answer; or it is wrong, and its line's number is told
abbrev pub IsTaken : World → List Session → ToldParts → List (List ℕ) → ℕ → Step → Result ℕ ℕ → List Session → ToldParts → Type 0
IsTaken w sessions told lines answered Meet (Ok count) next later = (count ≡ answered) × (next ≡ met sessions) × (later ≡ told)
IsTaken w sessions told lines answered Meet (Err number) next later = ⊥
IsTaken w sessions told lines answered (Ask a) (Ok count) next later =
    (count ≡ answered + 1) × (line : List ℕ) × (slice_get lines answered ≡ Some line) × IsRight w sessions told a line next later
IsTaken w sessions told lines answered (Ask a) (Err number) next later =
    (number ≡ a.number) × (line : List ℕ) × (slice_get lines answered ≡ Some line) × IsWrong w sessions a line

-- all replies are answers, and noted; or the number is that of the first line whose reply is wrong
abbrev pub Walked : World → List Session → List Step → List (List ℕ) → Option ℕ → ToldParts → Type 0
Walked w sessions steps lines None told = IsWalked w sessions steps lines told
Walked w sessions steps lines (Some number) told = IsFirstWrong w sessions steps lines number

-- ---- the code's verdicts

-- all replies are answers, and of what is noted of them this holds
pub record AllNoted (w : World) (sessions : List Session) (steps : List Step) (lines : List (List ℕ)) (numbers : ToldParts
    → Type 0) : Type 0 where
  pub told : ToldParts
  pub walked : IsWalked w sessions steps lines told
  pub of_numbers : numbers told

abbrev pub AreAllCommits : ℕ → ToldParts → Type 0
AreAllCommits commits told = IsPermutation told.commits (range_with_len 1 commits)

abbrev pub AreIssuedIn : ToldParts → Type 0
AreIssuedIn told = AreIssued told.drawn told.accepted told.printed

-- what is found of a run with so many commits whose replies are as many as its lines
abbrev pub IsJudged : World → List Session → List Step → List (List ℕ) → ℕ → Verdict → Type 0
IsJudged w sessions steps lines commits verdict.Legal =
    AllNoted w sessions steps lines (λ told. AreAllCommits commits told × AreIssuedIn told)
IsJudged w sessions steps lines commits (verdict.Reply number) = IsFirstWrong w sessions steps lines number
IsJudged w sessions steps lines commits verdict.Count = ⊥
IsJudged w sessions steps lines commits verdict.Numbers = AllNoted w sessions steps lines (λ told. AreAllCommits commits told → ⊥)
IsJudged w sessions steps lines commits verdict.Ids =
    AllNoted w sessions steps lines (λ told. AreAllCommits commits told × (AreIssuedIn told → ⊥))

abbrev pub of_tally : Tally → Verdict
of_tally tally.Whole = verdict.Legal
of_tally tally.Commits = verdict.Numbers
of_tally tally.Ids = verdict.Ids
