-- What rounds leave of all sessions.
use Rattle.std.specs.Prelude.{◌≡◌, ℕ, ◌+◌, ◌<◌, ◌≤◌, List, [], ◌∷◌, Option, length, map, flat_map, All, IsPermutation}
use Rattle.std.specs.Prelude.{⊤}
use Rattle.ds_base.specs.Limits.{greatest_client}
use Rattle.ds_indexdef.specs.declared.IndexDef.{IndexDef}
use Rattle.ds_log.specs.declared.Commit.{Commit}
use Rattle.ds_reply.specs.declared.reply.Reply.{Reply}
use Rattle.ds_reply.specs.Replies.{replies_text}
use Rattle.ds_rounds.specs.Rounds.{NumberedLine}
use Rattle.ds_model.specs.Asked.{asked}
use Rattle.ds_model.specs.Legal.{RoundsSteps, acknowledged, accepted, printed_next, drawn_in, answered_lines}
use Rattle.ds_model.specs.Sessions.{Session, raised_to}
use Rattle.ds_model.specs.Worlds.{world_of}
use Rattle.ds_store.specs.Ending.{Begins}
use Rattle.ds_store.specs.Passes.{PassParts, HasRead}
use Rattle.ds_asked.specs.AskedLines.{lines_of_client}
use Rattle.ds_client.specs.Answering.{HasAnswered}
use Rattle.ds_client.specs.Meeting.{HasTaken}
use Rattle.ds_client.specs.Sessions.{SessionParts}

-- what the clients have seen
abbrev pub seen_of : List SessionParts → List Session
seen_of sessions = map (λ s. s.seen) sessions

abbrev pub passes_of : List SessionParts → List PassParts
passes_of sessions = map (λ s. s.pass) sessions

-- ---- one round

-- A session has met all others: its client has seen the greatest place, counts and id counter that any of them had, and its pass as much.
-- No
-- reply is left from an earlier round.
pub record HasMet (all : List Session) (before after : SessionParts) : Type 0 where
  pub client : after.client ≡ before.client
  pub seen : after.seen ≡ raised_to all before.seen
  pub read : HasRead before.pass after.pass
  pub text : after.text ≡ []

abbrev pub HaveMet : List Session → List SessionParts → List SessionParts → Type 0
HaveMet all [] [] = ⊤
HaveMet all (s ∷ before) (t ∷ after) = HasMet all s t × HaveMet all before after
HaveMet all _ _ = ⊥

-- each session has taken what this one has seen
abbrev pub HaveTaken : Session → List SessionParts → List SessionParts → Type 0
HaveTaken greatest [] [] = ⊤
HaveTaken greatest (s ∷ before) (t ∷ after) = HasTaken greatest s t × HaveTaken greatest before after
HaveTaken greatest _ _ = ⊥

-- each client's lines of the round were answered, from this client on
abbrev pub HaveAnswered : List IndexDef → ℕ → Option ℕ → List NumberedLine → ℕ → List SessionParts → List SessionParts → Type 0
HaveAnswered definitions shards window round client [] [] = ⊤
HaveAnswered definitions shards window round client (s ∷ before) (t ∷ after) =
    HasAnswered definitions shards window s t (lines_of_client shards client round)
    × HaveAnswered definitions shards window round (client + 1) before after
HaveAnswered definitions shards window round client _ _ = ⊥

-- A round was run: the sessions met, and then each client's lines were answered.
pub record HaveRun (definitions : List IndexDef) (shards : ℕ) (window : Option ℕ) (round : List NumberedLine)
    (before after : List SessionParts) : Type 0 where
  pub between : List SessionParts
  pub met : HaveMet (seen_of before) before between
  pub answered : HaveAnswered definitions shards window round 0 between after

-- nothing is left to be written
abbrev pub AreWritten : List SessionParts → Type 0
AreWritten [] = ⊤
AreWritten (s ∷ sessions) = (s.text ≡ []) × AreWritten sessions

-- the replies of a round, by client and then by line
abbrev pub texts_of : List SessionParts → List ℕ
texts_of sessions = flat_map (λ s. s.text) sessions

-- ---- rounds, one after another

-- the journal goes on from all that each pass has seen
abbrev pub AllBegin : ℕ → List Commit → List SessionParts → Type 0
AllBegin shards journal sessions = All (λ s. Begins shards journal s.pass) sessions

-- These rounds were run, from what the clients had seen first on, and this text is that of their replies. Over every journal that goes on
-- from all that the passes have seen the replies are steps of rounds; the commits that they acknowledge are the passes' own, and the ids
-- that they tell as drawn are the passes' draws, each as often; no accepted id and no printed counter is past a number that no pass's
-- counter is above.
pub record HasRun (definitions : List IndexDef) (shards : ℕ) (window : Option ℕ) (first : List Session)
    (rounds : List (List NumberedLine)) (now : List SessionParts) (text : List ℕ) : Type 0 where
  pub replies : List Reply
  pub clients : length now ≡ greatest_client + 1
  pub steps : (journal : List Commit) → AllBegin shards journal now
      → RoundsSteps (asked shards) (world_of definitions shards window journal) rounds first replies (seen_of now)
  pub counted : length replies ≡ length (answered_lines (asked shards) rounds)
  pub printed : text ≡ replies_text replies
  pub commits : IsPermutation (flat_map acknowledged replies) (flat_map (λ s. s.pass.commits) now)
  pub draws : IsPermutation (drawn_in (asked shards) (answered_lines (asked shards) rounds) replies) (flat_map (λ s. s.pass.draws) now)
  pub accepts : (bound : ℕ) → All (λ s. s.pass.next ≤ bound) now → All (λ id. id < bound) (flat_map accepted replies)
  pub prints : (bound : ℕ) → All (λ s. s.pass.next ≤ bound) now → All (λ next. next ≤ bound) (flat_map printed_next replies)

-- ---- the end

-- a pass that has committed and drawn nothing: that of an applier, or of a client without a line
pub record IsIdle (p : PassParts) : Type 0 where
  pub commits : p.commits ≡ []
  pub draws : p.draws ≡ []
