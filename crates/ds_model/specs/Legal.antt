-- What a legal run is.
use Rattle.std.specs.Prelude.{◌≡◌, ℕ, ◌+◌, ◌-◌, ◌<◌, ◌≤◌, List, [], ◌∷◌, ◌++◌, true, ◌==◌, Option, Result, Ok, Err}
use Rattle.std.specs.Prelude.{length, filter, flat_map, nat_le, All, IsPermutation, cond}
use Rattle.std.specs.List.{range_with_len}
use Rattle.ds_base.specs.declared.key.Ident.{Ident}
use Rattle.ds_base.specs.declared.key.Ident.TheVariants.{Id, Name}
use Rattle.ds_base.specs.declared.key.Elem.{Elem}
use Rattle.ds_base.specs.Limits.{greatest_client}
use Rattle.ds_request.specs.declared.call.Call.{Call}
use Rattle.ds_request.specs.declared.call.Call.TheVariants as call
use Rattle.ds_request.specs.declared.call.Request.{Request}
use Rattle.ds_indexdef.specs.declared.IndexDef.{IndexDef}
use Rattle.ds_reply.specs.declared.reply.WriteAt.{WriteAt}
use Rattle.ds_reply.specs.declared.reply.WriteAt.TheVariants as at
use Rattle.ds_reply.specs.declared.reply.Body.{Body}
use Rattle.ds_reply.specs.declared.reply.Body.TheVariants as body
use Rattle.ds_reply.specs.declared.reply.Reply.{Reply}
use Rattle.ds_rounds.specs.Rounds.{NumberedLine}
use Rattle.ds_log.specs.declared.Commit.{Commit}
use Rattle.ds_model.specs.Asked.{Reading, asked, client_of}
use Rattle.ds_model.specs.Answers.{Answers}
use Rattle.ds_model.specs.Worlds.{World, world_of}
use Rattle.ds_model.specs.Sessions.{Session, first_id, first_sessions, met}

-- one client's replies, in the order of its lines
abbrev pub ClientSteps : Reading → World → Session → List NumberedLine → List Reply → Session → Type 0
ClientSteps reading w s [] [] after = after ≡ s
ClientSteps reading w s (line ∷ lines) (reply ∷ replies) after =
    (next : Session) × Answers reading w s line reply next × ClientSteps reading w next lines replies after
ClientSteps reading w s _ _ after = ⊥

-- the replies of a round: by client, and then by line
abbrev pub RoundSteps : Reading → World → List NumberedLine → ℕ → List Session → List Reply → List Session → Type 0
RoundSteps reading w round client [] replies after = (replies ≡ []) × (after ≡ [])
RoundSteps reading w round client (s ∷ sessions) replies [] = ⊥
RoundSteps reading w round client (s ∷ sessions) replies (t ∷ after) =
    (own : List Reply) × (others : List Reply) × (replies ≡ own ++ others)
    × ClientSteps reading w s (filter (λ line. client_of reading line.content == client) round) own t
    × RoundSteps reading w round (client + 1) sessions others after

-- the replies of rounds: the sessions meet at the start of each
abbrev pub RoundsSteps : Reading → World → List (List NumberedLine) → List Session → List Reply → List Session → Type 0
RoundsSteps reading w [] sessions replies after = (replies ≡ []) × (after ≡ sessions)
RoundsSteps reading w (round ∷ rounds) sessions replies after =
    (own : List Reply) × (others : List Reply) × (between : List Session) × (replies ≡ own ++ others)
    × RoundSteps reading w round 0 (met sessions) own between
    × RoundsSteps reading w rounds between others after

-- ---- the numbers in replies

abbrev pub written_commit : WriteAt → List ℕ
written_commit (at.Commit n) = n ∷ []
written_commit (at.Place p) = []

abbrev pub acknowledged_in : Body → List ℕ
acknowledged_in (body.Put key at) = written_commit at
acknowledged_in (body.Delete key at) = written_commit at
acknowledged_in (body.Commit n) = n ∷ []
acknowledged_in _ = []

-- the commit that a reply acknowledges
abbrev pub acknowledged : Reply → List ℕ
acknowledged r = acknowledged_in r.body

-- the ids of an automatic key's last element
abbrev pub last_id : List Elem → List ℕ
last_id [] = []
last_id (e ∷ []) = id_in e.ident where
  id_in : Ident → List ℕ
  id_in (Id n) = n ∷ []
  id_in (Name x) = []
last_id (e ∷ f ∷ es) = last_id (f ∷ es)

-- the ids that a reply tells as drawn: an automatic one, or a range
abbrev pub drawn_by_call : Call → Body → List ℕ
drawn_by_call (call.Put key true properties) (body.Put printed place) = last_id printed.elems
drawn_by_call (call.AllocateIds count) (body.AllocateIds first printed) = range_with_len first printed
drawn_by_call _ _ = []

abbrev pub drawn_by : Result Request (ℕ × Body) → Body → List ℕ
drawn_by (Ok r) said = drawn_by_call r.call said
drawn_by (Err e) said = []

-- the ids that the replies to these lines tell as drawn; there is one reply for each line
abbrev pub drawn_in : Reading → List NumberedLine → List Reply → List ℕ
drawn_in reading (line ∷ lines) (reply ∷ replies) = drawn_by (reading line.content) reply.body ++ drawn_in reading lines replies
drawn_in reading _ _ = []

-- the ids of a path that only the counter gives: 2^52 and more
abbrev pub counter_id : Ident → List ℕ
counter_id (Id n) = cond (nat_le first_id n) (n ∷ []) []
counter_id (Name x) = []

abbrev pub counter_ids : List Elem → List ℕ
counter_ids = flat_map (λ e. counter_id e.ident)

abbrev pub accepted_in : Body → List ℕ
accepted_in (body.Put key at) = counter_ids key.elems
accepted_in (body.Delete key at) = counter_ids key.elems
accepted_in _ = []

-- the accepted ids of a written key that are 2^52 or more
abbrev pub accepted : Reply → List ℕ
accepted r = accepted_in r.body

abbrev pub printed_next_in : Body → List ℕ
printed_next_in (body.IdNotIssued id next) = next ∷ []
printed_next_in (body.IdsExhausted next) = next ∷ []
printed_next_in _ = []

-- the id counters that a reply prints
abbrev pub printed_next : Reply → List ℕ
printed_next r = printed_next_in r.body

-- a round's lines by client, from 0 up to the greatest one, each client's in their order
abbrev pub by_client : Reading → List NumberedLine → List NumberedLine
by_client reading round =
    flat_map (λ client. filter (λ line. client_of reading line.content == client) round) (range_with_len 0 (greatest_client + 1))

-- the lines that are answered, in the order of the replies: by round, then by client, and then by line
abbrev pub answered_lines : Reading → List (List NumberedLine) → List NumberedLine
answered_lines reading = flat_map (by_client reading)

-- the drawn ids are those from the first one up to a bound, each once; accepted ids are below it, printed counters not above
pub record IdsDrawn (reading : Reading) (rounds : List (List NumberedLine)) (replies : List Reply) : Type 0 where
  pub bound : ℕ
  pub from_first : first_id ≤ bound
  pub each_once : IsPermutation (drawn_in reading (answered_lines reading rounds) replies) (range_with_len first_id (bound - first_id))
  pub accepted_below : All (λ id. id < bound) (flat_map accepted replies)
  pub printed_within : All (λ next. next ≤ bound) (flat_map printed_next replies)

-- One legal run, of lines that are read by the tables of requests: the replies of the rounds are steps of the sessions over one journal,
-- from the first sessions to those after the run; the journal holds the acknowledged commits, each once, and no other; and ids are drawn
-- each once.
pub record Legal (definitions : List IndexDef) (shards : ℕ) (window : Option ℕ)
    (rounds : List (List NumberedLine)) (journal : List Commit) (replies : List Reply) : Type 0 where
  pub after : List Session
  pub steps : RoundsSteps (asked shards) (world_of definitions shards window journal) rounds (first_sessions shards) replies after
  pub commits : IsPermutation (flat_map acknowledged replies) (range_with_len 1 (length journal))
  pub ids : IdsDrawn (asked shards) rounds replies
