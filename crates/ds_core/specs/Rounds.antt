-- What a run over single events gives: one legal round, told of requests instead of lines.
use Rattle.std.specs.Prelude.{◌≡◌, ◌≢◌, ℕ, ◌+◌, ◌-◌, ◌<◌, ◌≤◌, List, [], ◌∷◌, ◌++◌, Some, None, Ok, length, All}
use Rattle.std.specs.Prelude.{flat_map, slice_get, slice_set, IsPermutation}
use Rattle.std.specs.List.{range_with_len}
use Rattle.ds_indexdef.specs.declared.IndexDef.{IndexDef}
use Rattle.ds_request.specs.declared.call.Request.{Request}
use Rattle.ds_reply.specs.declared.reply.Body.TheVariants as body
use Rattle.ds_reply.specs.declared.reply.Reply.{Reply}
use Rattle.ds_model.specs.Answers.{BodyAnswers}
use Rattle.ds_model.specs.Legal.{acknowledged, accepted, printed_next, drawn_by_call}
use Rattle.ds_model.specs.Sessions.{Session, first_id, first_sessions}
use Rattle.ds_model.specs.Worlds.{World, world_of}
use Rattle.ds_core.specs.declared.event.Transcript.{Transcript}

-- Reply by reply, each is an answer to its request, from what its client has seen before to what it has seen then; what other clients
-- have seen stays. So each client's replies, in their order, lead from its first session to its last one.
abbrev pub AreAnswered : World → List Session → List Request → List Reply → List Session → Type 0
AreAnswered w sessions [] [] after = after ≡ sessions
AreAnswered w sessions (r ∷ requests) (reply ∷ replies) after =
    (before : Session) × (then : Session) × (slice_get sessions r.client ≡ Some before)
    × BodyAnswers w before (Ok r) reply.body then
    × AreAnswered w (slice_set sessions r.client then) requests replies after
AreAnswered w sessions _ _ after = ⊥

-- the replies carry the clients of their requests, and the numbers from one on as their lines; none tells of lack of memory
abbrev pub AreNumbered : ℕ → List Request → List Reply → Type 0
AreNumbered n [] [] = Unit {0}
AreNumbered n (r ∷ requests) (reply ∷ replies) =
    (reply.line ≡ n) × (reply.client ≡ r.client) × (reply.body ≢ body.NoMemory) × AreNumbered (n + 1) requests replies
AreNumbered n _ _ = ⊥

-- the ids that the replies tell as drawn
abbrev pub drawn_ids : List Request → List Reply → List ℕ
drawn_ids (r ∷ requests) (reply ∷ replies) = drawn_by_call r.call reply.body ++ drawn_ids requests replies
drawn_ids _ _ = []

-- One legal round: the replies are answers over one journal, from the first sessions to those after; the journal holds the acknowledged
-- commits, in the order of their replies, and no other; the drawn ids are those from the first one up to a bound, each once, accepted
-- ids are below it and printed counters not above.
pub record IsLegalRound (definitions : List IndexDef) (shards : ℕ) (t : Transcript) : Type 0 where
  pub after : List Session
  pub answered : AreAnswered (world_of definitions shards None t.journal) (first_sessions shards) t.requests t.replies after
  pub numbered : AreNumbered 1 t.requests t.replies
  pub acknowledges : flat_map acknowledged t.replies ≡ range_with_len 1 (length t.journal)
  pub bound : ℕ
  pub from_first : first_id ≤ bound
  pub each_once : IsPermutation (drawn_ids t.requests t.replies) (range_with_len first_id (bound - first_id))
  pub accepted_below : All (λ id. id < bound) (flat_map accepted t.replies)
  pub printed_within : All (λ next. next ≤ bound) (flat_map printed_next t.replies)
