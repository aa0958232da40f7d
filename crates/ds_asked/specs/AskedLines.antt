-- A round's lines by client, and what each asks.
use Rattle.std.specs.Prelude.{◌≡◌, ℕ, zero, suc, ◌+◌, ◌<◌, ◌≤◌, ◌^◌, List, [], ◌∷◌, ◌++◌, Ok, Err, Result, filter, length, ◌==◌, IsTrue, ⊤}
use Rattle.ds_base.specs.Limits.{greatest_client}
use Rattle.ds_reply.specs.declared.reply.Body.{Body}
use Rattle.ds_request.specs.declared.call.Request.{Request}
use Rattle.ds_request.specs.Lawful.{IsLawfulCall}
use Rattle.ds_rounds.specs.Rounds.{NumberedLine}
use Rattle.ds_model.specs.Asked.{asked, client_of, has_shard}
use Rattle.ds_protocol.specs.Quiet.{IsQuiet}
use Rattle.ds_asked.specs.declared.lines.Asked.{Asked}

-- what was read from a line of this client: its request, or the client and what its reply says
abbrev pub read_as : ℕ → Result Request Body → Result Request (ℕ × Body)
read_as client (Ok r) = Ok r
read_as client (Err b) = Err (client, b)

abbrev pub was_read : Asked → Result Request (ℕ × Body)
was_read a = read_as a.client a.request

-- a request of this client that a core of so many shards may be asked; or a refusal, which tells of no commit and of no id
abbrev pub IsLawful : ℕ → ℕ → Result Request Body → Type 0
IsLawful shards client (Ok r) = (r.client ≡ client) × IsLawfulCall r.call × IsTrue (has_shard shards r.call)
IsLawful shards client (Err b) = IsQuiet b

-- whoever asks is a client, and the line's number fits its type
pub record MayBeAnswered (shards : ℕ) (a : Asked) : Type 0 where
  pub within : a.client ≤ greatest_client
  pub numbered : a.number < 2 ^ 64
  pub lawful : IsLawful shards a.client a.request

-- this is what the line asks
pub record Asks (shards : ℕ) (line : NumberedLine) (a : Asked) : Type 0 where
  pub numbered : a.number ≡ line.number
  pub read : asked shards line.content ≡ was_read a
  pub own : client_of (asked shards) line.content ≡ a.client
  pub answerable : MayBeAnswered shards a

-- the lines of one client, in their order
abbrev pub lines_of_client : ℕ → ℕ → List NumberedLine → List NumberedLine
lines_of_client shards client = filter (λ line. client_of (asked shards) line.content == client)

-- line by line what a client asks
abbrev pub AreAsked : ℕ → ℕ → List NumberedLine → List Asked → Type 0
AreAsked shards client [] [] = ⊤
AreAsked shards client (line ∷ lines) (a ∷ own) = Asks shards line a × (a.client ≡ client) × AreAsked shards client lines own
AreAsked shards client _ _ = ⊥

-- the clients' lists, from this client on
abbrev pub AreAskedFrom : ℕ → ℕ → List NumberedLine → List (List Asked) → Type 0
AreAskedFrom shards client lines [] = ⊤
AreAskedFrom shards client lines (own ∷ lists) =
    AreAsked shards client (lines_of_client shards client lines) own × AreAskedFrom shards (client + 1) lines lists

-- one list for each client
pub record AreAskedBy (shards : ℕ) (lines : List NumberedLine) (lists : List (List Asked)) : Type 0 where
  pub clients : length lists ≡ greatest_client + 1
  pub each : AreAskedFrom shards 0 lines lists

-- the clients' lists, with one more at the end of this client's
abbrev pub with_asked : List (List Asked) → ℕ → Asked → List (List Asked)
with_asked [] client a = []
with_asked (own ∷ lists) zero a = (own ++ a ∷ []) ∷ lists
with_asked (own ∷ lists) (suc client) a = own ∷ with_asked lists client a

-- round by round
abbrev pub AreAskedRounds : ℕ → List (List NumberedLine) → List (List (List Asked)) → Type 0
AreAskedRounds shards [] [] = ⊤
AreAskedRounds shards (lines ∷ rounds) (lists ∷ asked) = AreAskedBy shards lines lists × AreAskedRounds shards rounds asked
AreAskedRounds shards _ _ = ⊥
