-- All clients' sessions: as they begin, what stays of them where no line is answered, and how their texts are written.
use Rattle.std.specs.Prelude.{◌≡◌, ℕ, ◌+◌, ◌≤◌, List, ◌++◌, Option, Some, length, map, replicate, slice_get, take}
use Rattle.std.specs.List.{range_with_len}
use Rattle.std.specs.Io.KnownBytes.{Appends}
use Rattle.ds_base.specs.Limits.{greatest_client}
use Rattle.ds_rounds.specs.Rounds.{NumberedLine}
use Rattle.ds_model.specs.Sessions.{first_sessions}
use Rattle.ds_store.specs.Passes.{nothing_seen}
use Rattle.ds_asked.specs.AskedLines.{AreAskedFrom}
pub use Rattle.ds_client.specs.Clients.{ClientParts, HasAnsweredOwn, IsReady, StartsRound, taking}
use Rattle.ds_clients.specs.Runs.{AreWritten, HaveMet, passes_of, seen_of, texts_of}
pub use Rattle.ds_workers.specs.Each.{EachOf}
use Rattle.ds_client.specs.Sessions.{SessionParts}
use Rattle.ds_asked.specs.declared.lines.Asked.{Asked}
use Rattle.ds_clients.specs.declared.output.Cut.{Cut}

-- the clients' numbers
abbrev pub clients_of : List SessionParts → List ℕ
clients_of sessions = map (λ s. s.client) sessions

-- one session for each client; no client has seen anything, and their passes have seen and done nothing
pub record AreNew (shards : ℕ) (sessions : List SessionParts) : Type 0 where
  pub seen : seen_of sessions ≡ first_sessions shards
  pub passes : passes_of sessions ≡ replicate (greatest_client + 1) (nothing_seen shards)
  pub written : AreWritten sessions

-- the same clients have seen the same, and so have their passes; their texts and the room for them may differ
pub record AreAlike (before after : List SessionParts) : Type 0 where
  pub clients : clients_of after ≡ clients_of before
  pub seen : seen_of after ≡ seen_of before
  pub passes : passes_of after ≡ passes_of before

-- the first bytes of a text were written, and this is the rest of it
pub record WrotePart (held_first held : Option (List ℕ)) (text rest : List ℕ) : Type 0 where
  pub taken : List ℕ
  pub wrote : Appends held_first held taken
  pub whole : text ≡ taken ++ rest

-- a place in the text of a client, who is there
pub record IsCut (sessions : List SessionParts) (cut : Cut) : Type 0 where
  pub session : SessionParts
  pub there : slice_get sessions cut.client ≡ Some session
  pub within : cut.taken ≤ length session.text

-- A write failed there: the texts before that client's were taken, and its own up to there.
pub record IsCutAt (held_first held : Option (List ℕ)) (sessions : List SessionParts) (cut : Cut) : Type 0 where
  pub cut_is : IsCut sessions cut
  pub wrote : Appends held_first held (texts_of (take cut.client sessions) ++ take cut.taken cut_is.session.text)

-- ---- client by client

-- new sessions of all clients, numbered from 0 on
pub record AreSeated (shards : ℕ) (sessions : List SessionParts) : Type 0 where
  pub new : AreNew shards sessions
  pub clients : clients_of sessions ≡ range_with_len 0 (greatest_client + 1)

-- The sessions have met, and so these lists are what the clients' lines of the round ask.
pub record AreReady (shards : ℕ) (round : List NumberedLine) (before after : List SessionParts) (own : List (List Asked)) : Type 0 where
  pub met : HaveMet (seen_of before) before after
  pub asked : AreAskedFrom shards 0 round own
