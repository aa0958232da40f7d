-- One client: its session, what its lines of a round ask, and what its answered lines leave.
use Rattle.std.specs.Prelude.{◌≡◌, ℕ, ◌*◌, ◌≤◌, List, [], Option, All, length}
use Rattle.ds_indexdef.specs.declared.IndexDef.{IndexDef}
use Rattle.ds_rounds.specs.Rounds.{NumberedLine}
use Rattle.ds_model.specs.Sessions.{Session}
use Rattle.ds_protocol.specs.Watermarks.{raised_by}
use Rattle.ds_asked.specs.declared.lines.Asked.{Asked}
use Rattle.ds_asked.specs.AskedLines.{AreAsked, MayBeAnswered}
use Rattle.ds_session.specs.Answering.{HasAnswered}
use Rattle.ds_session.specs.Room.{most_no_memory}
use Rattle.ds_session.specs.Sessions.{SessionParts}

-- a client whose own lines these are may answer them, and has room for a reply to each that there was no memory
pub record IsReady (shards : ℕ) (s : SessionParts) (own : List Asked) : Type 0 where
  pub answerable : All (MayBeAnswered shards) own
  pub own_lines : All (λ a. a.client ≡ s.client) own
  pub room : length own * most_no_memory ≤ s.room

-- a client's session once it has taken this
abbrev pub taking : Session → SessionParts → SessionParts
taking missed s = record s { seen = raised_by missed s.seen }

-- what contracts see of a client: its session, and what its lines of a round ask
pub record ClientParts : Type 0 where
  pub session : SessionParts
  pub own : List Asked

-- a client that is ready, with no reply left from an earlier round, and with a count of each shard
pub record StartsRound (shards : ℕ) (s : SessionParts) (own : List Asked) : Type 0 where
  pub ready : IsReady shards s own
  pub written : s.text ≡ []
  pub counts : length s.seen.counts ≡ shards

-- whatever lines ask this of the client, they were answered; and as many counts are seen
pub record HasAnsweredOwn (definitions : List IndexDef) (shards : ℕ) (window : Option ℕ) (before : SessionParts) (own : List Asked)
    (after : SessionParts) : Type 0 where
  pub answered : (lines : List NumberedLine) → AreAsked shards before.client lines own
      → HasAnswered definitions shards window before after lines
  pub client : after.client ≡ before.client
  pub counts : length after.seen.counts ≡ length before.seen.counts
