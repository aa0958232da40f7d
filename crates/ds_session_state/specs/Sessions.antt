-- What a session is to contracts, and how what its client has seen lies within what its pass has seen.
use Rattle.std.specs.Prelude.{ℕ, ◌≤◌, List, Option, Some, None, length, All, ⊤}
use mathlib.Core.List.{IsPrefix}
use Rattle.ds_hub.specs.Growing.{AreLonger}
use Rattle.ds_indexdef.specs.declared.IndexDef.{IndexDef}
use Rattle.ds_log.specs.Ids.{AreIssued}
use Rattle.ds_model.specs.Sessions.{Session, Transaction}
use Rattle.ds_model.specs.Worlds.{World}
use Rattle.ds_store.specs.Answered.{AreAtLeast}
use Rattle.ds_store.specs.Passes.{PassParts, counts_of}

-- A client's session: its client's number, what its pass has seen and done, what the client has seen with the transaction that it has open,
-- the replies that are not written yet, and how many bytes of room there are behind them.
pub record SessionParts : Type 0 where
  pub client : ℕ
  pub pass : PassParts
  pub seen : Session
  pub text : List ℕ
  pub room : ℕ

-- ---- a client within its pass

-- The places of a transaction's touches are of commits that the pass has seen, and no higher than it stands; each id of 2^52 or more in one
-- of its written keys is below the pass's id counter.
abbrev pub HasTransaction : PassParts → Option Transaction → Type 0
HasTransaction p None = ⊤
HasTransaction p (Some t) =
    All (λ touch. (touch.place ≤ length p.journal) × (touch.place ≤ p.place)) t.touched × AreIssued p.next t.writes

-- A client has seen no more than its pass has.
pub record IsWithin (s : Session) (p : PassParts) : Type 0 where
  pub place : s.place ≤ p.place
  pub counts : AreAtLeast s.counts (counts_of p)
  pub next : s.next_id ≤ p.next
  pub transaction : HasTransaction p s.transaction

-- ---- the worlds that a pass may be in

-- what a pass sees later on, whatever it has done
pub record HasGrown (before after : PassParts) : Type 0 where
  pub journal : IsPrefix before.journal after.journal
  pub lists : AreLonger before.lists after.lists
  pub place : before.place ≤ after.place
  pub next : before.next ≤ after.next

-- the world that a pass has seen, whose lists may be longer or shorter than the journal's own part
abbrev pub world_seen : List IndexDef → ℕ → Option ℕ → PassParts → World
world_seen definitions shards window p =
    record { journal = p.journal; lists = p.lists; definitions = definitions; shards = shards; window = window }
