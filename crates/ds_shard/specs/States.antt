-- A shard as the state of a hub: it is read on ledgers of its store alone, and takes in entries of its own alone.
use Rattle.std.specs.Prelude.{◌≡◌, ℕ, List, All}
use Rattle.ds_indexdef.specs.declared.IndexDef.{IndexDef}
use Rattle.ds_log.specs.declared.Entry.{Entry}
use Rattle.ds_log.specs.Logs.{group_of}
use Rattle.ds_log.specs.Shards.{shard_of}
use Rattle.ds_shard.specs.Shards.{ShardParts, absorbed, empty}

-- which shard it is, of how many
pub record ShardPlace : Type 0 where
  pub shards : ℕ
  pub number : ℕ

pub record StateParts : Type 0 where
  -- into how many parts each ledger is cut on which seeks and look-ups in the shard count: by that number the ledgers of a store are known
  pub ledger : ℕ
  pub place : ShardPlace
  pub shard : ShardParts

-- an entry is of a shard where all its writes are to groups of the shard
abbrev pub IsOfShard : ShardPlace → Entry → Type 0
IsOfShard place entry = All (λ w. shard_of (group_of w) place.shards ≡ place.number) entry.writes

-- no entry absorbed
abbrev pub begun : ℕ → ShardPlace → List IndexDef → ℕ → StateParts
begun ledger place defs window = record { ledger = ledger; place = place; shard = empty defs window }

-- the shard absorbs an entry; its ledgers and its place stay
abbrev pub state_after : StateParts → Entry → StateParts
state_after s entry = record { ledger = s.ledger; place = s.place; shard = absorbed s.shard entry }
