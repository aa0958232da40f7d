-- Where the hubs of shards begin.
use Rattle.std.specs.Prelude.{ℕ, ◌+◌, List, [], ◌∷◌, length, Option, Some}
use Rattle.ds_hub.specs.Line.{HubId}
use Rattle.ds_indexdef.specs.declared.IndexDef.{IndexDef}
use Rattle.ds_shard.specs.States.{ShardPlace, StateParts, begun}

-- a shard's hub begins with the shard of this place, which has absorbed nothing, and is read on ledgers of so many parts
abbrev pub origin_of : ℕ → ShardPlace → List IndexDef → ℕ → HubId → HubId × Option StateParts
origin_of ledger place definitions window hub = (hub, Some (begun ledger place definitions window))

-- one for each hub, of so many shards, by number from this one on
abbrev pub origins_from : ℕ → ℕ → List IndexDef → ℕ → ℕ → List HubId → List (HubId × Option StateParts)
origins_from ledger shards definitions window number [] = []
origins_from ledger shards definitions window number (hub ∷ hubs) =
    origin_of ledger (record { shards = shards; number = number }) definitions window hub
    ∷ origins_from ledger shards definitions window (number + 1) hubs

-- one for each shard, by number
abbrev pub origins : ℕ → List IndexDef → ℕ → List HubId → List (HubId × Option StateParts)
origins ledger definitions window hubs = origins_from ledger (length hubs) definitions window 0 hubs
