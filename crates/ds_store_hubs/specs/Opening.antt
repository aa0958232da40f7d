-- What was opened before the names of a store are picked.
use Rattle.std.specs.Prelude.{◌≡◌, ℕ, List, map, Option}
use Rattle.ds_draw.specs.Draws.{WordName}
use Rattle.ds_hub.specs.Line.{HubId}
use Rattle.ds_indexdef.specs.declared.IndexDef.{IndexDef}
use Rattle.ds_shard.specs.States.{StateParts}
use Rattle.ds_store_hubs.specs.Origins.{origins}

-- the journal's hub, those of the shards by number, each with the shard with which it begins, the two words, the definitions and the
-- window, into how many parts each ledger is cut on which the shards are read, and for how many passes it was opened
pub record OpenedParts : Type 0 where
  pub journal : HubId
  pub shards : List (HubId × Option StateParts)
  pub commits : WordName
  pub ids : WordName
  pub definitions : List IndexDef
  pub window : ℕ
  pub ledger : ℕ
  pub passes : ℕ

-- into how many parts each ledger is cut on which the shards are read: `open` alone knows it, and no clause of a store tells it
abbrev pub ledger_parts : ℕ
ledger_parts = 1

abbrev pub hubs_of : OpenedParts → List HubId
hubs_of opened = map (λ shard. shard.0) opened.shards

-- each shard's hub begins with the shard of its number, which has absorbed nothing, under the definitions and the window, and is read on
-- these ledgers
abbrev pub AreBegun : OpenedParts → Type 0
AreBegun opened = opened.shards ≡ origins opened.ledger opened.definitions opened.window (hubs_of opened)

-- the names of a store are those that were opened
pub record AreNamesOf (opened : OpenedParts) (journal : HubId) (shards : List HubId) (commits ids : WordName) (definitions : List IndexDef)
    (window ledger : ℕ) : Type 0 where
  pub journal_is : journal ≡ opened.journal
  pub shards_are : shards ≡ hubs_of opened
  pub commits_is : commits ≡ opened.commits
  pub ids_is : ids ≡ opened.ids
  pub definitions_are : definitions ≡ opened.definitions
  pub window_is : window ≡ opened.window
  pub ledger_is : ledger ≡ opened.ledger
