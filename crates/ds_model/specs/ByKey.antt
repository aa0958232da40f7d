-- Entities in the order of their keys, and what the counted entries of shards leave, so ordered.
use Rattle.std.specs.Prelude.{◌≡◌, ℕ, List, [], ◌∷◌, ◌++◌, false, take, ⊤}
use Rattle.ds_base.specs.Keys.{KeyParts}
use Rattle.ds_base.specs.KeyOrder.{same_key}
use Rattle.ds_entity.specs.Entities.{EntityParts}
pub use Rattle.ds_entity.specs.EntityOrder.{entity_cmp, sorted_by_key}
use Rattle.ds_log.specs.declared.Entry.{Entry}
use Rattle.ds_log.specs.After.{after}
use Rattle.ds_log.specs.Logs.{entry_writes}
use Rattle.ds_model.specs.Sessions.{list_of}

-- an entity beside its key
abbrev pub keyed : EntityParts → KeyParts × EntityParts
keyed e = (e.key, e)

-- none of the entities has this key
abbrev pub NoneAt : KeyParts → List EntityParts → Type 0
NoneAt k [] = ⊤
NoneAt k (e ∷ es) = (same_key e.key k ≡ false) × NoneAt k es

-- no two of the entities have one key
abbrev pub KeysDiffer : List EntityParts → Type 0
KeysDiffer [] = ⊤
KeysDiffer (e ∷ es) = NoneAt e.key es × KeysDiffer es

-- ---- the entities of shards

-- the entities that the first entries of a list leave, by key
abbrev pub left_by : List Entry → ℕ → List EntityParts
left_by entries count = sorted_by_key (after (entry_writes (take count entries)))

-- the entities of one shard, at a count of its entries, by key
abbrev pub shard_view : List (List Entry) → ℕ → ℕ → List EntityParts
shard_view lists shard count = left_by (list_of lists shard) count

-- the entities of all shards at a count per shard: those of one shard by key, behind those of the shards before it
abbrev pub shard_views : List (List Entry) → List ℕ → List EntityParts
shard_views [] counts = []
shard_views (entries ∷ lists) [] = []
shard_views (entries ∷ lists) (count ∷ counts) = left_by entries count ++ shard_views lists counts
