-- Lists of entries, each of its shard, leave entities of the groups of their shards.
use Rattle.std.proofs.Common.{◌≡◌, ℕ, ◌+◌, List, [], ◌∷◌, ◌++◌, length, map, refl, ap}
use Rattle.ds_entity.specs.Entities.{EntityParts}
use Rattle.ds_log.specs.declared.Entry.{Entry}
use Rattle.ds_model.specs.ByKey.{left_by, shard_views}
use Rattle.ds_model.proofs.ShardViews.{AreOwn, left_own}
use Rattle.ds_engine.specs.Searches.{AreOfShards, all_entities}

-- what each list leaves
abbrev pub left : List Entry → List EntityParts
left entries = left_by entries (length entries)

abbrev pub all_left : List (List Entry) → List (List EntityParts)
all_left lists = map left lists

-- side by side they leave what the views of their shards have
pub all_left-views : (lists : List (List Entry)) → all_entities (all_left lists) ≡ shard_views lists (map length lists)
all_left-views [] = refl
all_left-views (entries ∷ lists) = ap (λ es. left entries ++ es) (all_left-views lists)

-- they are of the groups of their shards
pub left_own_shards : (shards first : ℕ) (lists : List (List Entry)) → AreOwn shards first lists → AreOfShards shards first (all_left lists)
left_own_shards shards first [] own = tt
left_own_shards shards first (entries ∷ lists) own = (
  left_own shards first (length entries) entries own.0,
  left_own_shards shards (first + 1) lists own.1,
)
