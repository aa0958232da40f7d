-- Which entities are visible: the strong view of the journal at a place, and the global view at the shards' counts.
use Rattle.std.specs.Prelude.{ℕ, List, [], ◌∷◌, ◌++◌, take}
use Rattle.ds_entity.specs.Entities.{EntityParts}
use Rattle.ds_log.specs.declared.Commit.{Commit}
use Rattle.ds_log.specs.declared.Entry.{Entry}
use Rattle.ds_log.specs.After.{after}
use Rattle.ds_log.specs.Logs.{writes_of, entry_writes}

-- what the first m commits leave (current reads)
abbrev pub strong_view : List Commit → ℕ → List EntityParts
strong_view journal m = after (writes_of (take m journal))

-- the counted entries of all shards; shards have no group in common, so their order doesn't matter
abbrev pub counted : List (List Entry) → List ℕ → List Entry
counted [] counts = []
counted (entries ∷ lists) [] = []
counted (entries ∷ lists) (count ∷ counts) = take count entries ++ counted lists counts

-- what each shard's counted entries leave
abbrev pub global_view : List (List Entry) → List ℕ → List EntityParts
global_view lists counts = after (entry_writes (counted lists counts))
