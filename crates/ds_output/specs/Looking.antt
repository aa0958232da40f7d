-- What a reply to a search tells of what was looked at: how many entries of each shard, or a place.
use Rattle.std.specs.Prelude.{Bool, true, false}
use Rattle.ds_entity.specs.declared.results.Seen.{Seen}
use Rattle.ds_entity.specs.declared.results.Seen.TheVariants.{Counts, Place}

-- is it counts?
abbrev pub tells_counts : Seen → Bool
tells_counts (Counts counts) = true
tells_counts (Place place) = false

-- is it a place?
abbrev pub tells_place : Seen → Bool
tells_place (Counts counts) = false
tells_place (Place place) = true
