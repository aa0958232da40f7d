-- What an open request has gathered by the steps of its client.
use Rattle.std.specs.Prelude.{ℕ, ◌+◌, Bool, false, List, [], ◌∷◌, Option, Some, None, nat_le}

-- the journal's length at the request's Touch, the first of the ids that its Issue drew, the count that its Apply raised the shard's to,
-- and for each shard its count at a View
pub record GatheredParts : Type 0 where
  pub place : Option ℕ
  pub first : Option ℕ
  pub applied : Option ℕ
  pub views : List (Option ℕ)

-- the first Touch counts
abbrev pub first_place : ℕ → Option ℕ → Option ℕ
first_place length None = Some length
first_place length (Some place) = Some place

-- the first shard without a View, counted from this number on
abbrev pub first_unviewed : ℕ → List (Option ℕ) → Option ℕ
first_unviewed shard [] = None
first_unviewed shard (None ∷ views) = Some shard
first_unviewed shard (Some count ∷ views) = first_unviewed (shard + 1) views

-- a View showed at least so many entries
abbrev pub has_covered : ℕ → Option ℕ → Bool
has_covered entries None = false
has_covered entries (Some count) = nat_le entries count
