-- The entries of one commit, each put behind those of its shard.
use Rattle.std.specs.Prelude.{ℕ, ◌+◌, ◌≤◌, ◌==◌, List, [], ◌∷◌, ◌++◌, filter}
use Rattle.ds_log.specs.declared.Entry.{Entry}
use Rattle.ds_log.specs.Shards.{shard_of}
use Rattle.ds_applied.specs.AppliedLists.{AppliedShard}

-- so many entries can be put behind its own without memory
abbrev pub HasRoom : ℕ → AppliedShard → Type 0
HasRoom entries s = entries ≤ s.spare

-- each of the lists, which are those of the shards from a first one on, with the entries of its shard behind it
abbrev pub added : ℕ → ℕ → List (List Entry) → List Entry → List (List Entry)
added shards first [] more = []
added shards first (entries ∷ lists) more =
    (entries ++ filter (λ e. shard_of e.group shards == first) more) ∷ added shards (first + 1) lists more
