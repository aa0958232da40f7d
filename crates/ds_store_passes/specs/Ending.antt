-- What is known of all passes once a store has ended.
use Rattle.std.specs.Prelude.{◌≡◌, ℕ, ◌+◌, ◌≤◌, List, length, flat_map, All}
use mathlib.Core.List.{IsPrefix}
use Rattle.ds_base.specs.Limits.{first_drawn_id}
use Rattle.ds_draw.specs.Draws.{HasEachOnce}
use Rattle.ds_hub.specs.Growing.{AreLonger}
use Rattle.ds_log.specs.declared.Commit.{Commit}
use Rattle.ds_model.specs.Worlds.{shard_lists}
use Rattle.ds_store_passes.specs.Passes.{PassParts, OwnSeen}

-- What is known of a pass once the journal's writer has confirmed it: it saw a beginning of the journal, its own commits among it, and it
-- saw a list of each shard.
pub record IsConfirmed (shards : ℕ) (journal : List Commit) (p : PassParts) : Type 0 where
  pub begins : IsPrefix p.journal journal
  pub own : OwnSeen p.commits p.journal
  pub whole : length p.lists ≡ shards

-- all that a pass saw begins the journal, and the shards' lists of it
abbrev pub Begins : ℕ → List Commit → PassParts → Type 0
Begins shards journal p = IsPrefix p.journal journal × AreLonger p.lists (shard_lists shards journal)

-- the own commits of all passes, and the ids that they drew
abbrev pub commits_of_all : List PassParts → List ℕ
commits_of_all passes = flat_map (λ p. p.commits) passes

abbrev pub draws_of_all : List PassParts → List ℕ
draws_of_all passes = flat_map (λ p. p.draws) passes

-- The passes saw nothing that isn't in the journal; their own commits are all its commits, each once, and their draws are all ids below
-- the counter, each once. No pass was shown a greater counter.
pub record HaveEnded (shards : ℕ) (passes : List PassParts) (journal : List Commit) (next : ℕ) : Type 0 where
  pub begin : All (Begins shards journal) passes
  pub commits : HasEachOnce 1 (length journal + 1) (commits_of_all passes)
  pub draws : HasEachOnce first_drawn_id next (draws_of_all passes)
  pub counters : All (λ p. p.next ≤ next) passes
