-- Commits that are handed out in parts.
use Rattle.std.specs.Prelude.{◌≡◌, ℕ, ◌+◌, List, drop, take}
use Rattle.ds_log.specs.declared.Commit.{Commit}
use Rattle.ds_store_passes.specs.Answered.{HasLooked}
use Rattle.ds_store_passes.specs.Passes.{PassParts}

-- the first ones of the commits above a place, at most so many, of all that the pass has then seen
pub record AreFirstSince (before after : PassParts) (from most place next : ℕ) (commits : List Commit) : Type 0 where
  pub looked : HasLooked before after place
  pub some : commits ≡ drop from (take (from + most) after.journal)
  pub next_is : after.next ≡ next
