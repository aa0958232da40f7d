-- What is kept of a run so far: the words of the proof of what a run promises, which itself doesn't speak of them.
use Rattle.std.specs.Prelude.{◌≡◌, ℕ, ◌<◌, ◌≤◌, List, length, All}
use Rattle.ds_kept_file.specs.Files.{Kept, StandsFor}
use Rattle.ds_keep.specs.Keepers.{KeeperParts}
use Rattle.ds_store.specs.Passes.{PassParts}
use Rattle.ds_clients.specs.Sessions.{SessionParts}

-- what is kept where that is all that a pass has seen
abbrev pub kept_at : PassParts → ℕ → Kept
kept_at pass next = record { journal = pass.journal; next = next }

-- what a pass has seen
abbrev pub seen_by : PassParts → Kept
seen_by pass = kept_at pass pass.next

-- the keeper stands where a pass does: all that the pass has seen is kept
pub record StandsWith (keeper : KeeperParts) (pass : PassParts) : Type 0 where
  pub commits : keeper.commits ≡ length pass.journal
  pub place : keeper.commits ≤ pass.place
  pub next : keeper.next ≤ pass.next

-- so many commits and ids below this counter are kept: all that the sessions' passes committed and drew
pub record AreCovered (commits next : ℕ) (sessions : List SessionParts) : Type 0 where
  pub committed : All (λ s. All (λ n. n ≤ commits) s.pass.commits) sessions
  pub drawn : All (λ s. All (λ id. id < next) s.pass.draws) sessions

-- an image stands for at least so many commits, and for a counter not below this one
pub record HoldsUpTo (commits next : ℕ) (image : List ℕ) : Type 0 where
  pub found : Kept
  pub stands : StandsFor found image
  pub many : commits ≤ length found.journal
  pub counter : next ≤ found.next
