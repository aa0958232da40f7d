-- What each moment of a run leaves on its disk.
use Rattle.std.specs.Prelude.{◌≡◌, ℕ, ◌≤◌, List, ◌++◌, Option, Some, None}
use Rattle.ds_log.specs.declared.Commit.{Commit}
use Rattle.ds_kept_file.specs.Files.{Kept, StandsFor}

-- the image stands for a journal that begins with the kept one, and for a counter not below the kept one
pub record StandsBehind (kept : Kept) (image : List ℕ) : Type 0 where
  pub found : Kept
  pub stands : StandsFor found image
  pub more : List Commit
  pub begins : found.journal ≡ kept.journal ++ more
  pub counter : kept.next ≤ found.next

-- and that journal is the front of the run's
pub record IsBetween (kept : Kept) (journal : List Commit) (image : List ℕ) : Type 0 where
  pub first : StandsBehind kept image
  pub behind : List Commit
  pub front : journal ≡ first.found.journal ++ behind

-- what a crash at some moment of a run may leave: a run without a journal has kept at least what was kept
abbrev pub IsLeft : Kept → Option (List Commit) → List ℕ → Type 0
IsLeft kept None image = StandsBehind kept image
IsLeft kept (Some journal) image = IsBetween kept journal image
