-- What stays while a disk is read.
use Rattle.std.specs.Prelude.{◌≡◌, ℕ, ◌≤◌, List, length, take, Bool, IsTrue}
use Rattle.ds_disk.specs.Crashes.{NoOthers, LeavesOnly}

-- Nothing was written: a crash leaves nothing that it didn't leave before, at any moment.
pub record Stays {D : Type 0} (is_honest : D → Bool) (images : D → List ℕ → Type 0) (moment : D → ℕ) (left_since : D → ℕ → List ℕ → Type 0)
    (faults : D → ℕ) (old new : D) : Type 0 where
  pub honest : is_honest new ≡ is_honest old
  pub crash : IsTrue (is_honest old) → NoOthers (images old) (images new)
  pub moments : IsTrue (is_honest old) → LeavesOnly moment left_since old new (images old)
  pub faults_stay : faults old ≤ faults new

-- these are the first bytes of the others
pub record IsPrefix (front whole : List ℕ) : Type 0 where
  pub same : front ≡ take (length front) whole
  pub within : length front ≤ length whole
