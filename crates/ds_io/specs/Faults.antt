-- Counts of faults: when a count rose, and by how much.
use Rattle.std.specs.Prelude.{ℕ, Bool, true, false, ◌≡◌, ◌+◌, ◌-◌, ◌^◌, ◌<◌, ◌⊎◌, min, List, Result, Ok, Err}
use Rattle.ds_io.specs.declared.traits.LoadFault.{LoadFault}
use Rattle.ds_io.specs.declared.traits.LoadFault.TheVariants.{Failed, NoMemory}

-- the last value of a count: one that stands there stays there
abbrev pub last_count : ℕ
last_count = 2 ^ 64 - 1

-- the count after one more
abbrev pub next_count : ℕ → ℕ
next_count n = min (n + 1) last_count

-- The count rose: it is greater than before, or it stands at the last value, where a further fault no longer shows.
abbrev pub Rose : ℕ → ℕ → Type 0
Rose old new = (old < new) ⊎ (new ≡ last_count)

-- a load answered that it failed, which is a fault; lack of memory is none
abbrev pub is_failed : Result (List ℕ) LoadFault → Bool
is_failed (Ok bytes) = false
is_failed (Err Failed) = true
is_failed (Err NoMemory) = false
