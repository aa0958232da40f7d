-- Want of memory alone is free: a call may answer it in place of anything, and of nothing else is it silent.
use Rattle.std.specs.Prelude.{◌≡◌, ◌⊎◌, Option, Some, None, Result, Ok, Err, MatchOption}

-- What a call says of its result, unless that means out of memory. `reason` gives what an error tells, and nothing when out of memory.
abbrev pub UnlessNoMemory : {A E R : Type 0} → (E → Option R) → (Result A R → Type 0) → Result A E → Type 0
UnlessNoMemory {A = A} {E = E} {R = R} reason Told (Ok found) = Told (Ok found)
UnlessNoMemory {A = A} {E = E} {R = R} reason Told (Err error) = MatchOption (reason error) (Unit {0}) (λ told. Told (Err told))

-- the refusal that is due, or none; and where none is due it may be lack of memory
abbrev pub IsDueOrNoMemory : {E : Type 0} → E → Option E → Option E → Type 0
IsDueOrNoMemory no_memory due told = (told ≡ due) ⊎ ((told ≡ Some no_memory) × (due ≡ None))
