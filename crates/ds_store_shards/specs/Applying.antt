-- How many entries are applied at once.
use Rattle.std.specs.Prelude.{ℕ, ◌+◌, ◌<◌, ◌≤◌}

-- there are more than before, and no more than so many: one more, where that is one
abbrev pub IsFew : ℕ → ℕ → ℕ → Type 0
IsFew before after most = (before < after) × (after ≤ before + most)
