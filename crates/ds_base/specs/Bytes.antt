-- Numbers that are bytes.
use Rattle.std.specs.Prelude.{ℕ, ◌<◌, List, All}

-- each is below 256
abbrev pub AreBytes : List ℕ → Type 0
AreBytes = All (λ b. b < 256)
