-- Room for replies that there was no memory.
use Rattle.std.specs.Prelude.{ℕ}

-- no reply that there was no memory is longer, in bytes
abbrev pub most_no_memory : ℕ
most_no_memory = 96
