-- What a buffer is: its bytes, and how many more it takes without asking for memory.
use Rattle.std.specs.Prelude.{ℕ, List}

pub record BufferParts : Type 0 where
  pub bytes : List ℕ
  pub spare : ℕ
