-- What an output takes: a buffer grows until a piece is refused.
use Rattle.std.specs.Prelude.{◌≡◌, ℕ, ◌+◌, ◌≤◌, List, ◌++◌, length, false}
use Rattle.ds_json_printing.specs.declared.output.Growing.{Growing}

-- Bytes are put at the end: the text, unless a piece was refused, which doesn't happen where there is the room.
pub record WritesText (text : List ℕ) (s t : Growing) : Type 0 where
  pub added : List ℕ
  pub grown : t.buffer.bytes ≡ s.buffer.bytes ++ added
  pub room : s.buffer.spare ≤ t.buffer.spare + length added
  pub begun : t.refused ≡ false → s.refused ≡ false
  pub whole : t.refused ≡ false → added ≡ text
  pub fits : s.refused ≡ false → length text ≤ s.buffer.spare → t.refused ≡ false
