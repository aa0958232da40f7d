-- What the pieces of an encoding leave of the buffer that they are put into.
use Rattle.std.specs.Prelude.{◌≡◌, ℕ, ◌+◌, ◌≤◌, false, List, ◌++◌, length}
use Rattle.ds_bytes.specs.Encoding.{directed}
use Rattle.ds_bytes.specs.declared.output.Output.{Output}

-- The bytes stand at the end of the buffer in the output's direction, unless memory was refused. It isn't where the room
-- suffices, and the bytes take no more room than they are long. Once it was refused the output takes nothing more.
pub record Puts (bytes : List ℕ) (old new : Output) : Type 0 where
  pub same : (new.descending ≡ old.descending) × (new.before ≡ old.before)
  pub ok : new.refused ≡ false → (old.refused ≡ false) × (new.buffer.bytes ≡ old.buffer.bytes ++ directed old.descending bytes)
  pub room : new.refused ≡ false → old.buffer.spare ≤ new.buffer.spare + length bytes
  pub behind : (more : List ℕ) × (new.buffer.bytes ≡ old.buffer.bytes ++ more)
  pub succeeds : old.refused ≡ false → length bytes ≤ old.buffer.spare → new.refused ≡ false
