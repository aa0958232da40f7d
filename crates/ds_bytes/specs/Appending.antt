-- What an encoder leaves of a buffer.
use Rattle.std.specs.Prelude.{◌≡◌, ℕ, ◌+◌, ◌≤◌, List, ◌++◌, length, Result, OnOk, OnErr, IsOk}
use Rattle.std.specs.declared.alloc.AllocError.{AllocError}
use Rattle.ds_base.specs.Buffers.{BufferParts}

-- The bytes are put at the end; a refusal leaves the bytes as they were, and never comes where the room suffices. What was
-- encoded is lawful.
pub record IsAppended (bytes : List ℕ) (Lawful : Type 0) (old new : BufferParts) (result : Result (Unit {0}) AllocError) : Type 0 where
  pub ok : OnOk result (new.bytes ≡ old.bytes ++ bytes)
  pub room : OnOk result (old.spare ≤ new.spare + length bytes)
  pub err : OnErr result (new.bytes ≡ old.bytes)
  pub succeeds : length bytes ≤ old.spare → IsOk result
  pub lawful : Lawful
