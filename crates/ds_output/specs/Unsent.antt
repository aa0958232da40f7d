-- Texts of which the first bytes were taken.
use Rattle.std.specs.Prelude.{◌≡◌, ℕ, ◌<◌, ◌≤◌, List, [], length, slice_index_or, All}
use Rattle.ds_base.specs.Buffers.{BufferParts}

-- no text has a byte
abbrev pub AreEmpty : List BufferParts → Type 0
AreEmpty texts = All (λ text. text.bytes ≡ []) texts

-- so many bytes of a client's text were taken, which has as many
pub record IsPartTaken (texts : List BufferParts) (client taken : ℕ) : Type 0 where
  pub there : client < length texts
  pub within : (d : BufferParts) → taken ≤ length (slice_index_or texts client d).bytes
