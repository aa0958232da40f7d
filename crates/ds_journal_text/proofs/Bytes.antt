-- Numbers that are bytes, from a list's type.
use Rattle.std.proofs.Common.{ℕ, ◌<◌, List}
use Rattle.std.specs.Prelude.{slice_index}
use Rattle.std.proofs.lemmas.List.Elements.{All-from_get_or}
use Rattle.ds_base.specs.Bytes.{AreBytes}

pub bytes_all : (bs : List ℕ) → ((i : ℕ) → slice_index bs i < 256) → AreBytes bs
bytes_all bs h = All-from_get_or (λ b. b < 256) bs 0 (λ i below. h i)
