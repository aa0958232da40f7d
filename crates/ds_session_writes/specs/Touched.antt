-- The touched group of a turn.
use Rattle.std.specs.Prelude.{◌≡◌, ℕ, List, Some, slice_get}
use Rattle.ds_base.specs.Keys.{KeyParts}
use Rattle.ds_log.specs.declared.Touch.{Touch}

-- this turn's touch is of this group
pub record IsTouchedAs (touched : List Touch) (turn : ℕ) (group : KeyParts) : Type 0 where
  pub place : ℕ
  pub named : slice_get touched turn ≡ Some (record { group = group; place = place })
