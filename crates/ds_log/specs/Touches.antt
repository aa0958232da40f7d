-- The groups that a transaction touched, in touch order, each with the place in the journal at which it is read.
use Rattle.std.specs.Prelude.{ℕ, List, [], ◌∷◌, ◌++◌, Bool, cond, Option, Some, None, is_some}
use Rattle.ds_base.specs.Keys.{KeyParts}
use Rattle.ds_base.specs.KeyOrder.{same_key}
use Rattle.ds_log.specs.declared.Touch.{Touch}

-- the touch place of a group; none where it isn't touched
abbrev pub touch_place : KeyParts → List Touch → Option ℕ
touch_place g [] = None
touch_place g (t ∷ ts) = cond (same_key g t.group) (Some t.place) (touch_place g ts)

abbrev pub is_touched : KeyParts → List Touch → Bool
is_touched g ts = is_some (touch_place g ts)

-- the first touch of a group puts it last, with this place; a group that is touched keeps its turn and its place
abbrev pub with_touch : KeyParts → ℕ → List Touch → List Touch
with_touch g m ts = cond (is_touched g ts) ts (ts ++ record { group = g; place = m } ∷ [])
