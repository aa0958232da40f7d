-- What arrays of the wrong length are read as.
use Rattle.std.proofs.Common.{◌≡◌, List, [], ◌∷◌, length, Err, refl}
use Rattle.serde_json.specs.Data.{array}
use Rattle.serde_json.specs.View.{items_view}
use Rattle.serde_json.specs.declared.value.Value.{Value}
use Rattle.ds_json_reading.specs.declared.refusal.Refusal.TheVariants as refusal
use Rattle.ds_member_reading.specs.Forms.{filter_of, order_of}

-- only an array of three can be a filter
pub filter_of-not_three : (vs : List Value) → (length vs ≡ 3 → ⊥) → filter_of (array (items_view vs)) ≡ Err refusal.Request
filter_of-not_three [] other = refl
filter_of-not_three (p ∷ []) other = refl
filter_of-not_three (p ∷ o ∷ []) other = refl
filter_of-not_three (p ∷ o ∷ q ∷ []) other = absurd (other refl)
filter_of-not_three (p ∷ o ∷ q ∷ e ∷ vs) other = refl

-- only an array of two can be an order
pub order_of-not_two : (vs : List Value) → (length vs ≡ 2 → ⊥) → order_of (array (items_view vs)) ≡ Err refusal.Request
order_of-not_two [] other = refl
order_of-not_two (p ∷ []) other = refl
order_of-not_two (p ∷ o ∷ []) other = absurd (other refl)
order_of-not_two (p ∷ o ∷ e ∷ vs) other = refl
