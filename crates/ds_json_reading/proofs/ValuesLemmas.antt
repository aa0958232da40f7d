-- Reading values: objects of other than one member.
use Rattle.std.proofs.Common.{◌≡◌, List, [], ◌∷◌, length, Err, refl}
use Rattle.serde_json.specs.Data.{object}
use Rattle.serde_json.specs.View.{members_view}
use Rattle.serde_json.proofs.Views.{Entry}
use Rattle.ds_json_reading.specs.declared.refusal.Refusal.TheVariants as refusal
use Rattle.ds_json_reading.specs.Values.{value_of, property_values_of}

-- an object of other than one member is no value
pub value_of-not_one : (es : List Entry) → (length es ≡ 1 → ⊥) → value_of (object (members_view es)) ≡ Err refusal.Value
value_of-not_one [] h = refl
value_of-not_one (e ∷ []) h = absurd (h refl)
value_of-not_one (e ∷ f ∷ es) h = refl

pub property_values_of-not_one : (es : List Entry) → (length es ≡ 1 → ⊥) → property_values_of (object (members_view es)) ≡ Err refusal.Value
property_values_of-not_one [] h = refl
property_values_of-not_one (e ∷ []) h = absurd (h refl)
property_values_of-not_one (e ∷ f ∷ es) h = refl
