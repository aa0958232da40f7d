-- Arrays and objects of other shapes are no touches and no writes.
use Rattle.std.proofs.Common.{◌≡◌, List, [], ◌∷◌, length, Err, refl}
use Rattle.serde_json.specs.Data.{array, object}
use Rattle.serde_json.specs.View.{items_view, members_view}
use Rattle.serde_json.specs.declared.value.Value.{Value}
use Rattle.serde_json.proofs.Views.{Entry}
use Rattle.ds_json_reading.specs.declared.refusal.Refusal.TheVariants as refusal
use Rattle.ds_journal_text.specs.Reading.{touch_of, write_of}

pub touch_of-not_two : (vs : List Value) → (length vs ≡ 2 → ⊥) → touch_of (array (items_view vs)) ≡ Err refusal.Request
touch_of-not_two [] h = refl
touch_of-not_two (v ∷ []) h = refl
touch_of-not_two (v ∷ w ∷ []) h = absurd (h refl)
touch_of-not_two (v ∷ w ∷ u ∷ vs) h = refl

pub write_of-not_one : (es : List Entry) → (length es ≡ 1 → ⊥) → write_of (object (members_view es)) ≡ Err refusal.Request
write_of-not_one [] h = refl
write_of-not_one (e ∷ []) h = absurd (h refl)
write_of-not_one (e ∷ f ∷ es) h = refl
