-- What an array that isn't empty is read as.
use Rattle.std.proofs.Common.{◌≡◌, ◌<◌, List, [], ◌∷◌, length, Result, refl, arith}
use Rattle.serde_json.specs.Data.{Data, array}
use Rattle.serde_json.specs.View.{items_view}
use Rattle.serde_json.specs.declared.value.Value.{Value}
use Rattle.ds_json_reading.specs.declared.refusal.Refusal.{Refusal}
use Rattle.ds_json_reading.specs.Reading.{each_of, some_of}

-- an array that isn't empty is read item by item
pub some_of-some : {A : Type 0} (form : Data → Result A Refusal) (vs : List Value) → 0 < length vs → some_of form (array (items_view vs)) ≡ each_of form (items_view vs)
some_of-some form [] some = absurd (omega arith)
some_of-some form (v ∷ vs) some = refl
