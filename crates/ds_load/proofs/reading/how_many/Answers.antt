use Rattle.std.proofs.Common.{◌≡◌, List, [], ◌∷◌, length, refl, arith}
use Rattle.serde_json.specs.View.{items_view}
use Rattle.serde_json.specs.declared.value.Value.{Value}
use Rattle.ds_load.specs.Telling.{how_many}
use Rattle.ds_load.proofs.reading.how_many.Goals as goal

counted : (items : List Value) → length items ≡ how_many (items_view items)
counted [] = refl
counted (x ∷ items) = omega (arith, counted items)

pub returns : goal.returns
returns c = counted c.args.items.now
