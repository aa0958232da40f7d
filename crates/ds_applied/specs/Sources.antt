-- The entities that a read sees, wherever they lie.
use Rattle.std.specs.Prelude.{List}
use Rattle.ds_entity.specs.Entities.{EntityParts}
use Rattle.ds_applied.specs.declared.visible.Source.{Source}
use Rattle.ds_applied.specs.declared.visible.Source.TheVariants.{Kept, Rebuilt}

abbrev pub entities_from : Source → List EntityParts
entities_from (Kept map) = map.now
entities_from (Rebuilt map) = map
