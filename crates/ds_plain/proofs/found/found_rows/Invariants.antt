-- The rows of the entities so far.
use Rattle.std.proofs.Common.{◌≡◌, map, take}
use Rattle.ds_model.specs.Rows.{rows}
use Rattle.ds_plain.specs.FoundRows.{found_parts}
use Rattle.ds_plain.proofs.found.found_rows.Given as goal

abbrev pub invariant-loop-entity : goal.invariant-loop-entity
invariant-loop-entity l = map found_parts l.found.items ≡ rows l.branch (map (λ e. e.now) (take l.entity-index l.entities))
