-- None of the properties so far has the name.
use Rattle.std.proofs.Common.{◌≡◌, drop, bytes_eq}
use Rattle.std.specs.Prelude.{find}
use Rattle.ds_rows.proofs.indexed.indexed_values.Given as goal

abbrev pub invariant-loop-property : goal.invariant-loop-property
invariant-loop-property l =
    find (λ p. bytes_eq p.name l.name) (drop l.property-index l.entity.properties) ≡ find (λ p. bytes_eq p.name l.name) l.entity.properties
