-- The test of columns tells exactly those apart that differ.
use Rattle.std.specs.Prelude.{◌≡◌, bytes_eq}
use Rattle.std.proofs.Math.Bool.{beq}
use Rattle.std.specs.Bool.{Decides}
use Rattle.std.specs.Cmp.{IsEquivalence, booleans_Decides, decided}
use Rattle.std.proofs.Common.{ap}
use Rattle.std.proofs.lemmas.Bool.Decides.{Decides-and}
use Rattle.std.proofs.lemmas.Slice.Eq.{bytes_eq-Decides}
use Rattle.ds_base.specs.declared.column.Column.{Column}
use Rattle.ds_base.specs.Columns.{same_column}

pub same_column-decides : (x y : Column) → Decides (same_column x y) (x ≡ y)
same_column-decides x y =
    let names = bytes_eq-Decides x.name y.name in
    let directions = booleans_Decides x.descending y.descending in
    let both = Decides-and (bytes_eq x.name y.name) (beq x.descending y.descending) names directions in (
      λ e. let parts = both.0 e in λ i. record { name = parts.0 i; descending = parts.1 i },
      λ e. both.1 (ap (λ (c : Column). c.name) e, ap (λ (c : Column). c.descending) e),
    )

pub same_column-equiv : IsEquivalence same_column
same_column-equiv = decided same_column same_column-decides
