-- The test of definitions tells exactly those apart that differ, and a new one keeps a list distinct.
use Rattle.std.specs.Prelude.{◌≡◌, ◌+◌, ◌^◌, ◌<◌, ◌++◌, ◌&&◌, List, [], ◌∷◌, false, length, bytes_eq}
use Rattle.std.specs.Bool.{Decides}
use Rattle.std.specs.Cmp.{IsEquivalence, booleans_Decides, decided}
use Rattle.std.specs.Cmp.Lexicographic.{pointwise}
use Rattle.std.specs.List.{IsDistinct, list_any}
use Rattle.std.proofs.Common.{ap, refl, arith, length-append}
use Rattle.std.proofs.Math.Bool.{beq}
use Rattle.std.proofs.lemmas.Bool.Decides.{Decides-and}
use Rattle.std.proofs.lemmas.Map.Keys.{IsDistinct-push}
use Rattle.std.proofs.lemmas.Slice.Eq.{bytes_eq-Decides, slice_eq-Decides}
use Rattle.ds_base.specs.Columns.{same_column}
use Rattle.ds_base.specs.ColumnLaws.{same_column-decides}
use Rattle.ds_indexdef.specs.declared.IndexDef.{IndexDef}
use Rattle.ds_indexdef.specs.Definitions.{same_def, AreDefs}

pub same_def-decides : (x y : IndexDef) → Decides (same_def x y) (x ≡ y)
same_def-decides x y =
    let kinds = bytes_eq-Decides x.kind y.kind in
    let flags = booleans_Decides x.ancestor y.ancestor in
    let columns = slice_eq-Decides same_column-decides x.columns y.columns (pointwise same_column x.columns y.columns) refl in
    let rest = Decides-and (beq x.ancestor y.ancestor) (pointwise same_column x.columns y.columns) flags columns in
    let all = Decides-and (bytes_eq x.kind y.kind) (beq x.ancestor y.ancestor && pointwise same_column x.columns y.columns) kinds rest in (
      λ e. let parts = all.0 e in λ i. record { kind = parts.0 i; ancestor = parts.1.0 i; columns = parts.1.1 i },
      λ e. all.1 (ap (λ (d : IndexDef). d.kind) e, (ap (λ (d : IndexDef). d.ancestor) e, ap (λ (d : IndexDef). d.columns) e)),
    )

pub same_def-equiv : IsEquivalence same_def
same_def-equiv = decided same_def same_def-decides

pub AreDefs-none : AreDefs []
unfolding IsDistinct
AreDefs-none = record { distinct = tt; few = omega arith }

pub AreDefs-push : (defs : List IndexDef) (def : IndexDef) → AreDefs defs → list_any (same_def def) defs ≡ false
    → length defs + 1 < 2 ^ 32 → AreDefs (defs ++ def ∷ [])
AreDefs-push defs def kept new few = record {
  distinct = IsDistinct-push same_def-equiv defs def kept.distinct new;
  few = omega (arith, length-append defs (def ∷ []));
}
