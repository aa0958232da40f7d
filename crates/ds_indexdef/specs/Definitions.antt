-- When two index definitions are the same, and which lists of them are kept.
use Rattle.std.specs.Prelude.{Bool, ◌&&◌, ◌^◌, ◌<◌, List, bytes_eq, length}
use Rattle.std.specs.List.{IsDistinct}
use Rattle.std.specs.Cmp.Lexicographic.{pointwise}
use Rattle.std.proofs.Math.Bool.{beq}
use Rattle.ds_base.specs.Columns.{same_column}
use Rattle.ds_indexdef.specs.declared.IndexDef.{IndexDef}

-- one kind, one ancestor flag, and the same columns in the same order
abbrev pub same_def : IndexDef → IndexDef → Bool
same_def x y = bytes_eq x.kind y.kind && (beq x.ancestor y.ancestor && pointwise same_column x.columns y.columns)

-- no definition stands twice, so that its place names it, and the places fit into 32 bits
pub record AreDefs (defs : List IndexDef) : Type 0 where
  pub distinct : IsDistinct same_def defs
  pub few : length defs < 2 ^ 32
