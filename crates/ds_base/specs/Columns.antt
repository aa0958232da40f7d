-- When two columns are the same.
use Rattle.std.specs.Prelude.{Bool, ◌&&◌, bytes_eq}
use Rattle.std.proofs.Math.Bool.{beq}
use Rattle.ds_base.specs.declared.column.Column.{Column}

-- one name and one direction
abbrev pub same_column : Column → Column → Bool
same_column x y = bytes_eq x.name y.name && beq x.descending y.descending
