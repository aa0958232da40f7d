use Rattle.std.proofs.Common.{◌≡◌, ◌++◌, take}
use Rattle.std.specs.List.{flat_map}
use Rattle.ds_indexdef.specs.Text.{line, column_lines}
use Rattle.ds_indexdef.proofs.write.write_each.Given as goal

abbrev pub invariant-loop-column : goal.invariant-loop-column
invariant-loop-column l = l.text ≡ l.initial.text ++ flat_map line (flat_map column_lines (take l.column-index l.columns))
