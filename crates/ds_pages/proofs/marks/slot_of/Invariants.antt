-- The name wasn't among the columns so far, and `slot` of them have values.
use Rattle.std.proofs.Common.{◌≡◌, ◌≤◌, drop}
use Rattle.std.specs.Prelude.{bytes_eq}
use Rattle.std.specs.List.{position_from}
use Rattle.ds_pages.specs.Columns.{value_columns}
use Rattle.ds_pages.specs.Slots.{slot_of}
use Rattle.ds_pages.proofs.marks.slot_of.Given as goal

abbrev pub invariant-loop-column : goal.invariant-loop-column
invariant-loop-column l = record {
  left : position_from (λ c. bytes_eq l.name c.name) l.slot (value_columns (drop l.column-index l.columns)) ≡ slot_of l.columns l.name;
  few : l.slot ≤ l.column-index;
}
