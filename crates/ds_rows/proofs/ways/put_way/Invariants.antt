-- What was put and the values of the columns that are left give the whole row.
use Rattle.std.proofs.Common.{◌≡◌, ◌<◌, drop}
use Rattle.std.specs.Prelude.{All}
use Rattle.ds_bytes.specs.Lawful.{IsLawfulValue}
use Rattle.ds_rows.specs.Ways.{ways_count, way_at, lists_of}
use Rattle.ds_rows.proofs.WayLaws.{behind}
use Rattle.ds_rows.proofs.ways.put_way.Given as goal

abbrev pub invariant-loop-column : goal.invariant-loop-column
invariant-loop-column l = record {
  rows : l.rows.rows ≡ l.initial.rows.rows;
  so_far : behind l.rows.begun (drop l.column-index l.columns) l.left ≡ behind l.initial.rows.begun l.columns l.initial.left;
  lawful : All IsLawfulValue (way_at (lists_of (drop l.column-index l.columns)) l.left)
      → All IsLawfulValue (way_at (lists_of l.columns) l.initial.left);
  stride : l.stride ≡ ways_count (lists_of (drop l.column-index l.columns));
  below : l.left < l.stride;
}
