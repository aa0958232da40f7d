use Rattle.std.proofs.Common.{◌≡◌, ◌≤◌, drop}
use Rattle.std.specs.Prelude.{IsTrue}
use Rattle.ds_rows.specs.Laws.{IsOnce}
use Rattle.ds_table.specs.Versions.{has_alive}
use Rattle.ds_table.specs.Blocks.{versions}
use Rattle.std.specs.List.{AllByRecursion as Each}
use Rattle.ds_shard.specs.Rows.{all_closed}
use Rattle.ds_shard.proofs.rows.close_rows.Given as goal

abbrev pub invariant-loop-i : goal.invariant-loop-i
invariant-loop-i l = record {
  closed : all_closed l.stamp (versions l.table) (drop l.i l.rows) ≡ all_closed l.stamp (versions l.initial.table) l.rows;
  alive : Each (λ row. IsTrue (has_alive row (versions l.table))) (drop l.i l.rows);
  once : IsOnce (drop l.i l.rows);
  last : l.table.last ≤ l.stamp;
  same_floor : l.table.floor ≡ l.initial.table.floor;
  same_least : l.table.least ≡ l.initial.table.least;
  same_least_undone : l.table.least_undone ≡ l.initial.table.least_undone;
}
