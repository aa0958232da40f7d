use Rattle.std.proofs.Common.{◌≡◌, ◌≤◌, drop}
use Rattle.std.specs.Prelude.{IsFalse}
use Rattle.ds_rows.specs.Laws.{IsOnce}
use Rattle.ds_table.specs.Versions.{has_alive, undone}
use Rattle.ds_table.specs.Blocks.{versions}
use Rattle.std.specs.List.{AllByRecursion as Each}
use Rattle.ds_shard.specs.Rows.{all_added}
use Rattle.ds_shard.proofs.rows.add_rows.Given as goal

abbrev pub invariant-loop-i : goal.invariant-loop-i
invariant-loop-i l = record {
  added : all_added l.stamp (versions l.table) (drop l.i l.rows) ≡ all_added l.stamp (versions l.initial.table) l.rows;
  not_alive : Each (λ row. IsFalse (has_alive row (versions l.table))) (drop l.i l.rows);
  once : IsOnce (drop l.i l.rows);
  leads_back : undone l.stamp (versions l.table) ≡ undone l.stamp (versions l.initial.table);
  last : l.table.last ≤ l.stamp;
  same_floor : l.table.floor ≡ l.initial.table.floor;
  same_least : l.table.least ≡ l.initial.table.least;
  same_least_undone : l.table.least_undone ≡ l.initial.table.least_undone;
}
