-- What is told of the rows so far, and of those that are left, is told of all; and each took its steps.
use Rattle.std.proofs.Common.{◌≡◌, ◌++◌, ◌+◌, map, length}
use Rattle.ds_pages.specs.Places.{parts_of}
use Rattle.ds_engine.specs.Searches.{item_in, look_ups}
use Rattle.ds_engine.specs.Snapshots.{entities_in}
use Rattle.ds_engine.proofs.items.items.Given as goal

abbrev pub invariant-loop-row : goal.invariant-loop-row
invariant-loop-row g l = record {
  told : l.items.items ++ map (item_in l.columns l.select (map entities_in l.snapshots)) (map parts_of l.row-iterator.rest.items)
      ≡ map (item_in l.columns l.select (map entities_in l.snapshots)) (map parts_of l.fn.rows);
  steps : l.steps ≡ l.initial.steps + look_ups l.select (length l.items.items);
  many : length l.items.items + length l.row-iterator.rest.items ≡ length l.fn.rows;
}
