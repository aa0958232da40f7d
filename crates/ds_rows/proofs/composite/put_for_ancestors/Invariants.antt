-- The rows of the ancestors so far; what stood in front stays.
use Rattle.std.proofs.Common.{◌≡◌, ◌++◌, [], take}
use Rattle.std.specs.Prelude.{flat_map}
use Rattle.ds_rows.specs.Rows.{ancestors}
use Rattle.ds_rows.specs.Ways.{ancestor_rows}
use Rattle.ds_rows.proofs.composite.put_for_ancestors.Given as goal

abbrev pub invariant-loop-place : goal.invariant-loop-place
invariant-loop-place l = record {
  so_far : l.rows ≡ record {
    rows = l.initial.rows.rows ++ flat_map (ancestor_rows l.initial.front.bytes l.columns l.last) (take l.place (ancestors l.key));
    begun = [];
  };
  front : take l.begun l.front.bytes ≡ l.initial.front.bytes;
}
