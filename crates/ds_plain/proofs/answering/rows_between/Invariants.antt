-- The rows so far and those that are left are all.
use Rattle.std.proofs.Common.{◌≡◌, ◌++◌, map}
use Rattle.std.specs.Prelude.{All, filter}
use Rattle.ds_model.specs.Rows.{rows}
use Rattle.ds_model.specs.Results.{is_between}
use Rattle.ds_pages.specs.Places.{IsPlaced, placed}
use Rattle.ds_plain.specs.FoundRows.{found_parts, IsLong}
use Rattle.ds_plain.proofs.answering.rows_between.Given as goal

abbrev pub invariant-loop-found : goal.invariant-loop-found
invariant-loop-found l = record {
  rows : l.rows.items
      ++ map (placed l.branch.columns)
      (filter (is_between l.branch.columns l.window.start l.window.end) (map found_parts l.found-iterator.rest.items))
      ≡ map (placed l.branch.columns)
      (filter (is_between l.branch.columns l.window.start l.window.end) (rows l.branch (map (λ e. e.now) l.entities)));
  placed : All (IsPlaced l.branch.columns) l.rows.items;
  long : All (IsLong l.branch.columns) l.found-iterator.rest.items;
}
