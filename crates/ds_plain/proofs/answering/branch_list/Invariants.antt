-- The rows so far and those that are left are all.
use Rattle.std.proofs.Common.{◌≡◌, ◌++◌, map}
use Rattle.std.specs.Prelude.{All}
use Rattle.ds_model.specs.Results.{extended}
use Rattle.ds_pages.specs.Places.{IsPlaced, placed}
use Rattle.ds_plain.specs.FoundRows.{found_parts}
use Rattle.ds_plain.specs.Answers.{branch_list}
use Rattle.ds_plain.proofs.answering.branch_list.Given as goal

abbrev pub invariant-loop-found : goal.invariant-loop-found
invariant-loop-found l = record {
  rows : l.rows.items ++ map (placed l.merged) (map (extended l.merged l.branch) (map found_parts l.found-iterator.rest.items))
      ≡ branch_list l.merged (map (λ e. e.now) l.entities) l.branch;
  placed : All (IsPlaced l.merged) l.rows.items;
}
