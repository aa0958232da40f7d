-- The rows so far.
use Rattle.std.proofs.Common.{◌≡◌, map}
use Rattle.std.specs.Prelude.{All}
use Rattle.ds_pages.specs.Places.{IsPlaced}
use Rattle.ds_branch.specs.Merging.{in_merged}
use Rattle.ds_branch.proofs.extending.extended.Given as goal

abbrev pub invariant-loop-row : goal.invariant-loop-row
invariant-loop-row l = record {
  rows : l.all.items ≡ map (in_merged l.merged l.branch) l.yielded;
  placed : All (IsPlaced l.merged) l.all.items;
}
