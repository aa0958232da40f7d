-- The places that the shards so far gave, and its steps, of which each place took one.
use Rattle.std.proofs.Common.{◌+◌, ◌≤◌, length, take}
use Rattle.std.specs.Prelude.{sum_by}
use Rattle.ds_branch.specs.Behind.{ArePlaces}
use Rattle.ds_engine.specs.Searches.{bound_in, given_over, most_of}
use Rattle.ds_engine.proofs.over_shards.page_over_shards.Given as goal

abbrev pub invariant-loop-snapshot : goal.invariant-loop-snapshot
invariant-loop-snapshot g l = record {
  places : ArePlaces l.branch.columns (given_over l.query.normal.now l.query.window.now l.branch (take l.snapshot-index l.snapshots))
      l.places.items;
  steps : l.steps ≤ l.initial.steps
      + sum_by (bound_in l.query.window.now (most_of l.query.normal.now l.query.window.now) l.branch) (take l.snapshot-index l.snapshots);
  counted : l.initial.steps + length l.places.items ≤ l.steps;
}
