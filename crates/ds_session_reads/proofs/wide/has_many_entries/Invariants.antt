-- What is left is what the shards so far have not applied.
use Rattle.std.proofs.Common.{◌≡◌, ◌+◌, take}
use Rattle.std.specs.Prelude.{sum}
use Rattle.ds_session_reads.specs.Wide.{most_scanned_by_one}
use Rattle.ds_store.specs.Passes.{counts_of}
use Rattle.ds_session_reads.proofs.wide.has_many_entries.Given as goal

abbrev pub invariant-loop-shard : goal.invariant-loop-shard
invariant-loop-shard g l = l.left + sum (take l.shard (counts_of l.pass)) ≡ most_scanned_by_one
