-- The commits so far were taken, and those that are left follow.
use Rattle.std.proofs.Common.{◌≡◌, ◌++◌}
use Rattle.ds_restoring.proofs.restoring.load.Given as goal

abbrev pub invariant-loop-commit : goal.invariant-loop-commit
invariant-loop-commit g l = record {
  whole : l.loading.journal ++ l.commit-iterator.rest.items ≡ l.fn.journal;
  same : l.loading ≡ record l.fn.loading { journal = l.loading.journal; next = l.fn.next };
}
