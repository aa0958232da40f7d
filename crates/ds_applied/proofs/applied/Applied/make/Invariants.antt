use Rattle.std.proofs.Common.{◌≡◌, [], length, replicate}
use Rattle.ds_applied.specs.AppliedLists.{entries_of, applied_of}
use Rattle.ds_applied.proofs.applied.Applied.make.Given as goal

-- so far so many shards without entries
abbrev pub invariant-loop : goal.invariant-loop
invariant-loop l =
    (length l.list.items ≡ l.counter) × (entries_of l.list.items ≡ replicate l.counter []) ×
    (applied_of l.list.items ≡ replicate l.counter 0)
