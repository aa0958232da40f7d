use Rattle.std.proofs.Common.{◌≡◌, ◌++◌}
use Rattle.ds_store_hubs.proofs.arriving.put_all.Given as goal

-- with what is left all are put
abbrev pub invariant-loop-entry : goal.invariant-loop-entry
invariant-loop-entry l = l.entries.items ++ l.entry-iterator.rest.items ≡ l.fn.entries.items ++ l.fn.new
