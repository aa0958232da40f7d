use Rattle.std.proofs.Common.{◌≡◌, map}
use Rattle.std.specs.Map.Iter.{deref_pair}
use Rattle.ds_txn.specs.Transactions.{touches_of}
use Rattle.ds_txn.proofs.transaction.copy_touches.Given as goal

abbrev pub invariant-loop-group : goal.invariant-loop-group
invariant-loop-group l = l.touched.items ≡ touches_of (map deref_pair l.yielded)
