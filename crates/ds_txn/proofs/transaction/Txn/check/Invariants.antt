use Rattle.std.proofs.Common.{◌≡◌, ◌-◌, drop, length}
use Rattle.ds_log.specs.Conflicts.{conflict_from}
use Rattle.ds_log.specs.Heads.{last_noted}
use Rattle.ds_txn.specs.Transactions.{touches_of}
use Rattle.ds_txn.proofs.transaction.Txn.check.Given as goal

abbrev pub invariant-loop-group : goal.invariant-loop-group
invariant-loop-group l =
    conflict_from (last_noted l.heads) l.heads.commits 0 (touches_of l.self-inside.groups.entries)
    ≡ conflict_from (last_noted l.heads) l.heads.commits l.i (drop l.i (touches_of l.self-inside.groups.entries))

abbrev pub decreases-loop-group : goal.decreases-loop-group
decreases-loop-group l = length l.self-inside.groups.entries - l.i
