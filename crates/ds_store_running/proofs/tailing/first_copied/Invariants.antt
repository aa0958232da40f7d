use Rattle.std.proofs.Common.{◌≡◌, take}
use Rattle.ds_store_running.proofs.tailing.first_copied.Given as goal

abbrev pub invariant-loop-commit : goal.invariant-loop-commit
invariant-loop-commit l = l.commits ≡ take l.commit-index l.commit-items
