use Rattle.std.proofs.Common.{◌≡◌, take, drop}
use Rattle.ds_store_journal.proofs.handing_out.copied.Given as goal

abbrev pub invariant-loop-commit : goal.invariant-loop-commit
invariant-loop-commit l = l.commits ≡ take l.commit-index (drop l.from l.journal)
