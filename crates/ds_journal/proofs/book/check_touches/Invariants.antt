use Rattle.std.proofs.Common.{◌≡◌, drop}
use Rattle.ds_log.specs.Conflicts.{conflict_from}
use Rattle.ds_log.specs.Heads.{last_noted}
use Rattle.ds_journal.proofs.book.check_touches.Given as goal

abbrev pub invariant-loop-i : goal.invariant-loop-i
invariant-loop-i l =
    conflict_from (last_noted l.heads) l.heads.commits 0 l.touched ≡ conflict_from (last_noted l.heads) l.heads.commits l.i
    (drop l.i l.touched)
