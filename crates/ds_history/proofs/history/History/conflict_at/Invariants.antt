use Rattle.std.proofs.Common.{◌≡◌, drop, take}
use Rattle.ds_log.specs.Conflicts.{conflict_from, last_writer}
use Rattle.ds_history.proofs.history.History.conflict_at.Given as goal

-- the groups so far don't conflict
abbrev pub invariant-loop-i : goal.invariant-loop-i
invariant-loop-i l =
    conflict_from (last_writer (take l.place l.self.journal)) l.place 0 l.touched
    ≡ conflict_from (last_writer (take l.place l.self.journal)) l.place l.i (drop l.i l.touched)
