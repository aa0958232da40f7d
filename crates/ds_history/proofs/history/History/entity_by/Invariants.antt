use Rattle.std.proofs.Common.{◌≡◌, fold, take, None}
use Rattle.std.specs.Option.{option_copied}
use Rattle.ds_log.specs.Logs.{writes_of}
use Rattle.ds_history.specs.Writers.{commits_at, left_at}
use Rattle.ds_history.proofs.history.History.entity_by.Given as goal

-- so far the first commits are looked at
abbrev pub invariant-loop-i : goal.invariant-loop-i
invariant-loop-i l = option_copied l.found ≡ fold (left_at l.key) None (writes_of (commits_at l.self.journal (take l.i l.numbers.commits)))
