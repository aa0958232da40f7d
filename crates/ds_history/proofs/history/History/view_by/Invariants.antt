use Rattle.std.proofs.Common.{◌≡◌, take}
use Rattle.ds_entity.specs.EntityOrder.{sorted_by_key}
use Rattle.ds_log.specs.After.{after}
use Rattle.ds_log.specs.Logs.{writes_of}
use Rattle.ds_history.specs.Writers.{commits_at}
use Rattle.ds_history.proofs.history.History.view_by.Given as goal

-- so far the first commits are applied
abbrev pub invariant-loop-i : goal.invariant-loop-i
invariant-loop-i l = l.view ≡ sorted_by_key (after (writes_of (commits_at l.self.journal (take l.i l.numbers.commits))))
