use Rattle.std.proofs.Common.{ℕ, ◌<◌, length, get_or}
use Rattle.ds_store_passes.specs.Ending.{IsConfirmed}
use Rattle.ds_store_passes.specs.Passes.{PassParts}
use Rattle.ds_store_journal.proofs.ending.confirm_journal.Given as goal

abbrev pub invariant-loop-pass : goal.invariant-loop-pass
invariant-loop-pass g l =
    (k : ℕ) (d : PassParts) → k < l.pass-index → IsConfirmed (length g.J.Names.shards) l.desk.book.journal (get_or l.passes k d)
