use Rattle.std.proofs.Common.{ℕ, subst}
use Rattle.ds_io.specs.Faults.{Rose}
use Rattle.ds_replication.proofs.reading.read_by.Goals as goal

pub returns-in-Err-clause-unread : goal.returns-in-Err-clause-unread
returns-in-Err-clause-unread g c =
    subst (λ (before : ℕ). Rose before (g.I.Source.faults c.read_at_most.new.input)) c.read.invariant.2 c.in-Err.ensures.fault
