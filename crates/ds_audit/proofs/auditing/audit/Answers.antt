use Rattle.std.proofs.Common.{inl, inr, refl}
use Rattle.ds_audit.proofs.WritingLaws.{unfaulted, unwritten}
use Rattle.ds_audit.proofs.auditing.audit.Goals as goal

pub returns-in-Ok-clause-audited : goal.returns-in-Ok-clause-audited
returns-in-Ok-clause-audited g c = record { how = inr (c.in-Ok.verdict, c.in-Ok.ensures.decided, c.print.ensures.printed) }

pub returns-in-Err-clause-audited : goal.returns-in-Err-clause-audited
returns-in-Err-clause-audited g c = record { how = inl c.in-Err.ensures.undecided }

pub returns-in-Ok-clause-unfaulted : goal.returns-in-Ok-clause-unfaulted
returns-in-Ok-clause-unfaulted g c = unfaulted c.print.result _ c.in-Ok.ensures.unfaulted

pub returns-in-Err-clause-unwritten : goal.returns-in-Err-clause-unwritten
returns-in-Err-clause-unwritten g c = unwritten c.in-Err.status _ refl
