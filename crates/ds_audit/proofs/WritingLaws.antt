-- A text that is written piece by piece, and how printing ends.
use Rattle.std.proofs.Common.{◌≡◌, ℕ, List, refl, sym, subst, Option}
use Rattle.std.specs.Io.KnownBytes.{Appends}
use Rattle.ds_check.specs.declared.checking.Verdict.{Verdict}
use Rattle.ds_check.specs.declared.checking.Verdict.TheVariants as verdict
use Rattle.ds_audit.specs.Audits.{IfUnfaulted, IfUnwritten, IsPrinted, status_of, verdict_text}
use Rattle.ds_audit.specs.declared.status.AuditStatus.{AuditStatus}
use Rattle.ds_audit.specs.declared.status.AuditStatus.TheVariants as status

-- a verdict whose line was written tells its status
pub printed_as : (v : Verdict) (held now : Option (List ℕ)) (before after : ℕ) (s : AuditStatus) → s ≡ status_of v
    → Appends held now (verdict_text v) → IsPrinted v held now before after s
printed_as v held now before after s is wrote = subst (λ t. IsPrinted v held now before after t) (sym is) (by v wrote) where
  by : (u : Verdict) → Appends held now (verdict_text u) → IsPrinted u held now before after (status_of u)
  by verdict.Legal appends = (refl, appends)
  by (verdict.Reply line) appends = (refl, appends)
  by verdict.Count appends = (refl, appends)
  by verdict.Numbers appends = (refl, appends)
  by verdict.Ids appends = (refl, appends)

-- a status of a verdict says that it was written
pub written_as : (v : Verdict) (s : AuditStatus) (fact : Type 0) → s ≡ status_of v → IfUnwritten s fact
written_as v s fact is = subst (λ t. IfUnwritten t fact) (sym is) (by v) where
  by : (u : Verdict) → IfUnwritten (status_of u) fact
  by verdict.Legal = tt
  by (verdict.Reply line) = tt
  by verdict.Count = tt
  by verdict.Numbers = tt
  by verdict.Ids = tt

-- a fact holds wherever
pub unfaulted : (s : AuditStatus) (fact : Type 0) → fact → IfUnfaulted s fact
unfaulted status.Legal fact p = p
unfaulted status.NotLegal fact p = p
unfaulted status.Usage fact p = p
unfaulted (status.IndexFile line) fact p = p
unfaulted (status.Journal line) fact p = p
unfaulted status.WriteFault fact p = p
unfaulted status.FileFault fact p = tt
unfaulted status.NoMemory fact p = p

-- and where nothing was written
pub unwritten : (s : AuditStatus) (fact : Type 0) → fact → IfUnwritten s fact
unwritten status.Legal fact p = tt
unwritten status.NotLegal fact p = tt
unwritten status.Usage fact p = p
unwritten (status.IndexFile line) fact p = p
unwritten (status.Journal line) fact p = p
unwritten status.WriteFault fact p = tt
unwritten status.FileFault fact p = p
unwritten status.NoMemory fact p = p
