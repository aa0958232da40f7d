use Rattle.std.proofs.Common.{◌∙◌, subst, sym}
use Rattle.std.specs.Prelude.{IfSome}
use Rattle.ds_load.specs.Telling.{IsOfRuns}
use Rattle.ds_fill.specs.Filling.{AreReplies}
use Rattle.ds_fill.proofs.LegalRuns.{told}
use Rattle.ds_fill.proofs.fill.served.Goals as goal

pub returns-in-Some : goal.returns-in-Some
returns-in-Some g c =
    told c.args.items c.bytes.result.now c.in-Some.summary
    (subst (AreReplies c.args.items) (sym (c.bytes.ensures ∙ c.written.ensures)) c.in_ok-replies.ensures)
    (subst (λ found. IfSome found (IsOfRuns c.args.items c.bytes.result.now)) c.in-Some.is c.in_ok-summary.ensures.told)
