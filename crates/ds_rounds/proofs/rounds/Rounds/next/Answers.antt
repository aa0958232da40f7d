use Rattle.std.proofs.Common.{◌∙◌, ap, subst, sym}
use Rattle.ds_rounds.specs.Reading.{IsReader}
use Rattle.ds_rounds.proofs.CallLaws.{reads_ended, reads_failed}
use Rattle.ds_rounds.proofs.rounds.Rounds.next.Goals as goal

pub returns-in-Ended-clause-reads : goal.returns-in-Ended-clause-reads
returns-in-Ended-clause-reads g c =
    reads_ended (g.I.Source.left c.args.input.now) c.args.self.now (subst IsReader c.self.view_is c.self.invariant) (sym (ap (λ r. r.stage) c.self.view_is) ∙ c.in-Ended.is)

pub returns-in-Failed-clause-reads : goal.returns-in-Failed-clause-reads
returns-in-Failed-clause-reads g c =
    reads_failed (g.I.Source.left c.args.input.now) c.args.self.now c.refused_again.result (subst IsReader c.self.view_is c.self.invariant) (sym (ap (λ r. r.stage) c.self.view_is) ∙ c.in-Failed.is)
    c.refused_again.ensures.limit c.refused_again.ensures.memory
