use Rattle.std.proofs.Common.{false}
use Rattle.std.proofs.lemmas.Result.{IfOk-weaker}
use Rattle.ds_model.specs.Sessions.{Session}
use Rattle.ds_judging_lines.specs.Deciding.{DecidesTurn, world_in}
use Rattle.ds_log.specs.declared.Write.TheVariants.{Put}
use Rattle.ds_judging_writes.specs.Committing.{IsPut}
use Rattle.ds_judging_writes.specs.Writing.{IsWritten}
use Rattle.ds_judging_writes.proofs.PutLaws.{complete_as}
use Rattle.ds_judging_writes.proofs.writes.judge_complete.Goals as goal

pub returns-clause-decided : goal.returns-clause-decided
returns-clause-decided c =
    let turn = c.args.turn.now in
    let s : Session = c.args.session.now in
    let after : Session = c.judge_write.new.session in
    IfOk-weaker c.judge_write.result
    (λ found. DecidesTurn turn (IsWritten (world_in turn) turn.client s (Put c.args.entity)) found after)
    (λ found. DecidesTurn turn (IsPut (world_in turn) turn.client s false c.args.entity) found after)
    (λ found decided. complete_as turn s c.requires.session.turn c.args.entity found after decided)
    c.judge_write.ensures.decided
