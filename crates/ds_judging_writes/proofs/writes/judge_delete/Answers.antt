use Rattle.std.proofs.Common.{◌≡◌, Some, true}
use Rattle.std.proofs.lemmas.Result.{IfOk-weaker}
use Rattle.ds_model.specs.Sessions.{Session}
use Rattle.ds_judging_lines.specs.Deciding.{DecidesTurn, world_in}
use Rattle.ds_log.specs.declared.Write.TheVariants.{Delete}
use Rattle.ds_judging_writes.specs.Writing.{IsIdNotIssued, IsWritten}
use Rattle.ds_judging_writes.proofs.PutLaws.{Deletes, delete_not_issued, delete_written}
use Rattle.ds_judging_writes.proofs.WritesTold.{Error}
use Rattle.ds_judging_writes.proofs.writes.judge_delete.Goals as goal

pub returns-then-tells_error-clause-decided : goal.returns-then-tells_error-clause-decided
returns-then-tells_error-clause-decided c =
    let turn = c.args.turn.now in
    let s : Session = c.args.session.now in
    let read = c.requires.session.turn in
    let after : Session = c.judge_not_issued.new.session in
    let told : c.tells_error.result ≡ true = cc in
    IfOk-weaker c.judge_not_issued.result (λ found. DecidesTurn turn (IsIdNotIssued s c.args.key) found after)
    (λ found. DecidesTurn turn (Deletes turn s read c.args.key c.key_is_lawful.ensures found after) found after)
    (λ found decided. delete_not_issued turn s read c.args.key c.key_is_lawful.ensures found after (c.tells_error.ensures.0 told) decided)
    c.judge_not_issued.ensures.decided

pub returns-clause-decided : goal.returns-clause-decided
returns-clause-decided c =
    let turn = c.args.turn.now in
    let s : Session = c.args.session.now in
    let read = c.requires.session.turn in
    let after : Session = c.judge_write.new.session in
    let fine : Error turn ≡ Some 21 → ⊥ = λ error. let told : c.tells_error.result ≡ true = c.tells_error.ensures.1 error in cc in
    IfOk-weaker c.judge_write.result
    (λ found. DecidesTurn turn (IsWritten (world_in turn) turn.client s (Delete c.args.key)) found after)
    (λ found. DecidesTurn turn (Deletes turn s read c.args.key c.key_is_lawful.ensures found after) found after)
    (λ found decided. delete_written turn s read c.args.key c.key_is_lawful.ensures found after fine decided)
    c.judge_write.ensures.decided
