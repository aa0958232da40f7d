use Rattle.std.proofs.Common.{◌≡◌, Some, true}
use Rattle.std.proofs.lemmas.Result.{IfOk-weaker}
use Rattle.ds_model.specs.Sessions.{Session}
use Rattle.ds_judging_lines.specs.Deciding.{DecidesTurn, world_in}
use Rattle.ds_request.specs.declared.call.Call.TheVariants as call
use Rattle.ds_model.specs.Answers.{CallAnswers}
use Rattle.ds_judging_writes.specs.Committing.{IsCommit, IsConflict, IsDraftWithin}
use Rattle.ds_judging.proofs.CommitLaws.{commit_committed, commit_conflict}
use Rattle.ds_judging_writes.proofs.WritesTold.{Error}
use Rattle.ds_judging.proofs.transactions.judge_commit.Goals as goal

pub returns-then-tells_error-clause-decided : goal.returns-then-tells_error-clause-decided
returns-then-tells_error-clause-decided c =
    let turn = c.args.turn.now in
    let s : Session = c.args.session.now in
    let read = c.requires.session.turn in
    let o = c.args.session.now.transaction in
    let after : Session = c.judge_conflict.new.session in
    let draft : IsDraftWithin turn.client o c.in-Some.draft = rw c.in-Some.is at c.in_ok-draft.ensures in
    let told : c.tells_error.result ≡ true = cc in
    IfOk-weaker c.judge_conflict.result (λ found. DecidesTurn turn (IsConflict (world_in turn) s o) found after)
    (λ found. DecidesTurn turn (CallAnswers (world_in turn) turn.client s call.Commit) found after)
    (λ found decided. commit_conflict turn s read o c.in-Some.draft c.commit_is_lawful.ensures draft.of found after
    (c.tells_error.ensures.0 told) decided)
    c.judge_conflict.ensures.decided

pub returns-clause-decided : goal.returns-clause-decided
returns-clause-decided c =
    let turn = c.args.turn.now in
    let s : Session = c.args.session.now in
    let read = c.requires.session.turn in
    let o = c.args.session.now.transaction in
    let after : Session = c.judge_committed.new.session in
    let draft : IsDraftWithin turn.client o c.in-Some.draft = rw c.in-Some.is at c.in_ok-draft.ensures in
    let fine : Error turn ≡ Some 13 → ⊥ = λ error. let told : c.tells_error.result ≡ true = c.tells_error.ensures.1 error in cc in
    IfOk-weaker c.judge_committed.result (λ found. DecidesTurn turn (IsCommit (world_in turn) turn.client s o) found after)
    (λ found. DecidesTurn turn (CallAnswers (world_in turn) turn.client s call.Commit) found after)
    (λ found decided. commit_committed turn s read o c.in-Some.draft c.commit_is_lawful.ensures draft.of found after fine decided)
    c.judge_committed.ensures.decided
