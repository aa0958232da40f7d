use Rattle.std.proofs.Common.{subst}
use Rattle.ds_asked.specs.AskedLines.{read_as}
use Rattle.ds_reply.specs.declared.reply.Body.TheVariants as body
use Rattle.ds_model.specs.Answers.{AskedAnswers, BodyAnswers}
use Rattle.ds_judging_lines.specs.Deciding.{DecidesTurn, SaidIs, world_in}
use Rattle.ds_judging.proofs.JudgeLaws.{asked_decided, memory_decided}
use Rattle.ds_judging_lines.proofs.Saying.{ok_so}
use Rattle.ds_judging.proofs.judging.judge_turn.Goals as goal

pub returns-in-Some-clause-decided : goal.returns-in-Some-clause-decided
returns-in-Some-clause-decided c =
    let turn = c.args.turn.now in
    memory_decided turn c.args.session.now (read_as turn.client c.args.request) c.in-Some.said
    (subst (SaidIs turn body.NoMemory) c.in-Some.is c.in_ok-said.ensures)

pub returns-in-None-clause-decided : goal.returns-in-None-clause-decided
returns-in-None-clause-decided c =
    let turn = c.args.turn.now in
    let s = c.args.session.now in
    let line = read_as turn.client c.args.request in
    let after = c.judge_read.new.session in
    ok_so c.judge_read.result (λ found. DecidesTurn turn (λ said t. AskedAnswers (world_in turn) s line said t) found after)
    (λ found. DecidesTurn turn (λ said t. BodyAnswers (world_in turn) s line said t) found after)
    (λ found decided. asked_decided turn s line found after (subst (SaidIs turn body.NoMemory) c.in-None.is c.in_ok-said.ensures) decided)
    c.judge_read.ensures.decided
