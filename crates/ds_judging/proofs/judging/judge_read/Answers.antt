use Rattle.std.proofs.Common.{sym, subst, Option, Ok, Err}
use Rattle.std.specs.Prelude.{IfOk, Result}
use Rattle.ds_asked.specs.AskedLines.{IsLawful, read_as}
use Rattle.ds_request.specs.declared.call.Request.{Request}
use Rattle.ds_reply.specs.declared.reply.Body.{Body}
use Rattle.ds_model.specs.Answers.{AskedAnswers, RequestAnswers}
use Rattle.ds_model.specs.Asked.{search_of}
use Rattle.ds_model.specs.Sessions.{Session}
use Rattle.ds_judging_lines.specs.Deciding.{DecidesTurn, SaidIs, world_in}
use Rattle.ds_judging_lines.specs.declared.turn.Turn.{Turn}
use Rattle.ds_judging.proofs.JudgeLaws.{refusal_read, request_read}
use Rattle.ds_judging_lines.proofs.Saying.{ok_so}
use Rattle.ds_judging.proofs.judging.judge_read.Goals as goal

-- what is found is decided, of what was read
abbrev Decided : Turn → Session → Result Request Body → Option Body → Session → Type 0
Decided turn s request found after =
    DecidesTurn turn (λ said t. AskedAnswers (world_in turn) s (read_as turn.client request) said t) found after

pub judge_request-requires-clause-lawful : goal.judge_request-requires-clause-lawful
judge_request-requires-clause-lawful c =
    (subst (IsLawful c.args.turn.now.run.now.history.shards c.args.turn.now.client) c.in-Ok.is c.requires.lawful).1

pub judge_request-requires-clause-shard : goal.judge_request-requires-clause-shard
judge_request-requires-clause-shard c =
    (subst (IsLawful c.args.turn.now.run.now.history.shards c.args.turn.now.client) c.in-Ok.is c.requires.lawful).2

pub returns-in-Ok-clause-decided : goal.returns-in-Ok-clause-decided
returns-in-Ok-clause-decided c =
    let turn = c.args.turn.now in
    let s = c.args.session.now in
    let r = c.in-Ok.request in
    let after = c.judge_request.new.session in
    let lawful = subst (IsLawful turn.run.now.history.shards turn.client) c.in-Ok.is c.requires.lawful in
    subst (λ q. IfOk c.judge_request.result (λ found. Decided turn s q found after)) (sym c.in-Ok.is)
    (ok_so c.judge_request.result
    (λ found. DecidesTurn turn (λ said t. RequestAnswers (world_in turn) turn.client s r.call (search_of r.call) said t) found after)
    (λ found. Decided turn s (Ok r) found after)
    (λ found decided. request_read turn s r found after lawful.0 decided) c.judge_request.ensures.decided)

pub returns-in-Err-clause-decided : goal.returns-in-Err-clause-decided
returns-in-Err-clause-decided c =
    let turn = c.args.turn.now in
    let s = c.args.session.now in
    let quiet = subst (IsLawful turn.run.now.history.shards turn.client) c.in-Err.is c.requires.lawful in
    subst (λ q. IfOk c.said.result (λ found. Decided turn s q found s)) (sym c.in-Err.is)
    (ok_so c.said.result (SaidIs turn c.in-Err.body) (λ found. Decided turn s (Err c.in-Err.body) found s)
    (λ found says. refusal_read turn s c.in-Err.body found quiet says) c.said.ensures)
