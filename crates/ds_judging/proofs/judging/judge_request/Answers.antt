use Rattle.std.proofs.Common.{◌≡◌, ◌∙◌, subst, sym}
use Rattle.ds_reply.specs.declared.reply.Body.TheVariants as body
use Rattle.ds_protocol.specs.Operations.{IsAlwaysRefused}
use Rattle.ds_protocol.specs.Refused.{operation_body}
use Rattle.ds_model.specs.Answers.{RequestAnswers}
use Rattle.ds_model.specs.Asked.{search_of}
use Rattle.ds_judging_lines.specs.Deciding.{DecidesTurn, HasCounter, SaidIs, world_in}
use Rattle.ds_judging.specs.Judging.{IsOperated}
use Rattle.ds_judging.proofs.OperationLaws.{has_shard_too, not_unread, operation_counter, request_decided, unread_decided}
use Rattle.ds_judging_lines.proofs.Saying.{ok_so, ok_two, says_same}
use Rattle.ds_judging.proofs.judging.judge_request.Goals as goal

pub judge_operation-requires-clause-shard : goal.judge_operation-requires-clause-shard
judge_operation-requires-clause-shard c =
    has_shard_too c.args.turn.now.run.now.history.shards c.args.request.call c.in-Ok.operation c.in-Ok.ensures.ok c.requires.shard

pub returns-in-Ok-clause-decided : goal.returns-in-Ok-clause-decided
returns-in-Ok-clause-decided c =
    let turn = c.args.turn.now in
    let s = c.args.session.now in
    let call = c.args.request.call in
    let o = c.in-Ok.operation in
    let after = c.judge_operation.new.session in
    ok_so c.judge_operation.result (λ found. DecidesTurn turn (λ said t. IsOperated (world_in turn) turn.client s o said t) found after)
    (λ found. DecidesTurn turn (λ said t. RequestAnswers (world_in turn) turn.client s call (search_of call) said t) found after)
    (λ found decided. request_decided turn s call o found after c.in-Ok.ensures.ok decided) c.judge_operation.ensures.decided

pub returns-in-Err-clause-decided : goal.returns-in-Err-clause-decided
returns-in-Err-clause-decided c =
    let turn = c.args.turn.now in
    let s = c.args.session.now in
    let call = c.args.request.call in
    let b = c.body.result in
    ok_two c.say_refusal.result (SaidIs turn b) (λ found. b ≡ body.NoMemory → ⊥)
    (λ found. DecidesTurn turn (λ said t. RequestAnswers (world_in turn) turn.client s call (search_of call) said t) found s)
    (λ found says other.
    unread_decided turn s call b found s
    (subst (IsAlwaysRefused call) (sym c.body.ensures)
    (not_unread c.in-Err.refused (IsAlwaysRefused call (operation_body c.in-Err.refused)) (λ is. other (c.body.ensures
    ∙ is)) c.in-Err.ensures.refused))
    (subst HasCounter (sym c.body.ensures) (operation_counter c.in-Err.refused)) (says_same turn b s found says))
    c.say_refusal.ensures.said c.say_refusal.ensures.memory
