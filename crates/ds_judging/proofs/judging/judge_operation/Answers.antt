use Rattle.std.proofs.Common.{◌≡◌, subst, Some, None}
use Rattle.ds_reply.specs.declared.reply.Body.TheVariants as body
use Rattle.ds_protocol.specs.Operations.{call_of}
use Rattle.ds_protocol.specs.Refused.{IsRefusal}
use Rattle.ds_model.specs.Groups.{with_transaction}
use Rattle.ds_model.specs.Refusals.{refusal_of}
use Rattle.ds_judging_lines.specs.Deciding.{DecidesTurn, SaidIs, world_in}
use Rattle.ds_judging.specs.Judging.{IsOperated}
use Rattle.ds_judging.proofs.OperationLaws.{refusal_decided, untold_refusal}
use Rattle.ds_judging_lines.proofs.Saying.{ok_two, says_same, silent_counter, told_refusal}
use Rattle.ds_judging.proofs.judging.judge_operation.Goals as goal

pub judge_unrefused-requires-clause-unrefused : goal.judge_unrefused-requires-clause-unrefused
judge_unrefused-requires-clause-unrefused c =
    let s = c.args.session.now in
    untold_refusal (refusal_of c.args.turn.now.run.now.defs.now s (call_of c.args.operation))
    (subst (λ t. IsRefusal (refusal_of c.args.turn.now.run.now.defs.now (with_transaction t s) (call_of c.args.operation)) None)
    c.open.ensures (c.in-None.ensures.told s))

pub returns-in-Some-clause-decided : goal.returns-in-Some-clause-decided
returns-in-Some-clause-decided c =
    let turn = c.args.turn.now in
    let s = c.args.session.now in
    let b = c.in-Some.body in
    ok_two c.say_refusal.result (SaidIs turn b) (λ found. b ≡ body.NoMemory → ⊥)
    (λ found. DecidesTurn turn (λ said t. IsOperated (world_in turn) turn.client s c.args.operation said t) found s)
    (λ found says other.
    refusal_decided turn s c.args.operation b found s
    (told_refusal (refusal_of turn.run.now.defs.now s (call_of c.args.operation)) b
    (subst (λ t. IsRefusal (refusal_of turn.run.now.defs.now (with_transaction t s) (call_of c.args.operation)) (Some b))
    c.open.ensures (c.in-Some.ensures.told s))
    other)
    (silent_counter b c.in-Some.ensures.quiet) (says_same turn b s found says))
    c.say_refusal.ensures.said c.say_refusal.ensures.memory
