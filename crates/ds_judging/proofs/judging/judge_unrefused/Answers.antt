use Rattle.std.proofs.Common.{◌≡◌, None, Option, subst, sym}
use Rattle.std.specs.Prelude.{IfOk, IsTrue, Result}
use Rattle.std.specs.declared.alloc.AllocError.{AllocError}
use Rattle.ds_reply.specs.declared.reply.Body.{Body}
use Rattle.ds_model.specs.Answers.{CallAnswers}
use Rattle.ds_model.specs.Asked.{has_shard}
use Rattle.ds_model.specs.Refusals.{refusal_of}
use Rattle.ds_model.specs.Sessions.{Session}
use Rattle.ds_protocol.specs.declared.operations.Operation.{Operation}
use Rattle.ds_protocol.specs.declared.operations.Operation.TheVariants as operation
use Rattle.ds_protocol.specs.Operations.{IsLawfulOperation, call_of}
use Rattle.ds_judging_lines.specs.Deciding.{DecidesTurn, world_in}
use Rattle.ds_judging.specs.Judging.{IsOperated}
use Rattle.ds_judging_lines.specs.declared.turn.Turn.{Turn}
use Rattle.ds_judging.proofs.OperationLaws.{IsNoSearch, as_called, shard_below}
use Rattle.ds_judging_lines.proofs.Saying.{ok_so}
use Rattle.ds_judging.proofs.judging.judge_unrefused.Goals as goal

-- what is found is decided, of an operation
abbrev Decided : Turn → Session → Operation → Option Body → Session → Type 0
Decided turn s o found after = DecidesTurn turn (λ said t. IsOperated (world_in turn) turn.client s o said t) found after

-- nothing before refuses the operation
abbrev IsFree : Turn → Session → Operation → Type 0
IsFree turn s o = refusal_of turn.run.now.defs.now s (call_of o) ≡ None

-- what is found is decided, of an operation's call
abbrev CallDecided : Turn → Session → Operation → Option Body → Session → Type 0
CallDecided turn s o found after = DecidesTurn turn (λ said t. CallAnswers (world_in turn) turn.client s (call_of o) said t) found after

-- one that is no search is decided as its call is
called : (turn : Turn) (s : Session) (p o : Operation) (r : Result (Option Body) AllocError) (after : Session) → p ≡ o → IsNoSearch o
    → IsFree turn s p → IfOk r (λ found. CallDecided turn s o found after) → IfOk r (λ found. Decided turn s p found after)
called turn s p o r after is plain free decided =
    subst (λ q. IfOk r (λ found. Decided turn s q found after)) (sym is)
    (ok_so r (λ found. CallDecided turn s o found after) (λ found. Decided turn s o found after)
    (λ found. as_called turn s o found after plain (subst (IsFree turn s) is free)) decided)

pub judge_put-requires-clause-unrefused : goal.judge_put-requires-clause-unrefused
judge_put-requires-clause-unrefused c = subst (IsFree c.args.turn.now c.args.session.now) c.in-Put.is c.requires.unrefused

pub judge_put-requires-clause-ends : goal.judge_put-requires-clause-ends
judge_put-requires-clause-ends c = subst IsLawfulOperation c.in-Put.is c.requires.lawful

pub returns-in-Put-clause-decided : goal.returns-in-Put-clause-decided
returns-in-Put-clause-decided c =
    called c.args.turn.now c.args.session.now c.args.operation (operation.Put c.in-Put.entity c.in-Put.incomplete) c.judge_put.result
    c.judge_put.new.session c.in-Put.is tt c.requires.unrefused c.judge_put.ensures.decided

pub judge_delete-requires-clause-unrefused : goal.judge_delete-requires-clause-unrefused
judge_delete-requires-clause-unrefused c = subst (IsFree c.args.turn.now c.args.session.now) c.in-Delete.is c.requires.unrefused

pub returns-in-Delete-clause-decided : goal.returns-in-Delete-clause-decided
returns-in-Delete-clause-decided c =
    called c.args.turn.now c.args.session.now c.args.operation (operation.Delete c.in-Delete.key) c.judge_delete.result
    c.judge_delete.new.session c.in-Delete.is tt c.requires.unrefused c.judge_delete.ensures.decided

pub judge_get-requires-clause-unrefused : goal.judge_get-requires-clause-unrefused
judge_get-requires-clause-unrefused c = subst (IsFree c.args.turn.now c.args.session.now) c.in-Get.is c.requires.unrefused

pub returns-in-Get-clause-decided : goal.returns-in-Get-clause-decided
returns-in-Get-clause-decided c =
    called c.args.turn.now c.args.session.now c.args.operation (operation.Get c.in-Get.key) c.judge_get.result
    c.judge_get.new.session c.in-Get.is tt c.requires.unrefused c.judge_get.ensures.decided

pub judge_search-requires-clause-lawful : goal.judge_search-requires-clause-lawful
judge_search-requires-clause-lawful c = subst IsLawfulOperation c.in-Find.is c.requires.lawful

pub returns-in-Find-clause-decided : goal.returns-in-Find-clause-decided
returns-in-Find-clause-decided c =
    let turn = c.args.turn.now in
    let s = c.args.session.now in
    subst (λ p. IfOk c.judge_search.result (λ found. Decided turn s p found c.judge_search.new.session)) (sym c.in-Find.is)
    c.judge_search.ensures.decided

pub judge_begin-requires-clause-unrefused : goal.judge_begin-requires-clause-unrefused
judge_begin-requires-clause-unrefused c = subst (IsFree c.args.turn.now c.args.session.now) c.in-Begin.is c.requires.unrefused

pub returns-in-Begin-clause-decided : goal.returns-in-Begin-clause-decided
returns-in-Begin-clause-decided c =
    called c.args.turn.now c.args.session.now c.args.operation (operation.Begin c.in-Begin.several_groups) c.judge_begin.result
    c.judge_begin.new.session c.in-Begin.is tt c.requires.unrefused c.judge_begin.ensures.decided

pub judge_commit-requires-clause-unrefused : goal.judge_commit-requires-clause-unrefused
judge_commit-requires-clause-unrefused c = subst (IsFree c.args.turn.now c.args.session.now) c.in-Commit.is c.requires.unrefused

pub returns-in-Commit-clause-decided : goal.returns-in-Commit-clause-decided
returns-in-Commit-clause-decided c =
    called c.args.turn.now c.args.session.now c.args.operation operation.Commit c.judge_commit.result
    c.judge_commit.new.session c.in-Commit.is tt c.requires.unrefused c.judge_commit.ensures.decided

pub judge_rollback-requires-clause-unrefused : goal.judge_rollback-requires-clause-unrefused
judge_rollback-requires-clause-unrefused c = subst (IsFree c.args.turn.now
    c.args.session.now) c.in-Rollback.is c.requires.unrefused

pub returns-in-Rollback-clause-decided : goal.returns-in-Rollback-clause-decided
returns-in-Rollback-clause-decided c =
    called c.args.turn.now c.args.session.now c.args.operation operation.Rollback c.judge_rollback.result
    c.judge_rollback.new.session c.in-Rollback.is tt c.requires.unrefused c.judge_rollback.ensures.decided

pub returns-in-Settle-clause-decided : goal.returns-in-Settle-clause-decided
returns-in-Settle-clause-decided c =
    called c.args.turn.now c.args.session.now c.args.operation operation.Settle c.judge_settle.result
    c.judge_settle.new.session c.in-Settle.is tt c.requires.unrefused c.judge_settle.ensures.decided

pub returns-in-AllocateIds-clause-decided : goal.returns-in-AllocateIds-clause-decided
returns-in-AllocateIds-clause-decided c =
    called c.args.turn.now c.args.session.now c.args.operation (operation.AllocateIds c.in-AllocateIds.count) c.judge_allocate.result
    c.judge_allocate.new.session c.in-AllocateIds.is tt c.requires.unrefused c.judge_allocate.ensures.decided

pub judge_apply-requires-clause-shard : goal.judge_apply-requires-clause-shard
judge_apply-requires-clause-shard c =
    shard_below c.in-Apply.shard c.args.turn.now.run.now.history.shards
    (subst (λ o. IsTrue (has_shard c.args.turn.now.run.now.history.shards (call_of o))) c.in-Apply.is c.requires.shard)

pub returns-in-Apply-clause-decided : goal.returns-in-Apply-clause-decided
returns-in-Apply-clause-decided c =
    called c.args.turn.now c.args.session.now c.args.operation (operation.Apply c.in-Apply.shard) c.judge_apply.result
    c.judge_apply.new.session c.in-Apply.is tt c.requires.unrefused c.judge_apply.ensures.decided
