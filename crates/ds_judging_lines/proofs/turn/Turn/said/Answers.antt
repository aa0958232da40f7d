use Rattle.std.proofs.Common.{◌≡◌, Option, Some, None}
use Rattle.std.specs.Prelude.{Result, Ok, Err, IfNone, IfOk, IfSome}
use Rattle.ds_reply.specs.declared.reply.Body.{Body}
use Rattle.ds_judging_lines.specs.Deciding.{SaidIs}
use Rattle.ds_judging_lines.specs.declared.turn.Turn.{Turn}
use Rattle.ds_reply_lines.specs.ReplyLines.{IsSaid}
use Rattle.ds_judging_lines.proofs.turn.Turn.said.Goals as goal

said_is : {E : Type 0} (turn : Turn) (body : Body) (r : Result (Option Body) E)
    → IfOk r (λ said. IfSome said (λ b. (b ≡ body) × IsSaid turn.client turn.number turn.line.now b))
    → IfOk r (λ said. IfNone said (IsSaid turn.client turn.number turn.line.now body → ⊥)) → IfOk r (SaidIs turn body)
said_is turn body (Ok (Some b)) some none = some
said_is turn body (Ok None) some none = none
said_is turn body (Err e) some none = tt

pub returns : goal.returns
returns c = said_is c.args.self.now c.args.body c.says.result c.says.ensures.some c.says.ensures.none
