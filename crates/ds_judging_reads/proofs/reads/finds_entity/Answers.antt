use Rattle.std.proofs.Common.{Option, ◌∙◌, subst}
use Rattle.std.specs.Prelude.{IfOk}
use Rattle.ds_entity.specs.Entities.{EntityParts}
use Rattle.ds_reply.specs.declared.reply.Body.TheVariants as body
use Rattle.ds_judging_lines.specs.Deciding.{SaidIs}
use Rattle.ds_judging_reads.proofs.reads.finds_entity.Goals as goal

pub returns : goal.returns
returns c =
    subst (λ (found : Option EntityParts). IfOk c.said.result (SaidIs c.args.turn.now (body.Get found c.args.place)))
    (c.in_ok-entity.ensures ∙ c.in_ok-there.ensures) c.said.ensures
