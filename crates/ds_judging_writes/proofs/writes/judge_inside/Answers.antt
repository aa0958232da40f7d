use Rattle.std.proofs.Common.{◌≡◌, ap, ◌∙◌, subst, refl}
use Rattle.std.proofs.lemmas.Result.{IfOk-weaker}
use Rattle.ds_reply.specs.declared.reply.Body.TheVariants as body
use Rattle.ds_model.specs.Sessions.{Session}
use Rattle.ds_judging_lines.specs.Deciding.{DecidesTurn, SaysThen, world_in}
use Rattle.ds_base.specs.Keys.{root_of}
use Rattle.ds_bytes.specs.Lawful.{IsLawfulKey}
use Rattle.ds_log.specs.Logs.{key_of}
use Rattle.ds_judging_writes.specs.Committing.{saw_write}
use Rattle.ds_judging_writes.specs.Writing.{IsWritten}
use Rattle.ds_judging_writes.proofs.PutLaws.{inside_decided_at, inside_none_at}
use Rattle.ds_judging_writes.proofs.writes.judge_inside.Goals as goal

pub returns-in_default-clause-decided : goal.returns-in_default-clause-decided
returns-in_default-clause-decided c =
    let lawful : IsLawfulKey (key_of c.args.write) = subst IsLawfulKey c.key-key.ensures c.key_is_lawful.ensures in
    let group : c.in_ok-group.group ≡ root_of (key_of c.args.write) = c.in_ok-group.ensures ∙ ap root_of c.key-key.ensures in
    inside_none_at c.args.turn.now c.args.session.now c.requires.session.turn c.args.session.now.transaction
    c.args.write
    c.in_ok-group.group c.group_place.result refl lawful c.requires.allowed group c.group_place.ensures c.in_default.not-Some

pub returns-clause-decided : goal.returns-clause-decided
returns-clause-decided c =
    let turn = c.args.turn.now in
    let s : Session = c.args.session.now in
    let o = c.args.session.now.transaction in
    let after : Session = c.say_inside.new.session in
    let lawful : IsLawfulKey (key_of c.args.write) = subst IsLawfulKey c.key-key.ensures c.key_is_lawful.ensures in
    let group : c.in_ok-group.group ≡ root_of (key_of c.args.write) = c.in_ok-group.ensures ∙ ap root_of c.key-key.ensures in
    IfOk-weaker c.say_inside.result
    (λ found. SaysThen turn c.in_ok-body.body (saw_write c.args.write c.in_ok-group.group c.in-Some.place o s) found after)
    (λ found. DecidesTurn turn (IsWritten (world_in turn) turn.client s c.args.write) found after)
    (λ found says. inside_decided_at turn s c.requires.session.turn o c.args.write c.in_ok-group.group c.group_place.result c.in-Some.place
    c.in_ok-body.body found after refl lawful c.requires.allowed group c.group_place.ensures c.in-Some.is c.in_ok-body.ensures says)
    c.say_inside.ensures.said
