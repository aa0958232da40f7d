use Rattle.std.proofs.Common.{◌≡◌, ap, ◌∙◌, subst, true, refl}
use Rattle.std.proofs.lemmas.Result.{IfOk-weaker}
use Rattle.ds_reply.specs.declared.reply.Body.TheVariants as body
use Rattle.ds_model.specs.Sessions.{Session, next_above, saw_next, saw_place}
use Rattle.ds_judging_lines.specs.Deciding.{DecidesTurn, SaysThen, world_in}
use Rattle.ds_judging_lines.proofs.Decisions.{one_number}
use Rattle.ds_history.specs.Writers.{nth_commit}
use Rattle.ds_log.specs.Logs.{key_of}
use Rattle.ds_judging_writes.specs.Writing.{IsWritten}
use Rattle.ds_judging_writes.proofs.PutLaws.{CommitTold, alone_decided, alone_none, saw_alone}
use Rattle.ds_judging_writes.proofs.writes.judge_numbered.Goals as goal

pub returns-then-not-same-clause-decided : goal.returns-then-not-same-clause-decided
returns-then-not-same-clause-decided c =
    let turn = c.args.turn.now in
    let s : Session = c.args.session.now in
    let read = c.requires.session.turn in
    alone_none turn s read c.args.write c.requires.lawful c.requires.outside (λ n told later there.
    let is : c.args.number ≡ n =
    one_number (CommitTold turn s read) (CommitTold turn s read) c.args.number n refl c.requires.told told in
    let all : c.in_ok-same.same ≡ true = c.in_ok-same.ensures.1
    (ap (nth_commit turn.run.now.history.journal) is ∙ there) in
    cc)

pub returns-clause-decided : goal.returns-clause-decided
returns-clause-decided c =
    let turn = c.args.turn.now in
    let s : Session = c.args.session.now in
    let read = c.requires.session.turn in
    let after : Session = c.say_alone.new.session in
    let n = c.args.number in
    let above : c.next_above-above.result ≡ next_above (key_of c.args.write).elems = cc in
    let all : c.in_ok-same.same ≡ true = cc in
    IfOk-weaker c.say_alone.result
    (λ found. SaysThen turn c.in_ok-body.body (saw_next c.next_above-above.result (saw_place n s)) found after)
    (λ found. DecidesTurn turn (IsWritten (world_in turn) turn.client s c.args.write) found after)
    (λ found says. alone_decided turn s read c.args.write n found after c.requires.lawful c.requires.outside c.requires.told
    c.requires.later
    (c.in_ok-same.ensures.0 all)
    (subst (λ b. SaysThen turn b (saw_alone turn s read c.args.write n) found after) c.in_ok-body.ensures
    (subst (λ m. SaysThen turn c.in_ok-body.body (saw_next m (saw_place n s)) found after) above says)))
    c.say_alone.ensures.said
