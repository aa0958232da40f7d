use Rattle.std.proofs.Common.{◌≡◌, ◌<◌, ap, sym, ◌∙◌, subst, arith, true}
use Rattle.std.proofs.lemmas.Result.{IfOk-weaker}
use Rattle.ds_reply.specs.declared.reply.Body.TheVariants as body
use Rattle.ds_model.specs.Sessions.{Session}
use Rattle.ds_judging_lines.specs.Deciding.{DecidesTurn, SaysThen, world_in}
use Rattle.ds_judging_lines.proofs.Decisions.{one_number}
use Rattle.ds_history.specs.Writers.{nth_commit}
use Rattle.std.specs.Prelude.{take, ◌-◌}
use Rattle.ds_log.specs.Conflicts.{IsCommitted}
use Rattle.ds_judging_writes.specs.Committing.{IsCommit}
use Rattle.ds_judging.proofs.CommitLaws.{CommitTold, committed_decided, committed_none, ended}
use Rattle.ds_judging.proofs.transactions.judge_committed.Goals as goal

pub returns-in_default-clause-decided : goal.returns-in_default-clause-decided
returns-in_default-clause-decided c =
    committed_none c.args.turn.now c.args.session.now c.requires.session.turn c.args.session.now.transaction
    c.args.draft.now c.requires.draft (λ n told later there serial. c.in_default.not-Some n (c.number.ensures ∙ told))

pub returns-then-number-seen_place-clause-decided : goal.returns-then-number-seen_place-clause-decided
returns-then-number-seen_place-clause-decided c =
    let turn = c.args.turn.now in
    let s : Session = c.args.session.now in
    let read = c.requires.session.turn in
    committed_none turn s read c.args.session.now.transaction c.args.draft.now c.requires.draft (λ n told later there serial.
    let same : c.in-Some.number ≡ n =
    one_number c.number.result (CommitTold turn s read) c.in-Some.number n c.number.ensures c.in-Some.is told in
    absurd (omega arith))

pub returns-then-not-same-clause-decided : goal.returns-then-not-same-clause-decided
returns-then-not-same-clause-decided c =
    let turn = c.args.turn.now in
    let s : Session = c.args.session.now in
    let read = c.requires.session.turn in
    committed_none turn s read c.args.session.now.transaction c.args.draft.now c.requires.draft (λ n told later there serial.
    let is : c.in-Some.number ≡ n =
    one_number c.number.result (CommitTold turn s read) c.in-Some.number n c.number.ensures c.in-Some.is told in
    let all : c.in_ok-same.same ≡ true = c.in_ok-same.ensures.1 (ap (nth_commit turn.run.now.history.journal) is ∙ there) in
    cc)

pub returns-then-not-is_serial-clause-decided : goal.returns-then-not-is_serial-clause-decided
returns-then-not-is_serial-clause-decided c =
    let turn = c.args.turn.now in
    let s : Session = c.args.session.now in
    let read = c.requires.session.turn in
    committed_none turn s read c.args.session.now.transaction c.args.draft.now c.requires.draft (λ n told later there serial.
    let is : c.in-Some.number ≡ n =
    one_number c.number.result (CommitTold turn s read) c.in-Some.number n c.number.ensures c.in-Some.is told in
    let all : c.is_serial.result ≡ true = c.is_serial.ensures.1
    (subst (λ k. IsCommitted (take (k - 1) turn.run.now.history.journal) c.args.draft.now) (sym is) serial) in
    cc)

pub returns-clause-decided : goal.returns-clause-decided
returns-clause-decided c =
    let turn = c.args.turn.now in
    let s : Session = c.args.session.now in
    let read = c.requires.session.turn in
    let o = c.args.session.now.transaction in
    let after : Session = c.say_ended.new.session in
    let n = c.in-Some.number in
    let there : c.in_ok-same.same ≡ true = cc in
    let serial : c.is_serial.result ≡ true = cc in
    let later : s.place < n = omega arith in
    IfOk-weaker c.say_ended.result (λ found. SaysThen turn (body.Commit n) (ended turn s read n) found after)
    (λ found. DecidesTurn turn (IsCommit (world_in turn) turn.client s o) found after)
    (λ found says. committed_decided turn s read o c.args.draft.now c.requires.draft n found after (sym c.number.ensures
    ∙ c.in-Some.is) later
    (c.in_ok-same.ensures.0 there) (c.is_serial.ensures.0 serial) says)
    c.say_ended.ensures.said
