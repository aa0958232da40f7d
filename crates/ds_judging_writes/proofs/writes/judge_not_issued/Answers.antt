use Rattle.std.proofs.Common.{◌≡◌, ◌≤◌, ap, sym, ◌∙◌, arith}
use Rattle.std.proofs.lemmas.Result.{IfOk-weaker}
use Rattle.ds_reply.specs.declared.reply.Body.TheVariants as body
use Rattle.ds_model.specs.Sessions.{Session, saw_next}
use Rattle.ds_judging_lines.specs.Deciding.{DecidesTurn, SaysThen}
use Rattle.ds_judging_lines.proofs.Decisions.{one_number}
use Rattle.ds_log.specs.Ids.{first_unissued}
use Rattle.ds_judging_writes.specs.Writing.{IsIdNotIssued}
use Rattle.ds_judging_writes.proofs.IdLaws.{Told, not_issued_decided, not_issued_none}
use Rattle.ds_judging_writes.proofs.writes.judge_not_issued.Goals as goal

pub returns-in_default-clause-decided : goal.returns-in_default-clause-decided
returns-in_default-clause-decided c =
    not_issued_none c.args.turn.now c.args.session.now c.requires.session.turn c.args.key.now c.key_is_lawful.ensures
    (λ id next told shown first. c.in_default.not-Some next (c.number.ensures ∙ told))

pub returns-in_default-first_unissued-clause-decided : goal.returns-in_default-first_unissued-clause-decided
returns-in_default-first_unissued-clause-decided c =
    let turn = c.args.turn.now in
    let s : Session = c.args.session.now in
    let read = c.requires.session.turn in
    let is : c.first_unissued.result ≡ first_unissued c.in-Some.next c.args.key.now.elems =
    c.first_unissued.ensures ∙ ap (first_unissued c.in-Some.next) (c.as_slice.ensures ∙ c.elems.ensures.value) in
    not_issued_none turn s read c.args.key.now c.key_is_lawful.ensures (λ id next told shown first.
    let same : c.in-Some.next ≡ next = one_number c.number.result (Told turn s read) c.in-Some.next next c.number.ensures c.in-Some.is told
    in
    c.in_default-first_unissued.not-Some id (is ∙ ap (λ n. first_unissued n c.args.key.now.elems) same ∙ first))

pub returns-then-next-seen_next-clause-decided : goal.returns-then-next-seen_next-clause-decided
returns-then-next-seen_next-clause-decided c =
    let turn = c.args.turn.now in
    let s : Session = c.args.session.now in
    let read = c.requires.session.turn in
    not_issued_none turn s read c.args.key.now c.key_is_lawful.ensures (λ id next told shown first.
    let same : c.in-Some.next ≡ next = one_number c.number.result (Told turn s read) c.in-Some.next next c.number.ensures c.in-Some.is told
    in
    absurd (omega arith))

pub returns-clause-decided : goal.returns-clause-decided
returns-clause-decided c =
    let turn = c.args.turn.now in
    let s : Session = c.args.session.now in
    let read = c.requires.session.turn in
    let after : Session = c.say_next.new.session in
    let next = c.in-Some.next in
    let id = c.in-Some-first_unissued.id in
    let is : c.first_unissued.result ≡ first_unissued next c.args.key.now.elems =
    c.first_unissued.ensures ∙ ap (first_unissued next) (c.as_slice.ensures ∙ c.elems.ensures.value) in
    let shown : s.next_id ≤ next = omega arith in
    IfOk-weaker c.say_next.result (λ found. SaysThen turn (body.IdNotIssued id next) (saw_next next s) found after)
    (λ found. DecidesTurn turn (IsIdNotIssued s c.args.key.now) found after)
    (λ found says. not_issued_decided turn s read c.args.key.now id next found after c.key_is_lawful.ensures
    (sym c.number.ensures ∙ c.in-Some.is) shown (sym is ∙ c.in-Some-first_unissued.is) says)
    c.say_next.ensures.said
