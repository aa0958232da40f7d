use Rattle.std.proofs.Common.{◌≡◌, ◌+◌, ◌<◌, ◌≤◌, ◌^◌, sym, ◌∙◌, arith, true}
use Rattle.std.proofs.lemmas.Result.{IfOk-weaker}
use Rattle.ds_reply.specs.declared.reply.Body.TheVariants as body
use Rattle.ds_model.specs.Sessions.{Session, saw_next}
use Rattle.ds_judging_lines.specs.Deciding.{DecidesTurn, SaysThen}
use Rattle.ds_judging_lines.proofs.Decisions.{one_number}
use Rattle.ds_base.specs.Limits.{greatest_id}
use Rattle.ds_judging_writes.specs.Writing.{IsIdsExhausted}
use Rattle.ds_judging_writes.proofs.IdLaws.{Told, exhausted_decided, exhausted_none}
use Rattle.ds_judging_writes.proofs.writes.judge_exhausted.Goals as goal

pub returns-in_default-clause-decided : goal.returns-in_default-clause-decided
returns-in_default-clause-decided c =
    exhausted_none c.args.turn.now c.args.session.now c.requires.session.turn c.args.count
    (λ next told shown beyond. c.in_default.not-Some next (c.number.ensures ∙ told))

pub returns-then-next-seen_next-clause-decided : goal.returns-then-next-seen_next-clause-decided
returns-then-next-seen_next-clause-decided c =
    let turn = c.args.turn.now in
    let s : Session = c.args.session.now in
    exhausted_none turn s c.requires.session.turn c.args.count (λ next told shown beyond.
    let same : c.in-Some.next ≡ next =
    one_number c.number.result (Told turn s c.requires.session.turn) c.in-Some.next next c.number.ensures c.in-Some.is told in
    absurd (omega arith))

pub returns-then-are_left-clause-decided : goal.returns-then-are_left-clause-decided
returns-then-are_left-clause-decided c =
    let turn = c.args.turn.now in
    let s : Session = c.args.session.now in
    exhausted_none turn s c.requires.session.turn c.args.count (λ next told shown beyond.
    let same : c.in-Some.next ≡ next =
    one_number c.number.result (Told turn s c.requires.session.turn) c.in-Some.next next c.number.ensures c.in-Some.is told in
    let left : c.are_left.result ≡ true = cc in
    let fits : c.in-Some.next + c.args.count ≤ greatest_id = c.are_left.ensures.0 left in
    absurd (omega arith))

pub returns-clause-decided : goal.returns-clause-decided
returns-clause-decided c =
    let turn = c.args.turn.now in
    let s : Session = c.args.session.now in
    let after : Session = c.say_next.new.session in
    let next = c.in-Some.next in
    let small : next < 2 ^ 64 = omega arith in
    let shown : s.next_id ≤ next = omega arith in
    let never : next + c.args.count ≤ greatest_id → ⊥ = λ fits. let left : c.are_left.result ≡ true = c.are_left.ensures.1 fits in cc in
    let beyond : greatest_id < next + c.args.count = omega arith in
    IfOk-weaker c.say_next.result (λ found. SaysThen turn (body.IdsExhausted next) (saw_next next s) found after)
    (λ found. DecidesTurn turn (IsIdsExhausted s c.args.count) found after)
    (λ found says. exhausted_decided turn s c.requires.session.turn c.args.count next found after small
    (sym c.number.ensures ∙ c.in-Some.is) shown beyond says)
    c.say_next.ensures.said
