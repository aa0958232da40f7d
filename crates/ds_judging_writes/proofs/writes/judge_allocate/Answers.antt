use Rattle.std.proofs.Common.{◌≡◌, ◌+◌, ◌≤◌, sym, ◌∙◌, arith, Some, true}
use Rattle.std.proofs.lemmas.Result.{IfOk-weaker}
use Rattle.ds_reply.specs.declared.reply.Body.TheVariants as body
use Rattle.ds_model.specs.Sessions.{Session, saw_next}
use Rattle.ds_judging_lines.specs.Deciding.{DecidesTurn, SaysThen}
use Rattle.ds_judging_lines.proofs.Decisions.{one_number}
use Rattle.ds_base.specs.Limits.{greatest_id}
use Rattle.ds_judging_writes.specs.Writing.{IsIdsExhausted}
use Rattle.ds_judging_writes.proofs.IdLaws.{First, IsAllocated, allocate_as_exhausted, allocate_decided, allocate_none}
use Rattle.ds_judging_writes.proofs.WritesTold.{Error}
use Rattle.ds_judging_writes.proofs.writes.judge_allocate.Goals as goal

pub returns-then-tells_error-clause-decided : goal.returns-then-tells_error-clause-decided
returns-then-tells_error-clause-decided c =
    let turn = c.args.turn.now in
    let s : Session = c.args.session.now in
    let after : Session = c.judge_exhausted.new.session in
    let read = c.requires.session.turn in
    let told : c.tells_error.result ≡ true = cc in
    let error = c.tells_error.ensures.0 told in
    IfOk-weaker c.judge_exhausted.result (λ found. DecidesTurn turn (IsIdsExhausted s c.args.count) found after)
    (λ found. DecidesTurn turn (IsAllocated turn s read c.args.count) found after)
    (λ found decided. allocate_as_exhausted turn s read c.args.count found after error decided)
    c.judge_exhausted.ensures.decided

pub returns-in_default-clause-decided : goal.returns-in_default-clause-decided
returns-in_default-clause-decided c =
    let fine : Error c.args.turn.now ≡ Some 22
    → ⊥ = λ error. let told : c.tells_error.result ≡ true = c.tells_error.ensures.1 error in cc in
    allocate_none c.args.turn.now c.args.session.now c.requires.session.turn c.args.count fine
    (λ first told shown within. c.in_default.not-Some first (c.number.ensures ∙ told))

pub returns-then-first-seen_next-clause-decided : goal.returns-then-first-seen_next-clause-decided
returns-then-first-seen_next-clause-decided c =
    let turn = c.args.turn.now in
    let s : Session = c.args.session.now in
    let read = c.requires.session.turn in
    let fine : Error turn ≡ Some 22 → ⊥ = λ error. let told : c.tells_error.result ≡ true = c.tells_error.ensures.1 error in cc in
    allocate_none turn s read c.args.count fine (λ first told shown within.
    let same : c.in-Some.first ≡ first =
    one_number c.number.result (First turn s read) c.in-Some.first first c.number.ensures c.in-Some.is told in
    absurd (omega arith))

pub returns-then-not-are_left-clause-decided : goal.returns-then-not-are_left-clause-decided
returns-then-not-are_left-clause-decided c =
    let turn = c.args.turn.now in
    let s : Session = c.args.session.now in
    let read = c.requires.session.turn in
    let fine : Error turn ≡ Some 22 → ⊥ = λ error. let told : c.tells_error.result ≡ true = c.tells_error.ensures.1 error in cc in
    allocate_none turn s read c.args.count fine (λ first told shown within.
    let same : c.in-Some.first ≡ first =
    one_number c.number.result (First turn s read) c.in-Some.first first c.number.ensures c.in-Some.is told in
    let fits : c.in-Some.first + c.args.count ≤ greatest_id = omega arith in
    let left : c.are_left.result ≡ true = c.are_left.ensures.1 fits in
    cc)

pub returns-clause-decided : goal.returns-clause-decided
returns-clause-decided c =
    let turn = c.args.turn.now in
    let s : Session = c.args.session.now in
    let read = c.requires.session.turn in
    let after : Session = c.say_next.new.session in
    let first = c.in-Some.first in
    let fine : Error turn ≡ Some 22 → ⊥ = λ error. let told : c.tells_error.result ≡ true = c.tells_error.ensures.1 error in cc in
    let left : c.are_left.result ≡ true = cc in
    let shown : s.next_id ≤ first = omega arith in
    IfOk-weaker c.say_next.result
    (λ found. SaysThen turn (body.AllocateIds first c.args.count) (saw_next (first + c.args.count) s) found after)
    (λ found. DecidesTurn turn (IsAllocated turn s read c.args.count) found after)
    (λ found says. allocate_decided turn s read c.args.count first found after fine (sym c.number.ensures ∙ c.in-Some.is) shown
    (c.are_left.ensures.0 left) says)
    c.say_next.ensures.said
