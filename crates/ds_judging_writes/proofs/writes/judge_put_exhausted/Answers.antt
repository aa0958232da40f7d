use Rattle.std.proofs.Common.{◌≡◌, ap, sym, ◌∙◌, None, true}
use Rattle.std.proofs.lemmas.Result.{IfOk-weaker}
use Rattle.ds_model.specs.Sessions.{Session}
use Rattle.ds_judging_lines.specs.Deciding.{DecidesTurn}
use Rattle.ds_judging_lines.proofs.Decisions.{one_number}
use Rattle.ds_log.specs.Ids.{first_unissued}
use Rattle.ds_judging_writes.specs.Writing.{IsIdsExhausted, IsPutExhausted}
use Rattle.ds_judging_writes.proofs.IdLaws.{Told, put_exhausted_as, put_exhausted_none}
use Rattle.ds_judging_writes.proofs.writes.judge_put_exhausted.Goals as goal

pub returns-in_default-clause-decided : goal.returns-in_default-clause-decided
returns-in_default-clause-decided c =
    put_exhausted_none c.args.turn.now c.args.session.now c.requires.session.turn c.args.incomplete c.args.key.now
    (λ next asked told issued. c.in_default.not-Some next (c.number.ensures ∙ told))

pub returns-then-not-are_issued-clause-decided : goal.returns-then-not-are_issued-clause-decided
returns-then-not-are_issued-clause-decided c =
    let turn = c.args.turn.now in
    let s : Session = c.args.session.now in
    let read = c.requires.session.turn in
    put_exhausted_none turn s read c.args.incomplete c.args.key.now (λ next asked told issued.
    let same : c.in-Some.next ≡ next = one_number c.number.result (Told turn s read) c.in-Some.next next c.number.ensures c.in-Some.is told
    in
    let here : first_unissued c.in-Some.next c.args.key.now.elems ≡ None =
    ap (λ n. first_unissued n c.args.key.now.elems) same ∙ issued in
    let all : c.are_issued.result ≡ true = c.are_issued.ensures.1 here in
    cc)

pub returns-clause-decided : goal.returns-clause-decided
returns-clause-decided c =
    let turn = c.args.turn.now in
    let s : Session = c.args.session.now in
    let read = c.requires.session.turn in
    let after : Session = c.judge_exhausted.new.session in
    let all : c.are_issued.result ≡ true = cc in
    let asked : c.args.incomplete ≡ true = cc in
    IfOk-weaker c.judge_exhausted.result (λ found. DecidesTurn turn (IsIdsExhausted s 1) found after)
    (λ found. DecidesTurn turn (IsPutExhausted s c.args.incomplete c.args.key.now) found after)
    (λ found decided. put_exhausted_as turn s read c.args.incomplete c.args.key.now c.in-Some.next found after asked
    (sym c.number.ensures ∙ c.in-Some.is) (c.are_issued.ensures.0 all) decided)
    c.judge_exhausted.ensures.decided
