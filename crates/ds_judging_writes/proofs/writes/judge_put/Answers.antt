use Rattle.std.proofs.Common.{◌≡◌, sym, subst, Some, true, false}
use Rattle.std.proofs.lemmas.Result.{IfOk-weaker}
use Rattle.ds_model.specs.Sessions.{Session}
use Rattle.ds_judging_lines.specs.Deciding.{DecidesTurn, world_in}
use Rattle.ds_base.specs.Keys.{KeyParts}
use Rattle.ds_bytes.specs.Lawful.{IsLawfulKey}
use Rattle.ds_judging_writes.specs.Committing.{IsPut}
use Rattle.ds_judging_writes.specs.Writing.{IsIdNotIssued, IsPutExhausted}
use Rattle.ds_judging_writes.proofs.PutLaws.{Puts, put_exhausted, put_not_issued, put_put}
use Rattle.ds_judging_writes.proofs.WritesTold.{Error}
use Rattle.ds_judging_writes.proofs.writes.judge_put.Goals as goal

pub returns-then-tells_error-clause-decided : goal.returns-then-tells_error-clause-decided
returns-then-tells_error-clause-decided c =
    let turn = c.args.turn.now in
    let s : Session = c.args.session.now in
    let read = c.requires.session.turn in
    let after : Session = c.judge_not_issued.new.session in
    let lawful : IsLawfulKey c.args.entity.key = subst IsLawfulKey c.key-asked.ensures.value c.key_is_lawful.ensures in
    let told : c.tells_error.result ≡ true = cc in
    IfOk-weaker c.judge_not_issued.result (λ found. DecidesTurn turn (IsIdNotIssued s c.key-asked.result.now) found after)
    (λ found. DecidesTurn turn (Puts turn s read c.args.entity c.args.incomplete lawful c.requires.ends found after) found after)
    (λ found decided. put_not_issued turn s read c.args.entity c.args.incomplete lawful c.requires.ends found after
    (c.tells_error.ensures.0 told)
    (subst (λ (k : KeyParts). DecidesTurn turn (IsIdNotIssued s k) found after) c.key-asked.ensures.value decided))
    c.judge_not_issued.ensures.decided

pub returns-then-tells_error-2-clause-decided : goal.returns-then-tells_error-2-clause-decided
returns-then-tells_error-2-clause-decided c =
    let turn = c.args.turn.now in
    let s : Session = c.args.session.now in
    let read = c.requires.session.turn in
    let after : Session = c.judge_put_exhausted.new.session in
    let lawful : IsLawfulKey c.args.entity.key = subst IsLawfulKey c.key-asked.ensures.value c.key_is_lawful.ensures in
    let told : c.tells_error-2.result ≡ true = cc in
    IfOk-weaker c.judge_put_exhausted.result (λ found. DecidesTurn turn (IsPutExhausted s c.args.incomplete c.key-asked.result.now) found
    after)
    (λ found. DecidesTurn turn (Puts turn s read c.args.entity c.args.incomplete lawful c.requires.ends found after) found after)
    (λ found decided. put_exhausted turn s read c.args.entity c.args.incomplete lawful c.requires.ends found after
    (c.tells_error-2.ensures.0 told)
    (subst (λ (k : KeyParts). DecidesTurn turn (IsPutExhausted s c.args.incomplete k) found after) c.key-asked.ensures.value decided))
    c.judge_put_exhausted.ensures.decided

pub returns-then-incomplete-clause-decided : goal.returns-then-incomplete-clause-decided
returns-then-incomplete-clause-decided c =
    let turn = c.args.turn.now in
    let s : Session = c.args.session.now in
    let read = c.requires.session.turn in
    let after : Session = c.judge_new.new.session in
    let lawful : IsLawfulKey c.args.entity.key = subst IsLawfulKey c.key-asked.ensures.value c.key_is_lawful.ensures in
    let issued : Error turn ≡ Some 21 → ⊥ = λ error. let told : c.tells_error.result ≡ true = c.tells_error.ensures.1 error in cc in
    let left : Error turn ≡ Some 22 → ⊥ = λ error. let told : c.tells_error-2.result ≡ true = c.tells_error-2.ensures.1 error in cc in
    let incomplete : c.args.incomplete ≡ true = cc in
    IfOk-weaker c.judge_new.result
    (λ found. DecidesTurn turn (IsPut (world_in turn) turn.client s true c.args.entity) found after)
    (λ found. DecidesTurn turn (Puts turn s read c.args.entity c.args.incomplete lawful c.requires.ends found after) found after)
    (λ found decided. put_put turn s read c.args.entity c.args.incomplete lawful c.requires.ends found after issued left
    (subst (λ b. DecidesTurn turn (IsPut (world_in turn) turn.client s b c.args.entity) found after) (sym incomplete) decided))
    c.judge_new.ensures.decided

pub returns-else-incomplete-clause-decided : goal.returns-else-incomplete-clause-decided
returns-else-incomplete-clause-decided c =
    let turn = c.args.turn.now in
    let s : Session = c.args.session.now in
    let read = c.requires.session.turn in
    let after : Session = c.judge_complete.new.session in
    let lawful : IsLawfulKey c.args.entity.key = subst IsLawfulKey c.key-asked.ensures.value c.key_is_lawful.ensures in
    let issued : Error turn ≡ Some 21 → ⊥ = λ error. let told : c.tells_error.result ≡ true = c.tells_error.ensures.1 error in cc in
    let left : Error turn ≡ Some 22 → ⊥ = λ error. let told : c.tells_error-2.result ≡ true = c.tells_error-2.ensures.1 error in cc in
    let complete : c.args.incomplete ≡ false = cc in
    IfOk-weaker c.judge_complete.result
    (λ found. DecidesTurn turn (IsPut (world_in turn) turn.client s false c.args.entity) found after)
    (λ found. DecidesTurn turn (Puts turn s read c.args.entity c.args.incomplete lawful c.requires.ends found after) found after)
    (λ found decided. put_put turn s read c.args.entity c.args.incomplete lawful c.requires.ends found after issued left
    (subst (λ b. DecidesTurn turn (IsPut (world_in turn) turn.client s b c.args.entity) found after) (sym complete) decided))
    c.judge_complete.ensures.decided
