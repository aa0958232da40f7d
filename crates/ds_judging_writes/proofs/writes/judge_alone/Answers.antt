use Rattle.std.proofs.Common.{◌≡◌, ◌∙◌, subst, arith}
use Rattle.ds_model.specs.Sessions.{Session}
use Rattle.ds_judging_lines.proofs.Decisions.{one_number}
use Rattle.ds_bytes.specs.Lawful.{IsLawfulKey}
use Rattle.ds_log.specs.Logs.{key_of}
use Rattle.ds_judging_writes.proofs.PutLaws.{CommitTold, alone_none}
use Rattle.ds_judging_writes.proofs.writes.judge_alone.Goals as goal

pub returns-in_default-clause-decided : goal.returns-in_default-clause-decided
returns-in_default-clause-decided c =
    let lawful : IsLawfulKey (key_of c.args.write) = subst IsLawfulKey c.key-key.ensures c.key_is_lawful.ensures in
    alone_none c.args.turn.now c.args.session.now c.requires.session.turn c.args.write lawful c.requires.outside
    (λ n told later there. c.in_default.not-Some n (c.number.ensures ∙ told))

pub returns-then-number-seen_place-clause-decided : goal.returns-then-number-seen_place-clause-decided
returns-then-number-seen_place-clause-decided c =
    let turn = c.args.turn.now in
    let s : Session = c.args.session.now in
    let read = c.requires.session.turn in
    let lawful : IsLawfulKey (key_of c.args.write) = subst IsLawfulKey c.key-key.ensures c.key_is_lawful.ensures in
    alone_none turn s read c.args.write lawful c.requires.outside (λ n told later there.
    let same : c.in-Some.number ≡ n =
    one_number c.number.result (CommitTold turn s read) c.in-Some.number n c.number.ensures c.in-Some.is told in
    absurd (omega arith))
