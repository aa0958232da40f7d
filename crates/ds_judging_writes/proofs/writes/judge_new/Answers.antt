use Rattle.std.proofs.Common.{◌≡◌, ◌<◌, ◌≤◌, sym, ◌∙◌, subst, arith, true}
use Rattle.std.specs.Prelude.{codes}
use Rattle.std.proofs.lemmas.Result.{IfOk-weaker}
use Rattle.ds_model.specs.Sessions.{Session}
use Rattle.ds_judging_lines.specs.Deciding.{DecidesTurn, world_in}
use Rattle.ds_judging_lines.proofs.Decisions.{one_number}
use Rattle.ds_entity.specs.Entities.{EntityParts}
use Rattle.ds_base.specs.Keys.{root_of}
use Rattle.ds_base.specs.Limits.{greatest_id}
use Rattle.ds_bytes.specs.Lawful.{IsLawfulKey}
use Rattle.ds_log.specs.declared.Write.TheVariants.{Put}
use Rattle.ds_reply_lines.specs.ReplyLines.{last_id_at, told_by}
use Rattle.ds_judging_writes.specs.Committing.{IsPut, MayWriteIn}
use Rattle.ds_judging_writes.specs.Writing.{IsWritten}
use Rattle.ds_judging_writes.proofs.Allowed.{new_allowed}
use Rattle.ds_judging_writes.proofs.PutLaws.{new_as, new_none}
use Rattle.ds_judging_writes.proofs.writes.judge_new.Goals as goal

pub returns-in_default-clause-decided : goal.returns-in_default-clause-decided
returns-in_default-clause-decided c =
    let lawful : IsLawfulKey c.args.entity.key = subst IsLawfulKey c.key-asked.ensures.value c.key_is_lawful.ensures in
    new_none c.args.turn.now c.args.session.now c.requires.session.turn c.args.entity lawful c.requires.ends
    (λ id told shown below. c.in_default.not-Some id (c.last_id.ensures ∙ told))

pub returns-then-id-seen_next-clause-decided : goal.returns-then-id-seen_next-clause-decided
returns-then-id-seen_next-clause-decided c =
    let turn = c.args.turn.now in
    let lawful : IsLawfulKey c.args.entity.key = subst IsLawfulKey c.key-asked.ensures.value c.key_is_lawful.ensures in
    new_none turn c.args.session.now c.requires.session.turn c.args.entity lawful c.requires.ends (λ id told shown below.
    let same : c.in-Some.id ≡ id =
    one_number c.last_id.result (last_id_at (codes "key") (told_by turn.told)) c.in-Some.id id c.last_id.ensures c.in-Some.is told in
    absurd (omega arith))

pub returns-then-id-ge-MAX_ID-clause-decided : goal.returns-then-id-ge-MAX_ID-clause-decided
returns-then-id-ge-MAX_ID-clause-decided c =
    let turn = c.args.turn.now in
    let lawful : IsLawfulKey c.args.entity.key = subst IsLawfulKey c.key-asked.ensures.value c.key_is_lawful.ensures in
    new_none turn c.args.session.now c.requires.session.turn c.args.entity lawful c.requires.ends (λ id told shown below.
    let same : c.in-Some.id ≡ id =
    one_number c.last_id.result (last_id_at (codes "key") (told_by turn.told)) c.in-Some.id id c.last_id.ensures c.in-Some.is told in
    absurd (omega arith))

pub judge_write-requires-clause-allowed : goal.judge_write-requires-clause-allowed
judge_write-requires-clause-allowed c =
    subst (λ (x : EntityParts). MayWriteIn c.args.session.now.transaction (root_of x.key)) (sym c.renumber.ensures)
    (new_allowed c.args.turn.now.run.now.defs.now c.args.session.now c.args.entity c.in-Some.id c.requires.unrefused)

pub returns-clause-decided : goal.returns-clause-decided
returns-clause-decided c =
    let turn = c.args.turn.now in
    let s : Session = c.args.session.now in
    let read = c.requires.session.turn in
    let after : Session = c.judge_write.new.session in
    let id = c.in-Some.id in
    let lawful : IsLawfulKey c.args.entity.key = subst IsLawfulKey c.key-asked.ensures.value c.key_is_lawful.ensures in
    let shown : s.next_id ≤ id = omega arith in
    let below : id < greatest_id = omega arith in
    IfOk-weaker c.judge_write.result
    (λ found. DecidesTurn turn (IsWritten (world_in turn) turn.client s (Put c.renumber.new.self)) found after)
    (λ found. DecidesTurn turn (IsPut (world_in turn) turn.client s true c.args.entity) found after)
    (λ found decided. new_as turn s read c.args.entity id found after lawful c.requires.ends (sym c.last_id.ensures
    ∙ c.in-Some.is) shown below
    (subst (λ (x : EntityParts). DecidesTurn turn (IsWritten (world_in turn) turn.client s (Put x)) found after) c.renumber.ensures
    decided))
    c.judge_write.ensures.decided
