use Rattle.std.proofs.Common.{◌≡◌, ℕ, Bool, true, false, Option, Some, None, sym, subst, arith}
use Rattle.std.specs.Prelude.{codes}
use Rattle.ds_model.specs.Groups.{IsSeenPlace}
use Rattle.ds_reply_lines.specs.ReplyLines.{flag_at, number_at}
use Rattle.ds_judging_lines.specs.Deciding.{IsOnlyTold, SaidIs, told_in, world_in}
use Rattle.ds_judging_lines.proofs.CountLaws.{apply_countless, apply_decided, apply_flagless, apply_placeless, apply_unfit}
use Rattle.ds_judging_lines.proofs.CountSteps.{apply_answers, at_none, fits_same}
use Rattle.ds_reply.specs.declared.reply.Body.TheVariants as body
use Rattle.ds_judging_lines.proofs.counts.judge_apply.Goals as goal

pub returns-in_default-clause-decided : goal.returns-in_default-clause-decided
returns-in_default-clause-decided c =
    let turn = c.args.turn.now in
    let s = c.args.session.now in
    apply_placeless turn c.requires.session.turn s c.args.shard c.requires.shard
    (at_none (λ o. IsOnlyTold (IsSeenPlace turn.run.now.history.journal s) (number_at (codes "place")
    (told_in turn)) o) c.place.result c.in_default.not-Some
    c.place.ensures)

pub returns-in_default-number-clause-decided : goal.returns-in_default-number-clause-decided
returns-in_default-number-clause-decided c =
    let turn = c.args.turn.now in
    apply_countless turn c.requires.session.turn c.args.session.now c.args.shard c.requires.shard
    (sym (at_none (λ (o : Option ℕ). o ≡ number_at (codes "count")
    (told_in turn)) c.number.result c.in_default-number.not-Some c.number.ensures))

pub returns-in_default-flag-clause-decided : goal.returns-in_default-flag-clause-decided
returns-in_default-flag-clause-decided c =
    let turn = c.args.turn.now in
    apply_flagless turn c.requires.session.turn c.args.session.now c.args.shard c.requires.shard
    (sym (at_none (λ (o : Option Bool). o ≡ flag_at (codes "applied")
    (told_in turn)) c.flag.result c.in_default-flag.not-Some c.flag.ensures))

pub returns-then-not-fits-clause-decided : goal.returns-then-not-fits-clause-decided
returns-then-not-fits-clause-decided c =
    let turn = c.args.turn.now in
    let s = c.args.session.now in
    apply_unfit turn c.requires.session.turn s c.args.shard c.requires.shard c.in-Some.place c.in-Some-number.count c.in-Some-flag.applied
    c.in-Some.ensures (sym c.in-Some-number.ensures) (sym c.in-Some-flag.ensures)
    (λ later answers.
    let is : c.fits.result ≡ true = c.fits.ensures.1 (fits_same c.in-Some-flag.applied _ _ _ _ c.in-Some-number.count
    (sym c.seen_count-seen.ensures)
    (sym c.entries_up_to-up_to.ensures.value) answers.counted) in cc)

pub returns-then-count-entries-clause-decided : goal.returns-then-count-entries-clause-decided
returns-then-count-entries-clause-decided c =
    let turn = c.args.turn.now in
    apply_unfit turn c.requires.session.turn c.args.session.now c.args.shard c.requires.shard c.in-Some.place
    c.in-Some-number.count
    c.in-Some-flag.applied c.in-Some.ensures (sym c.in-Some-number.ensures) (sym c.in-Some-flag.ensures)
    (λ later answers. omega (arith, answers.within, c.entries.ensures, c.if-count-entries.true))

pub returns-in_default-2-clause-decided : goal.returns-in_default-2-clause-decided
returns-in_default-2-clause-decided c =
    let turn = c.args.turn.now in
    let s = c.args.session.now in
    apply_decided turn c.requires.session.turn s c.args.shard c.requires.shard c.in-Some.place c.in-Some-number.count c.in-Some-flag.applied
    c.in-Some.ensures (sym c.in-Some-number.ensures) (sym c.in-Some-flag.ensures) None s
    (apply_answers (world_in turn) s c.args.shard c.in-Some-number.count c.in-Some.place c.seen_count-seen.result
    c.entries_up_to-up_to.result c.in-Some-flag.applied c.seen_count-seen.ensures c.entries_up_to-up_to.ensures.value c.in-Some.ensures.0
    (c.fits.ensures.0 c.if-not-fits.false)
    (omega (arith, c.entries.ensures, c.if-count-entries.false)))
    (subst (SaidIs turn (body.Apply c.in-Some-flag.applied c.in-Some-number.count c.in-Some.place c.args.shard)) c.in_default-2.is
    c.in_ok-said.ensures)

pub returns-clause-decided : goal.returns-clause-decided
returns-clause-decided c =
    let turn = c.args.turn.now in
    let s = c.args.session.now in
    let said = subst (SaidIs turn (body.Apply c.in-Some-flag.applied c.in-Some-number.count c.in-Some.place c.args.shard))
    c.in-Some-2.is c.in_ok-said.ensures in
    apply_decided turn c.requires.session.turn s c.args.shard c.requires.shard c.in-Some.place c.in-Some-number.count c.in-Some-flag.applied
    c.in-Some.ensures (sym c.in-Some-number.ensures) (sym c.in-Some-flag.ensures) (Some c.in-Some-2.said) c.see_count.new.session
    (apply_answers (world_in turn) s c.args.shard c.in-Some-number.count c.in-Some.place c.seen_count-seen.result
    c.entries_up_to-up_to.result c.in-Some-flag.applied c.seen_count-seen.ensures c.entries_up_to-up_to.ensures.value c.in-Some.ensures.0
    (c.fits.ensures.0 c.if-not-fits.false)
    (omega (arith, c.entries.ensures, c.if-count-entries.false)))
    (said.0, said.1, c.see_count.ensures.seen)
