use Rattle.std.proofs.Common.{◌≡◌, ℕ, true, false, Option, Some, None, ap, sym, ◌∙◌, subst, arith, length}
use Rattle.std.specs.Prelude.{codes}
use Rattle.ds_model.specs.Groups.{with_transaction}
use Rattle.ds_model.specs.Sessions.{Session, count_of, list_of, saw_place, saw_shard_count}
use Rattle.ds_model.specs.Worlds.{entries_up_to, shard_lists}
use Rattle.ds_reply.specs.declared.reply.Body.TheVariants as body
use Rattle.ds_reply_lines.specs.ReplyLines.{number_at}
use Rattle.ds_judging_lines.specs.Deciding.{SaidIs, told_in, world_in}
use Rattle.ds_judging_lines.proofs.CountSteps.{at_none}
use Rattle.ds_judging_reads.proofs.GetLaws.{expired_countless, expired_decided, expired_unfit}
use Rattle.ds_judging_reads.proofs.GetSteps.{expired_answers, not_open, same_window, two_ways}
use Rattle.ds_judging_lines.proofs.SeenLaws.{kept}
use Rattle.ds_judging_reads.proofs.reads.judge_expired.Goals as goal

pub returns-in_default-clause-decided : goal.returns-in_default-clause-decided
returns-in_default-clause-decided c =
    let turn = c.args.turn.now in
    expired_countless turn c.requires.session.turn c.args.session.now c.args.group.now c.args.place c.requires.stands
    (sym (at_none (λ (o : Option ℕ). o ≡ number_at (codes "applied")
    (told_in turn)) c.number.result c.in_default.not-Some c.number.ensures))

pub returns-then-not-in_transaction-clause-decided : goal.returns-then-not-in_transaction-clause-decided
returns-then-not-in_transaction-clause-decided c =
    let turn = c.args.turn.now in
    expired_unfit turn c.requires.session.turn c.args.session.now c.args.group.now c.args.place c.requires.stands
    c.in-Some.applied
    (sym c.in-Some.ensures)
    (λ later answers. not_open c.args.session.now.transaction answers.inside c.in_transaction.result answers.has c.in_transaction.ensures
    c.if-not-in_transaction.true)

pub returns-then-not-are_gone-clause-decided : goal.returns-then-not-are_gone-clause-decided
returns-then-not-are_gone-clause-decided c =
    let turn = c.args.turn.now in
    let snapshot_is = c.entries_up_to-snapshot.ensures.value ∙ ap (entries_up_to
    (world_in turn) c.args.place) c.in_ok-shard.ensures.value in
    expired_unfit turn c.requires.session.turn c.args.session.now c.args.group.now c.args.place c.requires.stands
    c.in-Some.applied
    (sym c.in-Some.ensures)
    (λ later answers.
    let window = same_window turn.run.now.window answers.window answers.windowed in
    two_ways c.are_gone.result (c.are_gone.ensures.1 (omega (arith, answers.gone, window, snapshot_is))) c.if-not-are_gone.true)

pub returns-then-applied-seen-clause-decided : goal.returns-then-applied-seen-clause-decided
returns-then-applied-seen-clause-decided c =
    let turn = c.args.turn.now in
    let s = c.args.session.now in
    let seen_is = c.seen_count-seen.ensures ∙ ap (count_of s.counts) c.in_ok-shard.ensures.value in
    expired_unfit turn c.requires.session.turn s c.args.group.now c.args.place c.requires.stands c.in-Some.applied
    (sym c.in-Some.ensures) (λ later answers. omega (arith, answers.no_lower, seen_is, c.if-applied-seen.true))

pub returns-then-applied-entries-clause-decided : goal.returns-then-applied-entries-clause-decided
returns-then-applied-entries-clause-decided c =
    let turn = c.args.turn.now in
    let h = turn.run.now.history in
    let list_is = c.entries.ensures ∙ ap (λ (k : ℕ). length (list_of (shard_lists h.shards h.journal) k)) c.in_ok-shard.ensures.value in
    expired_unfit turn c.requires.session.turn c.args.session.now c.args.group.now c.args.place c.requires.stands
    c.in-Some.applied
    (sym c.in-Some.ensures) (λ later answers. omega (arith, answers.applied_within, list_is, c.if-applied-entries.true))

pub returns-in_default-2-clause-decided : goal.returns-in_default-2-clause-decided
returns-in_default-2-clause-decided c =
    let turn = c.args.turn.now in
    let s = c.args.session.now in
    let snapshot_is = c.entries_up_to-snapshot.ensures.value ∙ ap (entries_up_to
    (world_in turn) c.args.place) c.in_ok-shard.ensures.value in
    expired_decided turn c.requires.session.turn s c.args.group.now c.args.place c.requires.stands c.in-Some.applied None s
    (sym c.in-Some.ensures)
    (expired_answers turn s c.args.group.now c.args.place c.in-Some.applied c.in_ok-shard.shard c.entries_up_to-snapshot.result
    c.seen_count-seen.result
    (sym c.in_transaction.ensures ∙ c.if-not-in_transaction.false) c.requires.stands.0 c.in_ok-shard.ensures.value
    c.entries_up_to-snapshot.ensures.value
    (c.are_gone.ensures.0 c.if-not-are_gone.false) c.seen_count-seen.ensures c.if-applied-seen.false (omega
    (arith, c.entries.ensures, c.if-applied-entries.false)))
    (subst (λ (n : ℕ). SaidIs turn (body.Expired c.in-Some.applied c.args.place n) None) snapshot_is
    (subst (SaidIs turn (body.Expired c.in-Some.applied c.args.place c.entries_up_to-snapshot.result)) c.in_default-2.is
    c.in_ok-said.ensures))

pub returns-clause-decided : goal.returns-clause-decided
returns-clause-decided c =
    let turn = c.args.turn.now in
    let s = c.args.session.now in
    let h = turn.run.now.history in
    let lists = shard_lists h.shards h.journal in
    let snapshot_is = c.entries_up_to-snapshot.ensures.value ∙ ap (entries_up_to
    (world_in turn) c.args.place) c.in_ok-shard.ensures.value in
    let said = subst (λ (n : ℕ). SaidIs turn (body.Expired c.in-Some.applied c.args.place n) (Some c.in-Some-2.said)) snapshot_is
    (subst (SaidIs turn (body.Expired c.in-Some.applied c.args.place c.entries_up_to-snapshot.result)) c.in-Some-2.is
    c.in_ok-said.ensures) in
    let after = c.see_count.ensures.seen
    ∙ ap (λ (t : Session). saw_shard_count lists c.in_ok-shard.shard c.in-Some.applied (saw_place c.args.place t)) c.end.ensures
    ∙ ap (λ (k : ℕ). saw_shard_count lists k c.in-Some.applied (saw_place c.args.place (with_transaction None s)))
    c.in_ok-shard.ensures.value in
    expired_decided turn c.requires.session.turn s c.args.group.now c.args.place c.requires.stands c.in-Some.applied (Some c.in-Some-2.said)
    c.see_count.new.session (sym c.in-Some.ensures)
    (expired_answers turn s c.args.group.now c.args.place c.in-Some.applied c.in_ok-shard.shard c.entries_up_to-snapshot.result
    c.seen_count-seen.result
    (sym c.in_transaction.ensures ∙ c.if-not-in_transaction.false) c.requires.stands.0 c.in_ok-shard.ensures.value
    c.entries_up_to-snapshot.ensures.value
    (c.are_gone.ensures.0 c.if-not-are_gone.false) c.seen_count-seen.ensures c.if-applied-seen.false (omega
    (arith, c.entries.ensures, c.if-applied-entries.false)))
    (said.0, said.1, after)

pub returns-clause-kept : goal.returns-clause-kept
returns-clause-kept c =
    c.see_count.ensures.kept
    (kept c.args.turn.now c.args.session.now c.end.new.self (ap (λ (t : Session). length t.counts) c.end.ensures)
    (omega (arith, ap (λ (t : Session). t.next_id) c.end.ensures)) c.requires.session)
