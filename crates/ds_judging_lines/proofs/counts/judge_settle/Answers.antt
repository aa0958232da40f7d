use Rattle.std.proofs.Common.{ℕ, List, Option, Some, None, ap, sym, ◌∙◌, subst, arith, length, option_map, Vec, Global}
use Rattle.std.specs.Prelude.{codes}
use Rattle.ds_applied.specs.AppliedLists.{AreCounts}
use Rattle.ds_model.specs.Answers.{CountsWithin}
use Rattle.ds_model.specs.Groups.{IsSeenPlace}
use Rattle.ds_model.specs.Sessions.{Session, saw_counts}
use Rattle.ds_model.specs.Worlds.{entries_up_to, shard_lists}
use Rattle.ds_reply.specs.declared.reply.Body.TheVariants as body
use Rattle.ds_reply_lines.specs.ReplyLines.{number_at, numbers_at}
use Rattle.ds_judging_lines.specs.Deciding.{IsOnlyTold, SaidIs, told_in, world_in}
use Rattle.ds_judging_lines.proofs.CountLaws.{are_counts, settle_countless, settle_decided, settle_placeless}
use Rattle.ds_judging_lines.proofs.CountSteps.{at_none}
use Rattle.ds_judging_lines.proofs.SeenLaws.{kept}
use Rattle.ds_judging_lines.specs.declared.turn.Turn.{Turn}
use Rattle.ds_judging_lines.proofs.counts.judge_settle.Goals as goal

pub returns-in_default-clause-decided : goal.returns-in_default-clause-decided
returns-in_default-clause-decided c =
    let turn = c.args.turn.now in
    let s = c.args.session.now in
    settle_placeless turn c.requires.session.turn s
    (at_none (λ o. IsOnlyTold (IsSeenPlace turn.run.now.history.journal s) (number_at (codes "place")
    (told_in turn)) o) c.place.result c.in_default.not-Some
    c.place.ensures)

-- the told counts are those that may be shown at the place
abbrev Shows : Turn → Session → ℕ → Option (Vec ℕ Global) → Type 0
Shows turn s m o =
    IsOnlyTold (CountsWithin (entries_up_to (world_in turn) m) 0 s.counts
    (shard_lists turn.run.now.history.shards turn.run.now.history.journal))
    (numbers_at (codes "applied") (told_in turn)) (option_map (λ v. v.items) o)

pub returns-in_default-2-clause-decided : goal.returns-in_default-2-clause-decided
returns-in_default-2-clause-decided c =
    let turn = c.args.turn.now in
    let s = c.args.session.now in
    settle_countless turn c.requires.session.turn s c.in-Some.place c.in-Some.ensures
    (subst (Shows turn s c.in-Some.place) c.in_default-2.is c.in_ok-counts.ensures)

pub returns-in_default-3-clause-decided : goal.returns-in_default-3-clause-decided
returns-in_default-3-clause-decided c =
    let turn = c.args.turn.now in
    let s = c.args.session.now in
    let m = c.in-Some.place in
    let copied = c.in_ok-applied.ensures ∙ c.as_slice.ensures.value in
    settle_decided turn c.requires.session.turn s m c.in-Some.ensures c.in-Some-2.counts.items None s
    (subst (Shows turn s m) c.in-Some-2.is c.in_ok-counts.ensures)
    (subst (λ (ns : List ℕ). SaidIs turn (body.Settle m ns) None) copied (subst (SaidIs turn
    (body.Settle m c.in_ok-applied.applied)) c.in_default-3.is c.in_ok-said.ensures))

pub see_counts-requires : goal.see_counts-requires
see_counts-requires c =
    let turn = c.args.turn.now in
    let s = c.args.session.now in
    let m = c.in-Some.place in
    let lists = shard_lists turn.run.now.history.shards turn.run.now.history.journal in
    let within = subst (Shows turn s m) c.in-Some-2.is c.in_ok-counts.ensures in
    subst (AreCounts lists) (sym c.as_slice-2.ensures.value)
    (are_counts (entries_up_to (world_in turn) m) 0 s.counts lists c.in-Some-2.counts.items within.0)

pub returns-clause-decided : goal.returns-clause-decided
returns-clause-decided c =
    let turn = c.args.turn.now in
    let s = c.args.session.now in
    let m = c.in-Some.place in
    let lists = shard_lists turn.run.now.history.shards turn.run.now.history.journal in
    let copied = c.in_ok-applied.ensures ∙ c.as_slice.ensures.value in
    let said = subst (λ (ns : List ℕ). SaidIs turn (body.Settle m ns) (Some c.in-Some-3.said)) copied
    (subst (SaidIs turn (body.Settle m c.in_ok-applied.applied)) c.in-Some-3.is c.in_ok-said.ensures) in
    let after = c.see_counts.ensures.seen
    ∙ ap (λ (ns : List ℕ). saw_counts lists ns c.see_place.new.self) c.as_slice-2.ensures.value
    ∙ ap (saw_counts lists c.in-Some-2.counts.items) c.see_place.ensures in
    settle_decided turn c.requires.session.turn s m c.in-Some.ensures c.in-Some-2.counts.items (Some c.in-Some-3.said)
    c.see_counts.new.session
    (subst (Shows turn s m) c.in-Some-2.is c.in_ok-counts.ensures) (said.0, said.1, after)

pub returns-clause-kept : goal.returns-clause-kept
returns-clause-kept c =
    c.see_counts.ensures.kept
    (kept c.args.turn.now c.args.session.now c.see_place.new.self (ap (λ (s : Session). length s.counts) c.see_place.ensures)
    (omega (arith, ap (λ (s : Session). s.next_id) c.see_place.ensures)) c.requires.session)
