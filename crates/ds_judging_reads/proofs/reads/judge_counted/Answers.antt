use Rattle.std.proofs.Common.{ℕ, List, Option, Some, None, ap, sym, ◌∙◌, subst, option_map, Vec, Global}
use Rattle.std.specs.Prelude.{codes}
use Rattle.ds_entity.specs.EntityOrder.{sorted_by_key}
use Rattle.ds_entity.specs.declared.results.Seen.TheVariants as seen
use Rattle.ds_applied.specs.AppliedLists.{AreCounts, shard_views}
use Rattle.ds_protocol.specs.declared.preparing.Ready.{Ready}
use Rattle.ds_protocol.specs.declared.searching.Search.{Search}
use Rattle.ds_model.specs.Answers.{CountsWithin}
use Rattle.ds_model.specs.Refusals.{ancestor_group_refusal}
use Rattle.ds_model.specs.Sessions.{Session, saw_counts}
use Rattle.ds_model.specs.Worlds.{shard_lists}
use Rattle.ds_reply.specs.declared.reply.Body.{Body}
use Rattle.ds_reply_lines.specs.ReplyLines.{numbers_at}
use Rattle.ds_judging_lines.specs.Deciding.{IsOnlyTold, SaidIs, told_in}
use Rattle.ds_judging_reads.specs.Reading.{told_over}
use Rattle.ds_judging_lines.specs.declared.turn.Turn.{Turn}
use Rattle.ds_judging_lines.proofs.CountLaws.{are_counts}
use Rattle.ds_judging_reads.proofs.SearchLaws.{counted_countless, counted_decided}
use Rattle.ds_judging_reads.proofs.reads.judge_counted.Goals as goal

-- the told counts are those that may be shown
abbrev Shows : Turn → Session → Option (Vec ℕ Global) → Type 0
Shows turn s o =
    IsOnlyTold (CountsWithin (λ shard. 0) 0 s.counts (shard_lists turn.run.now.history.shards turn.run.now.history.journal))
    (numbers_at (codes "applied") (told_in turn)) (option_map (λ v. v.items) o)

-- the body with the results at these counts is said or not
abbrev Says : Turn → Search → Ready → List ℕ → Option Body → Type 0
Says turn search ready counts o =
    SaidIs turn (told_over search ready.normal ready.window
    (sorted_by_key (shard_views (shard_lists turn.run.now.history.shards turn.run.now.history.journal) counts)) (seen.Counts counts)) o

pub returns-in_default-clause-decided : goal.returns-in_default-clause-decided
returns-in_default-clause-decided c =
    let turn = c.args.turn.now in
    let s = c.args.session.now in
    counted_countless turn c.requires.session.turn s c.args.search.now c.args.ready.now.normal c.args.ready.now.window c.requires.ready
    (ap (ancestor_group_refusal s.transaction) c.requires.everywhere) c.requires.texts c.requires.asks c.requires.everywhere
    (subst (Shows turn s) c.in_default.is c.in_ok-counts.ensures)

pub finds_counted-requires-clause-counts : goal.finds_counted-requires-clause-counts
finds_counted-requires-clause-counts c =
    let turn = c.args.turn.now in
    let s = c.args.session.now in
    let lists = shard_lists turn.run.now.history.shards turn.run.now.history.journal in
    let within = subst (Shows turn s) c.in-Some.is c.in_ok-counts.ensures in
    subst (AreCounts lists) (sym c.as_slice.ensures.value)
    (are_counts (λ shard. 0) 0 s.counts lists c.in-Some.counts.items within.0)

pub returns-in_default-2-clause-decided : goal.returns-in_default-2-clause-decided
returns-in_default-2-clause-decided c =
    let turn = c.args.turn.now in
    let s = c.args.session.now in
    counted_decided turn c.requires.session.turn s c.args.search.now c.args.ready.now.normal c.args.ready.now.window c.requires.ready
    (ap (ancestor_group_refusal s.transaction) c.requires.everywhere) c.requires.texts c.requires.asks c.requires.everywhere
    c.in-Some.counts.items None s (subst (Shows turn s) c.in-Some.is c.in_ok-counts.ensures)
    (subst (λ ns. Says turn c.args.search.now c.args.ready.now ns None) c.as_slice.ensures.value
    (subst (Says turn c.args.search.now c.args.ready.now c.as_slice.result.now) c.in_default-2.is c.in_ok-said.ensures))

pub see_counts-requires : goal.see_counts-requires
see_counts-requires c =
    let turn = c.args.turn.now in
    let s = c.args.session.now in
    let lists = shard_lists turn.run.now.history.shards turn.run.now.history.journal in
    let within = subst (Shows turn s) c.in-Some.is c.in_ok-counts.ensures in
    subst (AreCounts lists) (sym c.as_slice-2.ensures.value)
    (are_counts (λ shard. 0) 0 s.counts lists c.in-Some.counts.items within.0)

pub returns-clause-decided : goal.returns-clause-decided
returns-clause-decided c =
    let turn = c.args.turn.now in
    let s = c.args.session.now in
    let lists = shard_lists turn.run.now.history.shards turn.run.now.history.journal in
    let says = subst (λ ns. Says turn c.args.search.now c.args.ready.now ns (Some c.in-Some-2.said)) c.as_slice.ensures.value
    (subst (Says turn c.args.search.now c.args.ready.now c.as_slice.result.now) c.in-Some-2.is c.in_ok-said.ensures) in
    counted_decided turn c.requires.session.turn s c.args.search.now c.args.ready.now.normal c.args.ready.now.window c.requires.ready
    (ap (ancestor_group_refusal s.transaction) c.requires.everywhere) c.requires.texts c.requires.asks c.requires.everywhere
    c.in-Some.counts.items (Some c.in-Some-2.said) c.see_counts.new.session
    (subst (Shows turn s) c.in-Some.is c.in_ok-counts.ensures)
    (says.0, says.1, c.see_counts.ensures.seen ∙ ap (λ (ns : List ℕ). saw_counts lists ns s) c.as_slice-2.ensures.value)
