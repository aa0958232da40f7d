use Rattle.std.proofs.Common.{IfOk, map, ap, subst, ◌∙◌}
use Rattle.ds_entity.specs.EntityOrder.{sorted_by_key}
use Rattle.ds_entity.specs.declared.results.Seen.TheVariants as seen
use Rattle.ds_applied.specs.AppliedLists.{shard_views}
use Rattle.ds_model.specs.Worlds.{shard_lists}
use Rattle.ds_judging_lines.specs.Deciding.{SaidIs}
use Rattle.ds_judging_reads.specs.Reading.{told_over}
use Rattle.ds_judging_reads.proofs.SearchLaws.{all_by_key, by_key}
use Rattle.ds_judging_reads.proofs.reads.finds_of_all.Goals as goal

pub finds-requires-clause-by_key : goal.finds-requires-clause-by_key
finds-requires-clause-by_key c =
    let h = c.args.turn.now.run.now.history in
    by_key (map (λ e. e.now) c.as_slice.result.now) (shard_views (shard_lists h.shards h.journal) c.args.counts.now)
    (ap (map (λ e. e.now)) c.as_slice.ensures.value
    ∙ all_by_key h.journal h.shards c.args.counts.now c.in_ok-view.view (map
    (λ e. e.now) c.in_ok-entities.entities.items) c.in_ok-view.ensures
    c.in_ok-entities.ensures)

pub returns : goal.returns
returns c =
    let h = c.args.turn.now.run.now.history in
    let told = told_over c.args.search.now c.args.ready.now.normal c.args.ready.now.window in
    let entities =
    ap (map (λ e. e.now)) c.as_slice.ensures.value
    ∙ all_by_key h.journal h.shards c.args.counts.now c.in_ok-view.view (map
    (λ e. e.now) c.in_ok-entities.entities.items) c.in_ok-view.ensures
    c.in_ok-entities.ensures in
    subst (λ b. IfOk c.finds.result (SaidIs c.args.turn.now b))
    (ap (λ es. told es (seen.Counts c.in_ok-applied.applied)) entities
    ∙ ap (λ ns. told (sorted_by_key (shard_views (shard_lists h.shards h.journal) c.args.counts.now))
    (seen.Counts ns)) c.in_ok-applied.ensures)
    c.finds.ensures
