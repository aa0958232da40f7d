use Rattle.std.proofs.Common.{◌≡◌, IfOk, Some, map, ap, subst, sym, ◌∙◌}
use Rattle.std.proofs.lemmas.List.Elements.{recursion_from_All}
use Rattle.ds_entity.specs.EntityOrder.{sorted_by_key}
use Rattle.ds_entity.specs.declared.results.Seen.TheVariants as seen
use Rattle.ds_applied.specs.AppliedLists.{shard_views}
use Rattle.ds_model.specs.Worlds.{shard_lists}
use Rattle.ds_protocol.specs.Finishing.{AreByKey}
use Rattle.ds_query.specs.declared.branch.Branch.{Branch}
use Rattle.ds_judging_lines.specs.Deciding.{SaidIs}
use Rattle.ds_judging_reads.specs.Reading.{told_over}
use Rattle.ds_judging_reads.proofs.KindLaws.{kind_by_key, told_kind}
use Rattle.ds_judging_reads.proofs.reads.finds_of_kind.Goals as goal

pub finds-requires-clause-by_key : goal.finds-requires-clause-by_key
finds-requires-clause-by_key c =
    let h = c.args.turn.now.run.now.history in
    subst AreByKey (sym (ap (map (λ e. e.now)) c.as_slice.ensures.value ∙ c.in_ok-entities.ensures))
    (kind_by_key c.args.kind.now (shard_views (shard_lists h.shards h.journal) c.args.counts.now))

pub returns : goal.returns
returns c =
    let h = c.args.turn.now.run.now.history in
    let n = c.args.ready.now.normal in
    let told = told_over c.args.search.now n c.args.ready.now.window in
    let all = sorted_by_key (shard_views (shard_lists h.shards h.journal) c.args.counts.now) in
    subst (λ b. IfOk c.finds.result (SaidIs c.args.turn.now b))
    (ap (λ es. told es (seen.Counts c.in_ok-applied.applied)) (ap (map (λ e. e.now)) c.as_slice.ensures.value ∙ c.in_ok-entities.ensures)
    ∙ told_kind c.args.kind.now c.args.search.now n c.args.ready.now.window all (seen.Counts c.in_ok-applied.applied)
    (recursion_from_All (λ (q : Branch). q.kind ≡ Some c.args.kind.now) n.branches c.requires.kind)
    ∙ ap (λ ns. told all (seen.Counts ns)) c.in_ok-applied.ensures)
    c.finds.ensures
