use Rattle.std.proofs.Common.{◌≡◌, ◌∙◌, Bor, IfOk, Some, [], ap, map, subst}
use Rattle.ds_entity.specs.Entities.{EntityParts}
use Rattle.ds_entity.specs.EntityOrder.{sorted_by_key}
use Rattle.ds_applied.specs.AppliedLists.{shard_views}
use Rattle.ds_model.specs.Worlds.{shard_lists}
use Rattle.ds_history.specs.Histories.{HistoryParts}
use Rattle.ds_history.specs.Versions.{of_kind}
use Rattle.ds_history.proofs.NoneCounted.{none_seen}
use Rattle.ds_history.proofs.SeenLaws.{seen_nowhere, seen_there}
use Rattle.ds_history.proofs.history.History.seen.Goals as goal

pub returns-then-none_counted : goal.returns-then-none_counted
returns-then-none_counted c =
    c.no_entities.ensures ∙ none_seen c.args.kind.now _ c.args.counts.now (c.none_counted.ensures c.if-none_counted.true)

pub returns-in-Some : goal.returns-in-Some
returns-in-Some c =
    subst (λ (h : HistoryParts). IfOk c.seen_in.result (λ es. map (λ e. e.now) es.items
    ≡ of_kind (Some c.args.kind.now) (sorted_by_key (shard_views (shard_lists h.shards h.journal) c.args.counts.now)))) c.self.view_is
    (subst (λ fs. IfOk c.seen_in.result (λ es. map (λ e. e.now) es.items ≡ fs))
    (seen_there c.self.inside.journal.now c.self.inside.applied.shards c.args.counts.now c.self.inside.kinds.entries c.args.kind.now
    c.self.invariant.versions c.in-Some.keys.now c.in-Some.ensures.value c.seen_in.ensures.ordered) c.seen_in.ensures.seen)

pub returns-in-None : goal.returns-in-None
returns-in-None c =
    ap (map (λ (e : Bor EntityParts). e.now)) c.new.ensures.items
    ∙ subst (λ (h : HistoryParts). [] ≡ of_kind (Some c.args.kind.now) (sorted_by_key (shard_views (shard_lists h.shards h.journal)
    c.args.counts.now))) c.self.view_is
    (seen_nowhere c.self.inside.journal.now c.self.inside.applied.shards c.args.counts.now c.self.inside.kinds.entries c.args.kind.now
    c.self.invariant.versions c.in-None.ensures.value)
