-- What is told of a search whose branches all have one kind is told of the entities of this kind.
use Rattle.std.proofs.Common.{◌≡◌, ℕ, List, Some, ap, subst, ◌∙◌}
use Rattle.std.specs.Cmp.{IsTotalOrder, on_total}
use Rattle.std.specs.List.{AllByRecursion}
use Rattle.ds_base.specs.KeyOrderLaws.{key_cmp-total}
use Rattle.ds_base.specs.SortingLaws.{IsSorted-sorted_by, sorted_by-filter}
use Rattle.ds_entity.specs.Entities.{EntityParts}
use Rattle.ds_entity.specs.EntityOrder.{entity_cmp, sorted_by_key}
use Rattle.ds_entity.specs.declared.results.Seen.{Seen}
use Rattle.ds_query.specs.declared.branch.Branch.{Branch}
use Rattle.ds_query.specs.declared.branch.Normal.{Normal}
use Rattle.ds_query.specs.declared.branch.Window.{Window}
use Rattle.ds_model.specs.Answers.{cursor_of}
use Rattle.ds_model.specs.Results.{Page, items_of, result}
use Rattle.ds_model.specs.Rows.{has_kind}
use Rattle.ds_protocol.specs.declared.searching.Search.{Search}
use Rattle.ds_protocol.specs.Finishing.{AreByKey, found}
use Rattle.ds_history.specs.Versions.{of_kind}
use Rattle.ds_history.proofs.KindResults.{kind_items, kind_result}
use Rattle.ds_judging_reads.specs.Reading.{told_over}

module _ (kind : List ℕ) where
  -- of entities by key those of a kind stand by key
  pub kind_by_key : (es : List EntityParts) → AreByKey (of_kind (Some kind) (sorted_by_key es))
  kind_by_key es =
      subst AreByKey (sorted_by-filter total (λ (e : EntityParts). has_kind (Some kind) e.key) es)
      (IsSorted-sorted_by total (of_kind (Some kind) es)) where
        total : IsTotalOrder entity_cmp
        total = on_total (λ (e : EntityParts). e.key) key_cmp-total

  pub told_kind : (search : Search) (n : Normal) (w : Window) (es : List EntityParts) (sees : Seen)
      → AllByRecursion (λ (q : Branch). q.kind ≡ Some kind) n.branches
      → told_over search n w (of_kind (Some kind) es) sees ≡ told_over search n w es sees
  told_kind search n w es sees has =
      ap (λ items. found search.statement search.query.select items sees
      (cursor_of search.cursor n.branches (result n w (of_kind (Some kind) es)).next)) (kind_items kind n w search.query.select es has)
      ∙ ap (λ (p : Page). found search.statement search.query.select (items_of n.merged search.query.select es (result n w es).rows) sees
      (cursor_of search.cursor n.branches p.next)) (kind_result kind n w es has)
