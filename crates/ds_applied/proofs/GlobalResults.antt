-- Reads of all entity groups: the entities of all shards are those of the global view.
use Rattle.std.proofs.Common.{◌≡◌, ℕ, List, take, sym, subst}
use Rattle.ds_base.specs.declared.column.Column.{Column}
use Rattle.ds_bytes.specs.Rows.{RowParts}
use Rattle.ds_query.specs.declared.branch.Normal.{Normal}
use Rattle.ds_query.specs.declared.branch.Window.{Window}
use Rattle.ds_query.specs.declared.query.Select.{Select}
use Rattle.ds_log.specs.declared.Commit.{Commit}
use Rattle.ds_model.specs.ByKey.{sorted_by_key, KeysDiffer, shard_views}
use Rattle.ds_model.specs.Results.{result, items_of}
use Rattle.ds_model.specs.Views.{global_view}
use Rattle.ds_model.proofs.ShardViews.{views_differ, views_result, views_items}
use Rattle.ds_applied.specs.AppliedLists.{AppliedParts, Follows}

module _ (journal : List Commit) (a : AppliedParts) (counts : List ℕ) (follows : Follows journal a) where
  -- No two of the entities of all shards have one key.
  pub global_differ : KeysDiffer (shard_views a.lists counts)
  global_differ =
      subst (λ lists. KeysDiffer (shard_views lists counts)) (sym follows.lists)
      (views_differ (take a.commits journal) a.shards counts)

  -- Queries without an ancestor have over the entities of all shards by key the results that they have over the global view.
  pub global_result : (n : Normal) (w : Window)
      → result n w (sorted_by_key (shard_views a.lists counts)) ≡ result n w (global_view a.lists counts)
  global_result n w =
      subst (λ lists. result n w (sorted_by_key (shard_views lists counts)) ≡ result n w (global_view lists counts)) (sym follows.lists)
      (views_result (take a.commits journal) a.shards counts n w)

  -- And the same is told of their rows.
  pub global_items : (columns : List Column) (selected : Select) (rs : List RowParts)
      → items_of columns selected (sorted_by_key (shard_views a.lists counts)) rs
      ≡ items_of columns selected (global_view a.lists counts) rs
  global_items columns selected rs =
      subst (λ lists. items_of columns selected (sorted_by_key (shard_views lists counts)) rs
      ≡ items_of columns selected (global_view lists counts) rs) (sym follows.lists)
      (views_items (take a.commits journal) a.shards counts columns selected rs)
