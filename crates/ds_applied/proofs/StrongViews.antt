-- Strong reads: what is seen of one entity group in its shard's entities is what is seen of it in the strong view of the journal.
use Rattle.std.proofs.Common.{◌≡◌, ℕ, ◌<◌, ◌≤◌, List, length}
use Rattle.ds_base.specs.declared.column.Column.{Column}
use Rattle.ds_base.specs.Keys.{KeyParts, root_of}
use Rattle.ds_query.specs.declared.branch.Normal.{Normal}
use Rattle.ds_query.specs.declared.branch.Window.{Window}
use Rattle.ds_query.specs.declared.query.Select.{Select}
use Rattle.ds_log.specs.declared.Commit.{Commit}
use Rattle.ds_log.specs.Shards.{shard_of}
use Rattle.ds_model.specs.ByKey.{shard_view}
use Rattle.ds_model.specs.Results.{result, items_of, entity_of}
use Rattle.ds_model.specs.Sessions.{list_of}
use Rattle.ds_model.specs.Views.{strong_view}
use Rattle.ds_model.proofs.AncestorResults.{HaveAncestor, ancestor_result, ancestor_items}
use Rattle.ds_model.proofs.GroupReads.{get_seen}
use Rattle.ds_applied.specs.AppliedLists.{AppliedParts, Follows, entries_by}
use Rattle.ds_applied.proofs.FollowLaws.{list_up_to}

-- A get: what is found by a key in its shard, at the entries of the first m commits, is what the strong view has.
pub strong_get : (journal : List Commit) (a : AppliedParts) (m : ℕ) (k : KeyParts) → Follows journal a → m ≤ a.commits
    → shard_of (root_of k) a.shards < a.shards
    → entity_of (shard_view a.lists (shard_of (root_of k) a.shards) (entries_by journal a.shards (shard_of (root_of k) a.shards) m)) k
    ≡ entity_of (strong_view journal m) k
strong_get journal a m k follows within below =
    let shard : ℕ = shard_of (root_of k) a.shards in
    get_seen journal (list_of a.lists shard) (entries_by journal a.shards shard m) m a.shards k
    (list_up_to journal a shard m follows below within)

module _ (journal : List Commit) (a : AppliedParts) (m : ℕ) (ancestor : KeyParts) (follows : Follows journal a) (within : m ≤ a.commits)
    (below : shard_of (root_of ancestor) a.shards < a.shards) (some : 1 ≤ length ancestor.elems) where
  -- A query with an ancestor has over the entities of its group's shard the results that it has over the strong view.
  pub strong_result : (n : Normal) (w : Window) → HaveAncestor ancestor n.branches
      → result n w (shard_view a.lists (shard_of (root_of ancestor) a.shards)
      (entries_by journal a.shards (shard_of (root_of ancestor) a.shards) m))
      ≡ result n w (strong_view journal m)
  strong_result n w has =
      let shard : ℕ = shard_of (root_of ancestor) a.shards in
      ancestor_result journal (list_of a.lists shard) (entries_by journal a.shards shard m) m a.shards ancestor
      (list_up_to journal a shard m follows below within) some n w has

  -- And the same is told of its rows.
  pub strong_items : (n : Normal) (w : Window) (columns : List Column) (selected : Select) → HaveAncestor ancestor n.branches
      → items_of columns selected (shard_view a.lists (shard_of (root_of ancestor) a.shards)
      (entries_by journal a.shards (shard_of (root_of ancestor) a.shards) m)) (result n w (strong_view journal m)).rows
      ≡ items_of columns selected (strong_view journal m) (result n w (strong_view journal m)).rows
  strong_items n w columns selected has =
      let shard : ℕ = shard_of (root_of ancestor) a.shards in
      ancestor_items journal (list_of a.lists shard) (entries_by journal a.shards shard m) m a.shards ancestor
      (list_up_to journal a shard m follows below within) some n w columns selected has
