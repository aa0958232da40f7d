-- A journal as replies are held against it.
use Rattle.std.specs.Prelude.{◌≡◌, ℕ, List, length}
use Rattle.ds_base.specs.Keys.{KeyParts}
use Rattle.ds_log.specs.declared.Commit.{Commit}
use Rattle.ds_log.specs.ShardCommits.{CommitsParts}
use Rattle.ds_applied.specs.AppliedLists.{AppliedParts, Follows}
use Rattle.ds_model.specs.Worlds.{shard_lists}
use Rattle.ds_history.specs.Versions.{Kinds, versions_in, versions_of}
use Rattle.ds_history.specs.Writers.{noted_in, writers_of}

pub record HistoryParts : Type 0 where
  pub journal : List Commit
  -- the number of shards
  pub shards : ℕ

-- what is kept of a journal: the entries of all its commits by shard, of each group the numbers of the commits that wrote it, and of each
-- key the versions that the entries leave
pub record IsHistory (journal : List Commit) (applied : AppliedParts) (noted : List (KeyParts × CommitsParts)) (kinds : Kinds)
    : Type 0 where
  pub follows : Follows journal applied
  pub whole : applied.commits ≡ length journal
  pub writers : (g : KeyParts) → noted_in noted g ≡ writers_of g journal
  pub versions : (k : KeyParts) → versions_in kinds k ≡ versions_of k (shard_lists applied.shards journal)
