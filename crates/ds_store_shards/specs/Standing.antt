-- Where strong reads of a shard stand, and what settling one leaves.
use Rattle.std.specs.Prelude.{◌≡◌, ℕ, ◌≤◌, ◌<◌, List, length, take, Option, slice_set}
use Rattle.ds_log.specs.declared.Entry.{Entry}
use Rattle.ds_log.specs.Logs.{shard_list}
use Rattle.ds_model.specs.Sessions.{last_commit, list_of}
use Rattle.ds_store_passes.specs.Answered.{ReadsAt, entries_up_to}
use Rattle.ds_store_passes.specs.Passes.{PassParts, HasRead}

-- A strong read of a shard at a place: so many entries the commits up to there give the shard, and these are the first that the pass has
-- seen of it.
pub record StandsAt (shards : ℕ) (before after : PassParts) (shard : ℕ) (at : Option ℕ) (m entries : ℕ) : Type 0 where
  pub read : HasRead before after
  pub stands : ReadsAt at before after m
  pub entries_are : entries ≡ entries_up_to after.journal shards m shard
  pub there : shard < length after.lists
  pub first : take entries (list_of after.lists shard) ≡ shard_list (take m after.journal) shard shards

-- one shard has applied at least all entries up to a place, and no list of another shard changes
pub record IsSettled (shards : ℕ) (before after : PassParts) (shard place count commit : ℕ) : Type 0 where
  pub read : HasRead before after
  pub list : List Entry
  pub lists : after.lists ≡ slice_set before.lists shard list
  pub all : entries_up_to after.journal shards place shard ≤ length list
  pub count_is : count ≡ length list
  pub commit_is : commit ≡ last_commit list
  pub shown : commit ≤ after.place
