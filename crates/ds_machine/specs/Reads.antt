-- What shards have applied when a read answers.
use Rattle.std.specs.Prelude.{◌≡◌, ◌≤◌, ◌<◌, length}
use Rattle.ds_base.specs.Keys.{KeyParts}
use Rattle.ds_log.specs.Shards.{shard_of}
use Rattle.ds_applied.specs.AppliedLists.{entries_by}
use Rattle.ds_model.specs.Sessions.{count_of, list_of}
use Rattle.ds_protocol.specs.declared.seen.GroupRead.{GroupRead}
use Rattle.ds_machine.specs.States.{StateParts}

-- each commit of the journal was looked at
abbrev pub IsPulled : StateParts → Type 0
IsPulled st = st.applied.commits ≡ length st.store.journal

-- the group's shard has applied its entries up to the place
pub record IsReached (st : StateParts) (group : KeyParts) (r : GroupRead) : Type 0 where
  pub group_is : r.group ≡ group
  pub within : r.place ≤ length st.store.journal
  pub pulled : IsPulled st
  pub shard_is : r.shard ≡ shard_of group st.store.shards
  pub shard_below : r.shard < st.applied.shards
  pub entries_are : r.entries ≡ entries_by st.store.journal st.store.shards r.shard r.place
  pub listed : r.entries ≤ length (list_of st.applied.lists r.shard)
  pub applied : r.entries ≤ count_of st.applied.counts r.shard
