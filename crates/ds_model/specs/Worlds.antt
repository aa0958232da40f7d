-- What a run is about.
use Rattle.std.specs.Prelude.{ℕ, List, Option, length, take, map}
use Rattle.std.specs.List.{range_with_len}
use Rattle.ds_indexdef.specs.declared.IndexDef.{IndexDef}
use Rattle.ds_log.specs.declared.Commit.{Commit}
use Rattle.ds_log.specs.declared.Entry.{Entry}
use Rattle.ds_log.specs.Logs.{shard_list}

-- the journal, one list of entries per shard, the index definitions, the number of shards, and the window of kept versions, a
-- number or none. Of a running store a list of entries may be longer or shorter than the journal's own part.
pub record World : Type 0 where
  pub journal : List Commit
  pub lists : List (List Entry)
  pub definitions : List IndexDef
  pub shards : ℕ
  pub window : Option ℕ

-- one list of entries per shard
abbrev pub shard_lists : ℕ → List Commit → List (List Entry)
shard_lists shards journal = map (λ shard. shard_list journal shard shards) (range_with_len 0 shards)

-- the world of a journal, whose shards have its own lists
abbrev pub world_of : List IndexDef → ℕ → Option ℕ → List Commit → World
world_of definitions shards window journal =
    record { journal = journal; lists = shard_lists shards journal; definitions = definitions; shards = shards; window = window }

-- how many entries the journal's first m commits give a shard
abbrev pub entries_up_to : World → ℕ → ℕ → ℕ
entries_up_to w m shard = length (shard_list (take m w.journal) shard w.shards)
