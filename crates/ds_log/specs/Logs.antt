-- The journal, entity groups' logs, and the lists of entries that shards apply.
use Rattle.std.specs.Prelude.{ℕ, ◌+◌, List, [], ◌∷◌, ◌++◌, ◌==◌, filter, map, flat_map, fold}
use Rattle.std.specs.BTreeSet.{insert_key}
use Rattle.ds_base.specs.Keys.{KeyParts, root_of}
use Rattle.ds_base.specs.KeyOrder.{key_cmp, same_key}
use Rattle.ds_log.specs.declared.Write.{Write}
use Rattle.ds_log.specs.declared.Write.TheVariants.{Put, Delete}
use Rattle.ds_log.specs.declared.Commit.{Commit}
use Rattle.ds_log.specs.declared.Entry.{Entry}
use Rattle.ds_log.specs.Shards.{shard_of}

-- the key that is written
abbrev pub key_of : Write → KeyParts
key_of (Put e) = e.key
key_of (Delete k) = k

-- the entity group that is written, by its root key
abbrev pub group_of : Write → KeyParts
group_of w = root_of (key_of w)

-- the groups that are written, each once, by root key
abbrev pub groups_of : List Write → List KeyParts
groups_of ws = fold (insert_key key_cmp) [] (map group_of ws)

-- the writes to one group, in their order
abbrev pub group_writes : KeyParts → List Write → List Write
group_writes g ws = filter (λ w. same_key (group_of w) g) ws

-- one entry per group that commit n writes
abbrev pub commit_entries : ℕ → Commit → List Entry
commit_entries n c = map (λ g. record { commit = n; group = g; writes = group_writes g c.writes }) (groups_of c.writes)

-- the entries that commit n gives one shard out of so many
abbrev pub shard_entries : ℕ → Commit → ℕ → ℕ → List Entry
shard_entries n c shard shards = filter (λ e. shard_of e.group shards == shard) (commit_entries n c)

-- the entries of commits numbered from n
abbrev pub entries_from : ℕ → List Commit → List Entry
entries_from n [] = []
entries_from n (c ∷ cs) = commit_entries n c ++ entries_from (n + 1) cs

-- the entries of one shard out of so many, in journal order
abbrev pub shard_list : List Commit → ℕ → ℕ → List Entry
shard_list journal shard shards = filter (λ e. shard_of e.group shards == shard) (entries_from 1 journal)

-- all writes of a journal, in their order
abbrev pub writes_of : List Commit → List Write
writes_of = flat_map (λ c. c.writes)

-- the log of one group
abbrev pub group_log : List Commit → KeyParts → List Write
group_log journal g = group_writes g (writes_of journal)

-- all writes of a list of entries, in their order
abbrev pub entry_writes : List Entry → List Write
entry_writes = flat_map (λ e. e.writes)
