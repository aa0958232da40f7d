-- What was written at each key, one version a write, and the entities that a query of all shards sees at a count of entries for each shard.
use Rattle.std.specs.Prelude.{◌≡◌, ℕ, ◌+◌, All, ◌∷◌, ◌++◌, Bool, List, [], Option}
use Rattle.std.specs.Prelude.{Some, None, bytes_eq, cond, filter, flat_map, fold, nat_lt}
use Rattle.std.specs.Global.{Global}
use Rattle.std.specs.Prelude.{Vec}
use Rattle.std.specs.BTreeMap.{BTreeMap, is_at}
use Rattle.std.specs.Map.{lookup}
use Rattle.ds_base.specs.Keys.{KeyParts}
use Rattle.ds_base.specs.KeyOrder.{key_cmp, same_key}
use Rattle.ds_entity.specs.Entities.{EntityParts}
use Rattle.ds_log.specs.declared.Entry.{Entry}
use Rattle.ds_log.specs.declared.Write.{Write}
use Rattle.ds_log.specs.Logs.{key_of}
use Rattle.ds_model.specs.Rows.{has_kind}
use Rattle.ds_model.specs.Sessions.{count_of}
use Rattle.ds_query.specs.declared.branch.Branch.{Branch}
use Rattle.ds_rows.specs.IndexedValues.{kind_in, kind_of}
use Rattle.ds_history.specs.Writers.{put_by}
use Rattle.ds_history.specs.declared.versions.Version.{Version}

-- what is gathered of each element with its number, where the first has the number n
abbrev pub numbered : {A B : Type 0} → (ℕ → A → List B) → ℕ → List A → List B
numbered f n [] = []
numbered f n (x ∷ xs) = f n x ++ numbered f (n + 1) xs

-- what a write leaves at the key, if it is one to it
abbrev pub write_version : ℕ → ℕ → KeyParts → Write → List Version
write_version shard entry k w = cond (same_key (key_of w) k) (record { shard = shard; entry = entry; left = put_by w } ∷ []) []

-- what the writes of an entry leave there, in their order
abbrev pub writes_versions : ℕ → ℕ → KeyParts → List Write → List Version
writes_versions shard entry k = flat_map (write_version shard entry k)

-- those of a shard's entries, which are counted from 0
abbrev pub entries_versions : ℕ → KeyParts → List Entry → List Version
entries_versions shard k = numbered (λ entry (e : Entry). writes_versions shard entry k e.writes) 0

-- those of all shards
abbrev pub versions_of : KeyParts → List (List Entry) → List Version
versions_of k = numbered (λ shard entries. entries_versions shard k entries) 0

-- ---- at counts

-- it is of an entry within the counts
abbrev pub is_counted : List ℕ → Version → Bool
is_counted counts v = nat_lt v.entry (count_of counts v.shard)

-- the entity that the last counted version leaves
abbrev pub seen_at : List ℕ → List Version → Option EntityParts
seen_at counts = fold (λ (o : Option EntityParts) (v : Version). cond (is_counted counts v) v.left o) None

-- the entities of a kind, or of all where none is named
abbrev pub of_kind : Option (List ℕ) → List EntityParts → List EntityParts
of_kind kind = filter (λ (e : EntityParts). has_kind kind e.key)

-- each branch asks for this kind
abbrev pub HaveKind : List ℕ → List Branch → Type 0
HaveKind kind = All (λ (q : Branch). q.kind ≡ Some kind)

-- ---- as they are kept

abbrev pub Versions : Type 0
Versions = Vec Version Global

abbrev pub Keys : Type 0
Keys = List (KeyParts × Versions)

abbrev pub Kinds : Type 0
Kinds = List (List ℕ × BTreeMap KeyParts Versions)

abbrev pub items_in : Option Versions → List Version
items_in None = []
items_in (Some versions) = versions.items

-- the versions that are kept of a key
abbrev pub versions_at : Keys → KeyParts → List Version
versions_at keys k = items_in (lookup (is_at (key_cmp k)) keys)

abbrev pub entries_in : Option (BTreeMap KeyParts Versions) → Keys
entries_in None = []
entries_in (Some keys) = keys.entries

-- the keys that are kept of a kind
abbrev pub keys_in : Kinds → List ℕ → Keys
keys_in kinds kind = entries_in (lookup (bytes_eq kind) kinds)

-- the versions that are kept of a key, among those of its kind
abbrev pub versions_in : Kinds → KeyParts → List Version
versions_in kinds k = versions_at (keys_in kinds (kind_of k)) k

abbrev pub listed : Option EntityParts → List EntityParts
listed None = []
listed (Some e) = e ∷ []

-- the entity of a key of the kind
abbrev pub seen_of : List ℕ → List ℕ → KeyParts × Versions → Option EntityParts
seen_of kind counts key = cond (kind_in kind key.0) (seen_at counts key.1.items) None

-- the entities of the kind's keys
abbrev pub seen_in : List ℕ → List ℕ → Keys → List EntityParts
seen_in kind counts = flat_map (λ key. listed (seen_of kind counts key))
