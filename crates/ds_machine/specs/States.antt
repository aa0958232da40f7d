-- The store, what its shards have applied of it, and what each client has seen.
use Rattle.std.specs.Prelude.{◌≡◌, ℕ, ◌≤◌, List, [], ◌∷◌, ◌++◌, Option, Some, None, length, All, ⊤}
use Rattle.ds_base.specs.Limits.{first_drawn_id, greatest_id, most_shards}
use Rattle.ds_indexdef.specs.declared.IndexDef.{IndexDef}
use Rattle.ds_log.specs.declared.Commit.{Commit}
use Rattle.ds_log.specs.Ids.{AreIssued}
use Rattle.ds_applied.specs.AppliedLists.{AppliedParts, Follows}
use Rattle.ds_model.specs.Sessions.{Session, Transaction}
use Rattle.ds_model.specs.Worlds.{World, world_of}

-- the index definitions, the number of shards, the commits and the id counter
pub record StoreParts : Type 0 where
  pub definitions : List IndexDef
  pub shards : ℕ
  pub journal : List Commit
  pub next : ℕ

-- the store, and what its shards have applied
pub record StateParts : Type 0 where
  pub store : StoreParts
  pub applied : AppliedParts

-- what a reply is about
abbrev pub world : StoreParts → Option ℕ → World
world s window = world_of s.definitions s.shards window s.journal

-- the shards are those of the store, from 1 to 16, and follow its journal; and the id counter is from 2^52 to 2^63 - 1
pub record IsState (st : StateParts) : Type 0 where
  pub follows : Follows st.store.journal st.applied
  pub shards : st.applied.shards ≡ st.store.shards
  pub least : 1 ≤ st.store.shards
  pub most : st.store.shards ≤ most_shards
  pub from_first : first_drawn_id ≤ st.store.next
  pub left : st.store.next ≤ greatest_id

-- one count per shard, none above the one at its place
abbrev pub AreUpTo : List ℕ → List ℕ → Type 0
AreUpTo [] [] = ⊤
AreUpTo (c ∷ cs) (a ∷ counts) = (c ≤ a) × AreUpTo cs counts
AreUpTo _ _ = ⊥

-- a transaction has touched groups at places that the journal has, and writes no id that isn't issued
abbrev pub IsTransaction : StoreParts → Option Transaction → Type 0
IsTransaction s None = ⊤
IsTransaction s (Some t) = All (λ touch. touch.place ≤ length s.journal) t.touched × AreIssued s.next t.writes

-- nothing was seen that isn't there
pub record IsSession (st : StateParts) (s : Session) : Type 0 where
  pub place_within : s.place ≤ length st.store.journal
  pub counts_within : AreUpTo s.counts st.applied.counts
  pub next_within : s.next_id ≤ st.store.next
  pub transaction_within : IsTransaction st.store s.transaction

-- of a state nothing is lost: commits, ids and entries are added
pub record Grows (old new : StateParts) : Type 0 where
  pub added : List Commit
  pub journal : new.store.journal ≡ old.store.journal ++ added
  pub next : old.store.next ≤ new.store.next
  pub counts : AreUpTo old.applied.counts new.applied.counts
