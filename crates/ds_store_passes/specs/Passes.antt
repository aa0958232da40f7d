-- What contracts see of a pass, and of the store.
use Rattle.std.specs.Prelude.{◌≡◌, ℕ, ◌≤◌, List, [], length, map, replicate, All}
use mathlib.Core.List.{IsPrefix}
use Rattle.ds_base.specs.Limits.{first_drawn_id}
use Rattle.ds_hub.specs.Growing.{AreLonger}
use Rattle.ds_log.specs.declared.Commit.{Commit}
use Rattle.ds_log.specs.declared.Entry.{Entry}

-- What one caller has seen and done.
pub record PassParts : Type 0 where
  -- the commits of the journal that it has seen
  pub journal : List Commit
  -- of each shard the entries that it has seen applied
  pub lists : List (List Entry)
  -- the place below which none of its reads stands any more: it may be beyond the commits that it has seen, where it saw an entry of a
  -- later commit applied
  pub place : ℕ
  -- the id counter: no id from here on was shown to it
  pub next : ℕ
  -- the numbers of its own commits, and the ids that it drew
  pub commits : List ℕ
  pub draws : List ℕ

-- a pass that has seen nothing, and done nothing
abbrev pub nothing_seen : ℕ → PassParts
nothing_seen shards =
    record { journal = []; lists = replicate shards []; place = 0; next = first_drawn_id; commits = []; draws = [] }

-- how many entries of each shard it has seen applied
abbrev pub counts_of : PassParts → List ℕ
counts_of p = map length p.lists

-- What a call leaves that reads: the lists begin with those before, and nothing is lowered; no own commit and no draw is added.
pub record HasRead (before after : PassParts) : Type 0 where
  pub journal : IsPrefix before.journal after.journal
  pub lists : AreLonger before.lists after.lists
  pub place : before.place ≤ after.place
  pub next : before.next ≤ after.next
  pub commits : after.commits ≡ before.commits
  pub draws : after.draws ≡ before.draws

-- What contracts see of a store: how many shards, and how many passes were made with it
pub record StoreParts : Type 0 where
  pub shards : ℕ
  pub passes : ℕ

-- each of a pass's own commits is one that it has seen
abbrev pub OwnSeen : List ℕ → List Commit → Type 0
OwnSeen commits journal = All (λ n. n ≤ length journal) commits
