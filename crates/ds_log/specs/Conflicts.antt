-- When a commit conflicts: a commit after the touch place of a group that it touched wrote that group. Groups only read are
-- touched too, so they count like those that are written (the Datastore's documentation on transactions; Megastore, which
-- keeps one log per group and commits at most one of the transactions that read the same place of it).
use Rattle.std.specs.Prelude.{◌≡◌, ℕ, ◌+◌, ◌≤◌, List, [], ◌∷◌, Bool, cond, nat_lt, length, take, slice_get, Option, Some, None}
use Rattle.std.specs.List.{All, list_any}
use Rattle.std.specs.Option.{option_or, option_map}
use Rattle.ds_base.specs.Keys.{KeyParts}
use Rattle.ds_base.specs.KeyOrder.{same_key}
use Rattle.ds_base.specs.Limits.{most_writes}
use Rattle.ds_log.specs.declared.Write.{Write}
use Rattle.ds_log.specs.declared.Touch.{Touch}
use Rattle.ds_log.specs.declared.Commit.{Commit}
use Rattle.ds_log.specs.declared.Conflict.{Conflict}
use Rattle.ds_log.specs.Logs.{group_of}

-- is one of the writes to this group?
abbrev pub writes_group : KeyParts → List Write → Bool
writes_group g = list_any (λ w. same_key (group_of w) g)

-- the last of the commits numbered from n that wrote the group; `earlier` where none of them did
abbrev pub last_writer_from : ℕ → Option ℕ → KeyParts → List Commit → Option ℕ
last_writer_from n earlier g [] = earlier
last_writer_from n earlier g (c ∷ cs) = last_writer_from (n + 1) (cond (writes_group g c.writes) (Some n) earlier) g cs

-- the last commit of the journal that wrote the group, if any did
abbrev pub last_writer : List Commit → KeyParts → Option ℕ
last_writer journal g = last_writer_from 1 None g journal

-- a commit, where it comes after the place
abbrev pub after_place : ℕ → Option ℕ → Option ℕ
after_place m None = None
after_place m (Some n) = cond (nat_lt m n) (Some n) None

-- the conflict of touched groups, numbered from i on, where `last` tells the last commit that wrote a group: the first group
-- that a commit after its touch place wrote, the last such commit, and the place of the check
abbrev pub conflict_from : (KeyParts → Option ℕ) → ℕ → ℕ → List Touch → Option Conflict
conflict_from last place i [] = None
conflict_from last place i (t ∷ ts) =
    option_or (option_map (λ n. record { group = i; commit = n; place = place }) (after_place t.place (last t.group)))
    (conflict_from last place (i + 1) ts)

-- the conflict that a commit with these touched groups has with the journal, if it has one
abbrev pub conflict_of : List Commit → List Touch → Option Conflict
conflict_of journal = conflict_from (last_writer journal) (length journal) 0

-- what a commit meets that follows these ones
pub record IsCommitted (before : List Commit) (c : Commit) : Type 0 where
  -- it has at most 500 writes
  pub few : length c.writes ≤ most_writes
  -- each touch place is below its number
  pub touched_before : All (λ t. t.place ≤ length before) c.touched
  -- nothing before it wrote one of its groups after the group's touch place
  pub serial : conflict_of before c.touched ≡ None

-- a journal of which each commit met this when it was appended: one serial history
abbrev pub IsSerial : List Commit → Type 0
IsSerial journal = (n : ℕ) (c : Commit) → slice_get journal n ≡ Some c → IsCommitted (take n journal) c
