-- Which commits of a journal wrote an entity group.
use Rattle.std.specs.Prelude.{ℕ, zero, suc, ◌+◌, ◌==◌, List, [], ◌∷◌, ◌++◌, filter, Option, Some, None, slice_get, cond, flat_map, fold}
use Rattle.std.specs.Map.{lookup}
use Rattle.ds_entity.specs.Entities.{EntityParts}
use Rattle.ds_base.specs.Keys.{KeyParts}
use Rattle.ds_base.specs.KeyOrder.{same_key}
use Rattle.ds_log.specs.declared.Commit.{Commit}
use Rattle.ds_log.specs.declared.Write.{Write}
use Rattle.ds_log.specs.declared.Write.TheVariants.{Put, Delete}
use Rattle.ds_log.specs.Conflicts.{writes_group}
use Rattle.ds_log.specs.Logs.{key_of}
use Rattle.ds_log.specs.ShardCommits.{CommitsParts}
use Rattle.ds_log.specs.UpTo.{last_number}

-- the commits that wrote the group, in their order
abbrev pub writing : KeyParts → List Commit → List Commit
writing g = filter (λ c. writes_group g c.writes)

-- their numbers, where the first of all has the number n
abbrev pub writers_from : ℕ → KeyParts → List Commit → List ℕ
writers_from n g [] = []
writers_from n g (c ∷ cs) = cond (writes_group g c.writes) (n ∷ writers_from (n + 1) g cs) (writers_from (n + 1) g cs)

abbrev pub writers_of : KeyParts → List Commit → List ℕ
writers_of = writers_from 1

-- the commit of a number, which counts from 1
abbrev pub nth_commit : List Commit → ℕ → Option Commit
nth_commit journal zero = None
nth_commit journal (suc n) = slice_get journal n

-- the commits of numbers, of those that are numbers of one
abbrev pub if_there : Option Commit → List Commit
if_there None = []
if_there (Some c) = c ∷ []

abbrev pub commits_at : List Commit → List ℕ → List Commit
commits_at journal = flat_map (λ n. if_there (nth_commit journal n))

-- the last of numbers, if there is one
abbrev pub last_of : List ℕ → Option ℕ
last_of = fold (λ (o : Option ℕ) n. Some n) None

-- what a write leaves at a key: its entity where it puts one there, none where it deletes it, and else what was there
abbrev pub put_by : Write → Option EntityParts
put_by (Put e) = Some e
put_by (Delete k) = None

abbrev pub left_at : KeyParts → Option EntityParts → Write → Option EntityParts
left_at k earlier w = cond (same_key (key_of w) k) (put_by w) earlier

-- ---- as they are kept

abbrev pub numbers_in : Option CommitsParts → List ℕ
numbers_in None = []
numbers_in (Some c) = c.commits

-- the numbers that are noted for a group
abbrev pub noted_in : List (KeyParts × CommitsParts) → KeyParts → List ℕ
noted_in entries g = numbers_in (lookup (same_key g) entries)

-- the numbers with one more, which stands there only once
abbrev pub with_number : ℕ → List ℕ → List ℕ
with_number n numbers = cond (last_number numbers == n) numbers (numbers ++ n ∷ [])
