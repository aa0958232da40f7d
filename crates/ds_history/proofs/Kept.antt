-- What a map has at a key once a value was taken out or put in.
use Rattle.std.proofs.Common.{◌≡◌, Bool, true, false, cond, refl, Option}
use Rattle.std.specs.BTreeMap.{BTreeMap}
use Rattle.ds_base.specs.Keys.{KeyParts}
use Rattle.ds_log.specs.ShardCommits.{CommitsParts}
use Rattle.ds_history.specs.Versions.{Versions, entries_in, items_in, versions_at}
use Rattle.ds_history.specs.Writers.{numbers_in}

pub numbers_if : (b : Bool) (o p : Option CommitsParts) → numbers_in (cond b o p) ≡ cond b (numbers_in o) (numbers_in p)
numbers_if true o p = refl
numbers_if false o p = refl

pub items_if : (b : Bool) (o p : Option Versions) → items_in (cond b o p) ≡ cond b (items_in o) (items_in p)
items_if true o p = refl
items_if false o p = refl

pub versions_if : (k : KeyParts) (b : Bool) (o p : Option (BTreeMap KeyParts Versions))
    → versions_at (entries_in (cond b o p)) k ≡ cond b (versions_at (entries_in o) k) (versions_at (entries_in p) k)
versions_if k true o p = refl
versions_if k false o p = refl
