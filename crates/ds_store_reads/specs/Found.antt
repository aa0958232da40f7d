-- What a look-up in a shard finds.
use Rattle.std.specs.Prelude.{◌≡◌, ℕ, ◌≤◌, ◌+◌, List, length}
use Rattle.ds_base.specs.Keys.{KeyParts}
use Rattle.ds_log.specs.declared.Entry.{Entry}
use Rattle.ds_model.specs.ByKey.{left_by}
use Rattle.ds_model.specs.Results.{entity_of}
use Rattle.ds_model.specs.Sessions.{last_commit}
use Rattle.ds_store_reads.specs.declared.looking_up.Found.{Found}
use Rattle.ds_store_reads.specs.declared.looking_up.Found.TheVariants as found

-- What a look-up at the stamp of so many entries finds: the entity that they leave; or the window doesn't reach back to them.
abbrev pub IsFound : List Entry → ℕ → ℕ → KeyParts → Found → Type 0
IsFound list entries window key (found.There entity) = entity ≡ entity_of (left_by list entries) key
IsFound list entries window key (found.Gone expired) =
    (expired.snapshot ≡ entries) × (expired.applied ≡ length list) × (expired.commit ≡ last_commit list) × (entries + window ≤ length list)
