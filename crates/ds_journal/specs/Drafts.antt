-- A prepared commit whose entity gets its id at the last moment.
use Rattle.std.specs.Prelude.{ℕ, List, [], ◌∷◌, Bool, false, map}
use Rattle.ds_base.specs.Keys.{renumbered, ends_in_id}
use Rattle.ds_log.specs.declared.Write.{Write}
use Rattle.ds_log.specs.declared.Write.TheVariants.{Put, Delete}
use Rattle.ds_log.specs.declared.Commit.{Commit}

-- one put, of an entity whose key ends in an id
abbrev pub is_one_put : List Write → Bool
is_one_put (Put e ∷ []) = ends_in_id e.key.elems
is_one_put _ = false

-- the write with another id at the end of its key
abbrev pub renumbered_write : ℕ → Write → Write
renumbered_write id (Put e) = Put (record e { key = renumbered e.key id })
renumbered_write id (Delete k) = Delete (renumbered k id)

abbrev pub renumbered_commit : Commit → ℕ → Commit
renumbered_commit c id = record c { writes = map (renumbered_write id) c.writes }
