-- What a list of writes leaves: entities with distinct keys.
use Rattle.std.specs.Prelude.{List, [], ◌∷◌, ◌++◌, not, filter, fold}
use Rattle.ds_base.specs.Keys.{KeyParts}
use Rattle.ds_base.specs.KeyOrder.{same_key}
use Rattle.ds_entity.specs.Entities.{EntityParts}
use Rattle.ds_log.specs.declared.Write.{Write}
use Rattle.ds_log.specs.declared.Write.TheVariants.{Put, Delete}

-- the entities without the one of this key, if there is one
abbrev pub without : KeyParts → List EntityParts → List EntityParts
without k es = filter (λ e. not (same_key e.key k)) es

-- a put takes out the entity of its key and appends its own; a delete takes it out
abbrev pub apply_write : List EntityParts → Write → List EntityParts
apply_write es (Put e) = without e.key es ++ e ∷ []
apply_write es (Delete k) = without k es

-- the writes in turn, from no entity
abbrev pub after : List Write → List EntityParts
after = fold apply_write []
