-- What an open request gathers by a step of its client.
use Rattle.std.specs.Prelude.{◌≡◌, ◌≤◌, IfSome, length}
use Rattle.ds_effects.specs.Gathered.{GatheredParts}
use Rattle.ds_machine.specs.States.{StateParts}
use Rattle.ds_core.specs.declared.opened.Open.{Open}

-- the open request has gathered this
abbrev pub with_gathered : GatheredParts → Open → Open
with_gathered g o = record o { gathered = g }

-- there is a place for the View of each shard, and the journal has its place
pub record IsSteppable (st : StateParts) (g : GatheredParts) : Type 0 where
  pub views : length g.views ≡ st.store.shards
  pub place : IfSome g.place (λ m. m ≤ length st.store.journal)
