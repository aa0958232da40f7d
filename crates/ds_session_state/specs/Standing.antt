-- Where a strong read is asked for.
use Rattle.std.specs.Prelude.{◌≡◌, ℕ, ◌≤◌, Option, Some, None, length}
use Rattle.ds_base.specs.Keys.{KeyParts}
use Rattle.ds_model.specs.Groups.{ReadsAt}
use Rattle.ds_model.specs.Sessions.{Session}
use Rattle.ds_store.specs.Passes.{PassParts}

-- a touched group's place is of commits that the pass has seen, and no higher than it stands
abbrev pub Touched : PassParts → ℕ → Type 0
Touched p m = (m ≤ length p.journal) × (m ≤ p.place)

-- A place at which a group may be read, as a client stands: where the group is touched at its touch place, and else at one that is no
-- lower than what the client has seen.
pub record MayReadAt (s : Session) (p : PassParts) (group : KeyParts) (m : ℕ) : Type 0 where
  pub stands : ReadsAt p.journal s group m
  pub touched : Touched p m

-- The place of a read: outside a transaction that of the read itself, and inside one a place at which the group might be read before.
abbrev pub AskedAt : Option ℕ → Session → PassParts → KeyParts → Type 0
AskedAt None s p group = s.transaction ≡ None
AskedAt (Some place) s p group = MayReadAt s p group place
