-- How a pass of one store goes on from a pass of another one.
use Rattle.std.specs.Prelude.{◌≤◌, length}
use Rattle.ds_store_passes.specs.Answered.{AreAtLeast}
use Rattle.ds_store_passes.specs.Passes.{PassParts, counts_of}

-- A pass has seen no less than an earlier one, maybe of another store: place, counts and id counter are no lower, and it has seen the
-- commits up to the earlier one's place.
pub record IsNoLower (old new : PassParts) : Type 0 where
  pub journal : old.place ≤ length new.journal
  pub place : old.place ≤ new.place
  pub counts : AreAtLeast (counts_of old) (counts_of new)
  pub next : old.next ≤ new.next
