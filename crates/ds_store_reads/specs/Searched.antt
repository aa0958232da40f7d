-- What queries without an ancestor answer, over what their pass had seen before and has seen after.
use Rattle.std.specs.Prelude.{◌≡◌, ℕ, max}
use Rattle.ds_entity.specs.declared.results.Seen.{Seen}
use Rattle.ds_engine.specs.Counted.{IsCounted}
use Rattle.ds_store_passes.specs.Passes.{PassParts, HasRead}

-- A query without an ancestor counts all entries that its pass has then seen applied, and looks at no commit. The pass stands no lower
-- than the last commit of these entries.
pub record HasCounted (before after : PassParts) (saw : Seen) (beside : ℕ) : Type 0 where
  pub read : HasRead before after
  pub journal : after.journal ≡ before.journal
  pub counted : IsCounted after.lists saw beside
  pub place : after.place ≡ max before.place beside
