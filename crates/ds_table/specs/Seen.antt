-- What a view of a table is seen as.
use Rattle.std.specs.Prelude.{ℕ, List}
use Rattle.ds_table.specs.Versions.{RowVersion}

-- the versions of the table, and the stamp at which it is looked at
pub record Seen : Type 0 where
  pub versions : List RowVersion
  pub stamp : ℕ
