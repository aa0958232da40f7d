-- The ids of a written key that the id counter gives.
use Rattle.std.specs.Prelude.{ℕ, ◌+◌, cond, nat_le}
use Rattle.ds_base.specs.declared.key.Ident.{Ident}
use Rattle.ds_base.specs.declared.key.Ident.TheVariants.{Id, Name}
use Rattle.ds_model.specs.Sessions.{first_id}

-- the counter above an id that only it gives
abbrev pub id_above : Ident → ℕ
id_above (Id n) = cond (nat_le first_id n) (n + 1) 0
id_above (Name x) = 0
