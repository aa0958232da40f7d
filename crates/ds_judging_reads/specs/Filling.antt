-- Which queries are answered by the first entities by key that fill the page.
use Rattle.std.specs.Prelude.{◌≡◌, ℕ, ◌≤◌, false, true, Some}
use Rattle.ds_base.specs.KeyColumn.{is_by_key}
use Rattle.ds_query.specs.declared.branch.Normal.{Normal}
use Rattle.ds_query.specs.declared.branch.Window.{Window}

-- The query has one branch, in the order of keys, and a limit, which isn't 0: as many results fill its page.
pub record IsFilledBy (n : Normal) (w : Window) (limit : ℕ) : Type 0 where
  pub single : n.several ≡ false
  pub by_key : is_by_key n.merged ≡ true
  pub limited : w.limit ≡ Some limit
  pub some : 1 ≤ limit
