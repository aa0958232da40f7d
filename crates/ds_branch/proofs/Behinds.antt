-- What is given of rows of which the first ones aren't asked for.
use Rattle.std.proofs.Common.{◌≡◌, false, List, [], ◌∷◌, Option, Some, None, drop, refl, sym, ap, ◌∙◌, arith}
use Rattle.ds_base.specs.declared.column.Column.{Column}
use Rattle.ds_query.specs.declared.row.Place.{Place}
use Rattle.ds_query.specs.declared.row.Row.{Row}
use Rattle.ds_pages.specs.Pages.{last_of}
use Rattle.ds_branch.specs.declared.behind.RowsBehind.{RowsBehind}
use Rattle.ds_branch.specs.Behind.{IsCollected}

-- where all are asked for, all are given
pub none_left : (columns : List Column) (rows : List Row) (given : RowsBehind) → IsCollected columns 0 false rows given → given.rows ≡ rows
none_left columns rows given is =
    let none : given.left ≡ 0 = omega (arith, is.left) in
    sym (ap (λ n. drop n given.rows) none) ∙ is.rows

-- the place of the last row, or else the start
pub last_else : (start : Option Place) (rows : List Row) (place : Place) → Some place ≡ last_of None rows → Some place ≡ last_of start rows
last_else start [] place is = absurd (cc is)
last_else start (row ∷ rows) place is = is

pub none_else : (start : Option Place) (rows : List Row) → None ≡ last_of None rows → start ≡ last_of start rows
none_else start [] is = refl
none_else start (row ∷ rows) is = absurd (some_last (row.place) rows is) where
  some_last : (place : Place) (rs : List Row) → None ≡ last_of (Some place) rs → ⊥
  some_last place [] is = cc is
  some_last place (r ∷ rs) is = some_last r.place rs is
