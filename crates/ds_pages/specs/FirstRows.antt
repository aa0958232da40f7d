-- Rows of which the first of each mark are kept.
use Rattle.std.specs.Prelude.{◌≡◌, ℕ, List, [], ◌∷◌, ◌++◌, Option, cond}
use Rattle.std.specs.List.{list_any}
use Rattle.std.specs.BTreeMap.{is_at}
use Rattle.std.specs.Ordering.{is_eq}
use Rattle.ds_query.specs.declared.row.Row.{Row}
use Rattle.ds_pages.specs.declared.marks.Mark.{Mark}
use Rattle.ds_pages.specs.Marks.{mark_cmp, mark_of, is_same}

-- where the projected values stand among those of a row, and the rows that were kept
pub record FirstsParts : Type 0 where
  pub slots : List (Option ℕ)
  pub rows : List Row

-- the rows with one more, which is kept where no row of its mark was
abbrev pub with_row : List (Option ℕ) → List Row → Row → List Row
with_row slots rows row = cond (list_any (is_same slots row) rows) rows (rows ++ row ∷ [])

-- the set of the marks of the rows
abbrev pub AreMarks : List (Option ℕ) → List Mark → List Row → Type 0
AreMarks slots keys rows = (m : Mark) → list_any (is_at (mark_cmp m)) keys ≡ list_any (λ r. is_eq (mark_cmp m (mark_of slots r))) rows
