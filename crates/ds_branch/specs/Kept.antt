-- Rows that are kept as they are reached.
use Rattle.std.specs.Prelude.{◌≡◌, ◌+◌, ◌<◌, ◌≤◌, ℕ, Bool, true, false, not, ◌||◌, List, [], ◌∷◌, ◌++◌, All, Option, Some, None, cond, drop}
use Rattle.std.specs.Prelude.{length, map, nat_eq}
use Rattle.std.specs.List.{list_all, list_any}
use Rattle.std.specs.Cmp.Lexicographic.{pointwise}
use Rattle.ds_base.specs.declared.column.Column.{Column}
use Rattle.ds_base.specs.KeyColumn.{is_key_name, key_descends}
use Rattle.ds_base.specs.KeyOrder.{same_key}
use Rattle.ds_bytes.specs.Encoding.{key_encoding}
use Rattle.ds_query.specs.Reasons.{has_name}
use Rattle.ds_query.specs.declared.row.Row.{Row}
use Rattle.ds_pages.specs.FirstRows.{with_row}
use Rattle.ds_pages.specs.Marks.{is_same}
use Rattle.ds_pages.specs.Pages.{last_of}
use Rattle.ds_pages.specs.Places.{IsPlaced, parts_of}
use Rattle.ds_branch.specs.Behind.{ArePlaces}
use Rattle.ds_branch.specs.declared.kept.KeptRows.{KeptRows}

-- Each value of a row of these columns is projected, so that a row is told by its mark; where there are no values a row is its key.
abbrev pub are_projected : List (List ℕ) → List Column → Bool
are_projected names = list_all (λ c. is_key_name c.name || has_name names c.name)

-- whether a row is left out: where all are taken it isn't, and else where a row of its mark was taken
abbrev pub is_known : Bool → List (Option ℕ) → List Row → Row → Bool
is_known true slots rows row = false
is_known false slots rows row = list_any (is_same slots row) rows

-- the rows with one more, which is taken where all are, and else where no row of its mark was
abbrev pub with_one : Bool → List (Option ℕ) → List Row → Row → List Row
with_one true slots rows row = rows ++ row ∷ []
with_one false slots rows row = with_row slots rows row

-- the rows with one more, if it is new
abbrev pub with_row_if : Bool → List Row → Row → List Row
with_row_if is_new rows row = cond is_new (rows ++ row ∷ []) rows

-- those behind the first `skip`, and how many of these there are
pub record IsBehind (skip skipped : ℕ) (kept rows : List Row) : Type 0 where
  pub are : kept ≡ drop skip rows
  pub long : skipped + length kept ≡ length rows
  pub few : skipped ≤ skip

-- the set of the keys of the rows, each as its bytes in this direction
abbrev pub AreKeyBytes : Bool → List (List ℕ) → List Row → Type 0
AreKeyBytes descending keys rows = (bytes : List ℕ) → list_any (pointwise nat_eq bytes) keys
    ≡ list_any (λ (r : Row). pointwise nat_eq bytes (key_encoding descending r.key)) rows

-- the rows behind the first ones, and the set of the keys of all
pub record AreOfKeys (columns : List Column) (skip skipped : ℕ) (kept : List Row) (keys : List (List ℕ)) (rows : List Row) : Type 0 where
  pub behind : IsBehind skip skipped kept rows
  pub known : AreKeyBytes (key_descends columns) keys rows
  pub placed : All (IsPlaced columns) rows

-- the same with a row more, if its key is new
pub record IsPutByKey (columns : List Column) (skip skipped : ℕ) (kept : List Row) (keys : List (List ℕ)) (rows : List Row) (row : Row)
    (is_new : Bool) : Type 0 where
  pub are : AreOfKeys columns skip skipped kept keys (with_row_if is_new rows row)
  pub new : is_new ≡ not (list_any (λ (r : Row). same_key row.key r.key) rows)

-- What is kept tells the rows that were taken: those behind the first ones where all are taken or of each key the first, and else all.
pub record AreTold (columns : List Column) (k : KeptRows) (rows : List Row) : Type 0 where
  pub bare : k.by_key ≡ true → k.firsts.slots ≡ []
  pub all : k.keeps_all ≡ true → IsBehind k.skip k.skipped k.whole.items rows
  pub keys : k.keeps_all ≡ false → k.by_key ≡ true → AreOfKeys columns k.skip k.skipped k.whole.items k.keys.keys rows
  pub marks : k.keeps_all ≡ false → k.by_key ≡ false → k.firsts.rows ≡ rows
  pub placed : All (IsPlaced columns) rows

-- and the place of the last one, and where places are kept those of all
pub record AreKept (columns : List Column) (k : KeptRows) (rows : List Row) : Type 0 where
  pub told : AreTold columns k rows
  pub last : 0 < length rows → last_of None rows ≡ Some (record { bytes = k.last.items })
  pub places : k.keeps_places ≡ true → ArePlaces columns (map parts_of rows) k.places.items

-- what stays the same as rows are put
pub record IsSameKind (before after : KeptRows) : Type 0 where
  pub all : after.keeps_all ≡ before.keeps_all
  pub slots : after.firsts.slots ≡ before.firsts.slots
  pub skip : after.skip ≡ before.skip
  pub places : after.keeps_places ≡ before.keeps_places
