-- How a table keeps its versions: in blocks, each with its rows and two columns of stamps.
use Rattle.std.specs.Prelude.{◌≡◌, ℕ, ◌+◌, ◌<◌, ◌≤◌, false, List, [], ◌∷◌, ◌++◌, length, slice_index_or}
use Rattle.std.specs.List.{AllByRecursion as Each}
use Rattle.ds_table.specs.Versions.{RowVersion, IsOfBytes, is_below, never}

-- what a table is seen as
pub record Tabled : Type 0 where
  -- the versions, block by block
  pub blocks : List (List RowVersion)
  -- the floor of the last trim, 0 before the first one
  pub floor : ℕ
  -- the greatest stamp given to `add`, `close` or `undo`, 0 before the first one
  pub last : ℕ
  -- the least stamp that may be given to `add` or `close` as far as trims say: above the floor of the last one
  pub least : ℕ
  -- the least stamp that may be given to `undo` as far as trims say: above each one given before the last trim, too
  pub least_undone : ℕ

-- the versions of all blocks, in their order
abbrev pub joined : List (List RowVersion) → List RowVersion
joined [] = []
joined (b ∷ bs) = b ++ joined bs

-- the versions of a table
abbrev pub versions : Tabled → List RowVersion
versions t = joined t.blocks

-- the versions of a block's three columns
abbrev pub versions_of : List (List ℕ) → List ℕ → List ℕ → List RowVersion
versions_of [] froms tos = []
versions_of (row ∷ rows) [] tos = []
versions_of (row ∷ rows) (from ∷ froms) [] = []
versions_of (row ∷ rows) (from ∷ froms) (to ∷ tos) = record { row = row; from = from; to = to } ∷ versions_of rows froms tos

-- the columns of a block are equally long, at most 256, and have room for that many, and no version ends before the stamp `due`
pub record IsBlock (rows : List (List ℕ)) (froms tos : List ℕ) (due froms_room tos_room : ℕ) : Type 0 where
  pub froms_long : length froms ≡ length rows
  pub tos_long : length tos ≡ length rows
  pub within : length rows ≤ 256
  pub not_due : Each (λ to. due ≤ to) tos
  pub froms_fit : 256 ≤ froms_room
  pub tos_fit : 256 ≤ tos_room

-- the one stands before the other: its row isn't above the other's, and of one row its life ends before the other's begins
pub record Precedes (v w : RowVersion) : Type 0 where
  pub not_above : is_below w.row v.row ≡ false
  pub apart : v.row ≡ w.row → v.to ≤ w.from

-- each version stands before each one behind it
abbrev pub IsOrdered : List RowVersion → Type 0
IsOrdered [] = Unit {0}
IsOrdered (v ∷ vs) = Each (Precedes v) vs × IsOrdered vs

-- no stamp of the version is above the last one given
pub record IsGiven (last : ℕ) (v : RowVersion) : Type 0 where
  pub from_given : v.from ≤ last
  pub to_given : (v.to ≡ never → ⊥) → v.to ≤ last

-- two blocks side by side have 128 versions together, and neither is empty
abbrev pub IsSpaced : List (List RowVersion) → Type 0
IsSpaced [] = Unit {0}
IsSpaced (a ∷ []) = Unit {0}
IsSpaced (a ∷ b ∷ bs) = ((0 < length a) × (0 < length b) × (128 ≤ length a + length b)) × IsSpaced (b ∷ bs)

-- Where a block of 256 versions may be split: each part has some, and together with the block beside it 128.
pub record IsCut (blocks : List (List RowVersion)) (i cut : ℕ) : Type 0 where
  pub some : 0 < cut
  pub not_all : cut < 256
  pub before : (j : ℕ) → i ≡ j + 1 → 128 ≤ length (slice_index_or blocks j []) + cut
  pub after : i + 1 < length blocks → 128 + cut ≤ 256 + length (slice_index_or blocks (i + 1) [])

-- What was enough for a block that had so many versions, to stand beside those around it, still is.
pub record IsFit (was : ℕ) (blocks : List (List RowVersion)) (i : ℕ) : Type 0 where
  pub some : 0 < was → 0 < length (slice_index_or blocks i [])
  pub before : (j : ℕ) → i ≡ j + 1 → 128 ≤ length (slice_index_or blocks j []) + was
      → 128 ≤ length (slice_index_or blocks j []) + length (slice_index_or blocks i [])
  pub behind : i + 1 < length blocks → 128 ≤ was + length (slice_index_or blocks (i + 1) [])
      → 128 ≤ length (slice_index_or blocks i []) + length (slice_index_or blocks (i + 1) [])

-- no version ends before the stamp `due`
abbrev pub EndFrom : ℕ → List RowVersion → Type 0
EndFrom due vs = Each (λ (v : RowVersion). due ≤ v.to) vs

-- what holds of the blocks of a table to which no stamp above `last` was given, that counts its versions, and of which none ends before
-- the stamp `due`
pub record IsTable (blocks : List (List RowVersion)) (last count due : ℕ) : Type 0 where
  pub ordered : IsOrdered (joined blocks)
  pub of_bytes : Each IsOfBytes (joined blocks)
  pub given : Each (IsGiven last) (joined blocks)
  pub spaced : IsSpaced blocks
  pub filled : Each (λ b. 0 < length b) blocks
  pub below_never : last < never
  pub counted : count ≡ length (joined blocks)
  pub not_due : EndFrom due (joined blocks)
  pub due_within : due ≤ never
