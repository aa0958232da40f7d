-- A cursor as text, and what a text stands for as a cursor of a branch.
use Rattle.std.specs.Prelude.{◌≡◌, ℕ, ◌+◌, ◌*◌, ◌^◌, Bool, true, false, not, ◌&&◌, ◌||◌, ◌==◌, nat_le, nat_eq, bytes_eq, cond}
use Rattle.std.specs.Prelude.{List, [], ◌∷◌, ◌++◌, length, take, drop, Option, Some, None, Result, Ok, Err}
use Rattle.std.specs.Result.{result_ok}
use Rattle.std.specs.List.{starts_with}
use Rattle.base64.specs.Engines.{standard}
use Rattle.base64.specs.GeneralPurpose.{decode_of, encode_of}
use Rattle.ds_base.specs.declared.column.Column.{Column}
use Rattle.ds_query.specs.declared.branch.Branch.{Branch}
use Rattle.ds_query.specs.declared.row.Place.{Place}
use Rattle.ds_cursor.specs.declared.cursor.CursorRefused.{CursorRefused}
use Rattle.ds_cursor.specs.declared.cursor.CursorRefused.TheVariants as refused
use Rattle.ds_cursor.specs.QueryBytes.{four_bytes, query_bytes, version_of}
use Rattle.ds_cursor.specs.RowsOfColumns.{IsRowOf}

-- ---- writing

-- the place before the first row, or behind a row
abbrev pub place_bytes : Option Place → List ℕ
place_bytes None = 0x00 ∷ []
place_bytes (Some place) = 0x01 ∷ place.bytes

-- the version, the length of the query bytes, the query bytes and the place
abbrev pub cursor_bytes : Branch → Option Place → List ℕ
cursor_bytes q place = version_of q ∷ four_bytes (length (query_bytes q)) ++ (query_bytes q ++ place_bytes place)

-- in base64 with padding
abbrev pub cursor_text : Branch → Option Place → List ℕ
cursor_text q place = encode_of standard (cursor_bytes q place)

-- ---- what stands in a text

-- what stands in a cursor of any query
pub record CursorParts : Type 0 where
  pub version : ℕ
  pub query : List ℕ
  pub place : List ℕ

-- version 2 is for namespaces other than the default, so its query bytes don't begin with the empty text
abbrev pub is_version : ℕ → List ℕ → Bool
is_version version query = (version == 1) || ((version == 2) && not (starts_with nat_eq query (0x00 ∷ 0x01 ∷ [])))

-- the query bytes are the first n; what follows them is the place
abbrev pub parts_with : ℕ → ℕ → List ℕ → Option CursorParts
parts_with version n rest =
    cond (nat_le n (length rest) && is_version version (take n rest))
    (Some (record { version = version; query = take n rest; place = drop n rest })) None

-- a version, a length in 4 bytes, so many query bytes, and the place; none where the bytes are no cursor of any query
abbrev pub parts_of_bytes : List ℕ → Option CursorParts
parts_of_bytes (version ∷ a ∷ b ∷ c ∷ d ∷ rest) = parts_with version (a * 2 ^ 24 + b * 2 ^ 16 + c * 2 ^ 8 + d) rest
parts_of_bytes _ = None

abbrev pub parts_of_decoded : Option (List ℕ) → Option CursorParts
parts_of_decoded None = None
parts_of_decoded (Some bytes) = parts_of_bytes bytes

-- strict base64 alone is decoded
abbrev pub parts_of : List ℕ → Option CursorParts
parts_of text = parts_of_decoded (result_ok (decode_of standard text))

abbrev pub is_of_branch : Branch → CursorParts → Bool
is_of_branch q parts = (parts.version == version_of q) && bytes_eq parts.query (query_bytes q)

-- ---- what a text is to a branch

-- a place in rows of these columns: before the first row, or behind one row
abbrev pub IsPlaceIn : List Column → Option Place → Type 0
IsPlaceIn columns None = Unit {0}
IsPlaceIn columns (Some row) = IsRowOf columns row.bytes

-- the bytes are those of this place in rows of these columns
pub record EncodesPlace (columns : List Column) (bytes : List ℕ) (place : Option Place) : Type 0 where
  pub written : bytes ≡ place_bytes place
  pub lawful : IsPlaceIn columns place

-- the place that the bytes stand for; a bad cursor where they stand for none
abbrev pub PlaceIs : List Column → List ℕ → Result (Option Place) CursorRefused → Type 0
PlaceIs columns bytes (Ok place) = EncodesPlace columns bytes place
PlaceIs columns bytes (Err refused.BadCursor) = (place : Option Place) → EncodesPlace columns bytes place → ⊥
PlaceIs columns bytes (Err refused.CursorMismatch) = ⊥
PlaceIs columns bytes (Err refused.NoMemory) = ⊥

-- a cursor of another query is a mismatch, whatever its place
abbrev pub OfBranch : Bool → List Column → List ℕ → Result (Option Place) CursorRefused → Type 0
OfBranch false columns place result = result ≡ Err refused.CursorMismatch
OfBranch true columns place result = PlaceIs columns place result

-- what is no cursor of any query is a bad cursor
abbrev pub PartsAre : Branch → Option CursorParts → Result (Option Place) CursorRefused → Type 0
PartsAre q None result = result ≡ Err refused.BadCursor
PartsAre q (Some parts) result = OfBranch (is_of_branch q parts) q.columns parts.place result

-- What a text is to a branch: a bad cursor where it is none of any query; a mismatch where it is one of another query; else
-- what its place is. There is exactly one such result.
abbrev pub CursorIs : Branch → List ℕ → Result (Option Place) CursorRefused → Type 0
CursorIs q text result = PartsAre q (parts_of text) result

-- why the text is no cursor, except when out of memory
abbrev pub cursor_fault : CursorRefused → Option CursorRefused
cursor_fault refused.BadCursor = Some refused.BadCursor
cursor_fault refused.CursorMismatch = Some refused.CursorMismatch
cursor_fault refused.NoMemory = None

-- ---- what a writer promises of its text

-- it is read as the place, where that is one in rows of the branch's columns
abbrev pub IsReadBack : Branch → Option Place → List ℕ → Type 0
IsReadBack q place text = IsPlaceIn q.columns place → CursorIs q text (Ok place)

-- it is a cursor of another query under each branch with other query bytes
abbrev pub IsOfOneQuery : Branch → List ℕ → Type 0
IsOfOneQuery q text = (other : Branch) → (query_bytes q ≡ query_bytes other → ⊥) → CursorIs other text (Err refused.CursorMismatch)
