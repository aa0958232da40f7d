-- Rows with lifetimes: what a table holds, what is seen of it at a stamp, and what each call makes of it.
use Rattle.std.specs.Prelude.{ℕ, suc, Bool, true, ◌&&◌, ◌==◌, not, nat_le, nat_lt, if◌then◌else◌, List, [], ◌∷◌, Option, Some, None}
use Rattle.std.specs.Prelude.{map, filter, bytes_eq}
use Rattle.std.specs.List.{filter_map, list_any}
use Rattle.std.specs.Ordering.{is_lt}
use Rattle.ds_base.specs.Bytes.{AreBytes}
use Rattle.ds_base.specs.KeyOrder.{bytes_cmp}

-- A row, the stamp from which it is seen, and the one up to which, without it. A row that lives several times has a version
-- for each of its lives.
pub record RowVersion : Type 0 where
  pub row : List ℕ
  pub from : ℕ
  pub to : ℕ

-- the row of the version is bytes
abbrev pub IsOfBytes : RowVersion → Type 0
IsOfBytes v = AreBytes v.row

-- the end of a version that isn't closed, 2^64 - 1, which no stamp reaches
abbrev pub never : ℕ
never = 18446744073709551615

-- rows compare byte by byte, and one that another begins with comes first
abbrev pub is_below : List ℕ → List ℕ → Bool
is_below x y = is_lt (bytes_cmp x y)

-- the row is below the bound; without a bound each is
abbrev pub is_before : Option (List ℕ) → List ℕ → Bool
is_before None row = true
is_before (Some bound) row = is_below row bound

-- the row isn't below `at_least`, and is below `below` where that is given
abbrev pub in_range : List ℕ → Option (List ℕ) → List ℕ → Bool
in_range at_least below row = not (is_below row at_least) && is_before below row

-- added at or before the stamp, and not closed at or before it
abbrev pub is_seen : ℕ → RowVersion → Bool
is_seen at v = nat_le v.from at && nat_lt at v.to

-- a life of this row that isn't closed
abbrev pub is_alive : List ℕ → RowVersion → Bool
is_alive row v = bytes_eq v.row row && v.to == never

-- the row is alive: one of its versions isn't closed
abbrev pub has_alive : List ℕ → List RowVersion → Bool
has_alive row vs = list_any (is_alive row) vs

-- the rows that are seen at the stamp, in their order
abbrev pub seen_rows : ℕ → List RowVersion → List (List ℕ)
seen_rows at vs = map (λ v. v.row) (filter (is_seen at) vs)

-- the rows of the versions that aren't seen at the stamp, one for each version
abbrev pub unseen_rows : ℕ → List RowVersion → List (List ℕ)
unseen_rows at vs = map (λ v. v.row) (filter (λ v. not (is_seen at v)) vs)

-- the versions whose row is within the range
abbrev pub versions_within : List ℕ → Option (List ℕ) → List RowVersion → List RowVersion
versions_within at_least below vs = filter (λ v. in_range at_least below v.row) vs

-- how many versions come before the first one that is seen at the stamp: all of them where none is
abbrev pub unseen_before : ℕ → List RowVersion → ℕ
unseen_before at [] = 0
unseen_before at (v ∷ vs) = if is_seen at v then 0 else suc (unseen_before at vs)

-- the versions with a new one among them, which comes after each whose row isn't above its row
abbrev pub with_version : RowVersion → List RowVersion → List RowVersion
with_version v [] = v ∷ []
with_version v (w ∷ ws) = if is_below v.row w.row then v ∷ w ∷ ws else w ∷ with_version v ws

-- the versions after a row was added at the stamp
abbrev pub added : List ℕ → ℕ → List RowVersion → List RowVersion
added row stamp vs = with_version (record { row = row; from = stamp; to = never }) vs

-- a version whose life ends at the stamp
abbrev pub ended_at : ℕ → RowVersion → RowVersion
ended_at stamp v = record { row = v.row; from = v.from; to = stamp }

-- the versions after the life of a row was closed at the stamp
abbrev pub closed : List ℕ → ℕ → List RowVersion → List RowVersion
closed row stamp vs = map (λ v. if is_alive row v then ended_at stamp v else v) vs

-- what a version was before the calls at the stamp: none if it was added there, open if it was closed there
abbrev pub before_stamp : ℕ → RowVersion → Option RowVersion
before_stamp stamp v = if v.from == stamp then None else (if v.to == stamp then Some (ended_at never v) else Some v)

-- the versions before the calls at the stamp
abbrev pub undone : ℕ → List RowVersion → List RowVersion
undone stamp vs = filter_map (before_stamp stamp) vs

-- the versions that weren't closed at or before the floor
abbrev pub trimmed : ℕ → List RowVersion → List RowVersion
trimmed floor vs = filter (λ v. nat_lt floor v.to) vs
