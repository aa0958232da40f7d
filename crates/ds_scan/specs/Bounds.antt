-- From where to where the rows of a branch stand, as bytes: its range, its ancestor where the rows are in the order of keys, and the
-- end place. What stands behind a value or a key in a row never begins with the byte 255, which so ends what begins alike.
use Rattle.std.specs.Prelude.{ℕ, Bool, true, false, List, [], ◌∷◌, ◌++◌, Option, Some, None, cond, option_map, unwrap_or}
use Rattle.ds_base.specs.declared.column.Column.{Column}
use Rattle.ds_base.specs.declared.index_value.IndexValue.{IndexValue}
use Rattle.ds_base.specs.declared.index_value.IndexValue.TheVariants as class
use Rattle.ds_bytes.specs.Encoding.{encoding, key_encoding, key_front}
use Rattle.ds_base.specs.KeyColumn.{is_key_name, is_by_key}
use Rattle.ds_query.specs.declared.branch.Bound.{Bound}
use Rattle.ds_query.specs.declared.branch.Range.{Range}
use Rattle.ds_query.specs.declared.branch.Branch.{Branch}
use Rattle.ds_query.specs.declared.row.Place.{Place}
use Rattle.ds_table.specs.Versions.{is_below}

-- above all that may follow a value in a row
abbrev pub beyond : List ℕ
beyond = 0xff ∷ []

-- ---- the range

-- a value in a column: a key without its class in the column of keys
abbrev pub value_in_column : Bool → Bool → IndexValue → List ℕ
value_in_column true descending (class.Key k) = key_encoding descending k
value_in_column true descending _ = []
value_in_column false descending v = encoding descending v

-- what a row of these columns begins with that has the value in the first of them
abbrev pub begun_with : List Column → IndexValue → List ℕ
begun_with [] v = []
begun_with (c ∷ cs) v = value_in_column (is_key_name c.name) c.descending v

abbrev pub first_descends : List Column → Bool
first_descends [] = false
first_descends (c ∷ cs) = c.descending

-- from the bound on; behind all that begin with its value where it is exclusive
abbrev pub low_at : List Column → Option Bound → List ℕ
low_at columns None = []
low_at columns (Some b) = begun_with columns b.value ++ cond b.inclusive [] beyond

-- up to the bound; behind all that begin with its value where it is inclusive
abbrev pub high_at : List Column → Option Bound → Option (List ℕ)
high_at columns None = None
high_at columns (Some b) = Some (begun_with columns b.value ++ cond b.inclusive beyond [])

-- the bound that comes first in the order of the first column, and the one that comes last
abbrev pub first_bound : List Column → Range → Option Bound
first_bound columns r = cond (first_descends columns) r.upper r.lower

abbrev pub last_bound : List Column → Range → Option Bound
last_bound columns r = cond (first_descends columns) r.lower r.upper

-- ---- the ancestor

-- in the order of keys, ascending, the keys under an ancestor stand together
abbrev pub ancestor_low : Branch → List ℕ
ancestor_low q = cond (is_by_key q.columns) (unwrap_or (option_map key_front q.ancestor) []) []

abbrev pub ancestor_high : Branch → Option (List ℕ)
ancestor_high q = cond (is_by_key q.columns) (option_map (λ a. key_front a ++ beyond) q.ancestor) None

-- ---- both, and the end place

-- the greater of two strings
abbrev pub greater : List ℕ → List ℕ → List ℕ
greater a b = cond (is_below a b) b a

-- the lesser of two ends; no end is above each
abbrev pub lesser_end : Option (List ℕ) → Option (List ℕ) → Option (List ℕ)
lesser_end None b = b
lesser_end (Some a) None = Some a
lesser_end (Some a) (Some b) = Some (cond (is_below a b) a b)

-- the first string above a place
abbrev pub behind_place : Place → List ℕ
behind_place p = p.bytes ++ 0x00 ∷ []

-- the answer's rows stand from here on
abbrev pub low_of : Branch → List ℕ
low_of q = greater (low_at q.columns (first_bound q.columns q.range)) (ancestor_low q)

-- and below this
abbrev pub high_of : Branch → Option Place → Option (List ℕ)
high_of q end =
    lesser_end (lesser_end (high_at q.columns (last_bound q.columns q.range)) (ancestor_high q)) (option_map behind_place end)
