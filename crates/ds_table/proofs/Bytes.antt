-- The rows of all versions are bytes, whatever is done with them.
use Rattle.std.proofs.Common.{ℕ, ◌<◌, Bool, true, false, List, [], ◌∷◌, get_or, arith}
use Rattle.std.specs.Prelude.{if◌then◌else◌, Option, Some, None}
use Rattle.std.specs.Option.{option_map}
use Rattle.std.specs.List.{cons_option}
use Rattle.std.proofs.lemmas.List.{get_or_default}
use Rattle.ds_table.specs.declared.change.Change.{Change}
use Rattle.std.specs.List.{AllByRecursion as Each}
use Rattle.ds_table.specs.Versions.{RowVersion, IsOfBytes, never, is_below, is_alive, ended_at, with_version, added, closed}
use Rattle.ds_base.specs.Bytes.{AreBytes}
use Rattle.ds_table.specs.Changes.{kept_end, changed}

-- what is known of a slice of bytes
pub slice_of_bytes : (row : List ℕ) → ((i : ℕ) → get_or row i 0 < 256) → AreBytes row
slice_of_bytes row h k d b = let here = h k in let same = get_or_default row k d 0 b in omega (arith, here, same)

with_one : (v : RowVersion) (ws : List RowVersion) → AreBytes v.row → Each IsOfBytes ws → Each IsOfBytes (with_version v ws)
with_one v [] b h = (b, tt)
with_one v (w ∷ ws) b h = by (is_below v.row w.row) (with_one v ws b h.1) where
  by : (c : Bool) → Each IsOfBytes (with_version v ws) → Each IsOfBytes (if c then v ∷ w ∷ ws else w ∷ with_version v ws)
  by true more = (b, h)
  by false more = (h.0, more)

pub added_of_bytes : (row : List ℕ) (stamp : ℕ) (vs : List RowVersion) → AreBytes row → Each IsOfBytes vs → Each IsOfBytes (added row stamp vs)
added_of_bytes row stamp vs b h = with_one (record { row = row; from = stamp; to = never }) vs b h

pub closed_of_bytes : (row : List ℕ) (stamp : ℕ) (vs : List RowVersion) → Each IsOfBytes vs → Each IsOfBytes (closed row stamp vs)
closed_of_bytes row stamp [] h = tt
closed_of_bytes row stamp (v ∷ vs) h = (by (is_alive row v), closed_of_bytes row stamp vs h.1) where
  by : (c : Bool) → IsOfBytes (if c then ended_at stamp v else v)
  by true = h.0
  by false = h.0

pub changed_of_bytes : (change : Change) (vs : List RowVersion) → Each IsOfBytes vs → Each IsOfBytes (changed change vs)
changed_of_bytes change [] h = tt
changed_of_bytes change (v ∷ vs) h = by (kept_end change v.from v.to) (changed_of_bytes change vs h.1) where
  by : (o : Option ℕ) → Each IsOfBytes (changed change vs) → Each IsOfBytes (cons_option (option_map (λ to. ended_at to v) o) (changed change vs))
  by None more = more
  by (Some to) more = (h.0, more)
