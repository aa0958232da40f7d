-- No version ends before the stamp that a table keeps, whatever is done with them.
use Rattle.std.proofs.Common.{◌≡◌, ℕ, ◌<◌, ◌≤◌, Bool, true, false, ◌==◌, List, [], ◌∷◌, refl, ap, arith}
use Rattle.std.specs.Prelude.{if◌then◌else◌, Some, None, nat_lt}
use Rattle.std.specs.Option.{option_map}
use Rattle.std.specs.List.{cons_option}
use Rattle.std.proofs.lemmas.Bool.Decides.{nat_tests}
use Rattle.std.specs.List.{AllByRecursion as Each}
use Rattle.ds_table.specs.declared.change.Change.TheVariants.{Undo, Trim}
use Rattle.ds_table.specs.Versions.{RowVersion, never, is_below, is_alive, ended_at, with_version, added, closed}
use Rattle.ds_table.specs.Blocks.{EndFrom, versions_of}
use Rattle.ds_table.specs.Changes.{changed}

with_one : (due : ℕ) (v : RowVersion) (ws : List RowVersion) → due ≤ v.to → EndFrom due ws → EndFrom due (with_version v ws)
with_one due v [] b h = (b, tt)
with_one due v (w ∷ ws) b h = by (is_below v.row w.row) (with_one due v ws b h.1) where
  by : (c : Bool) → EndFrom due (with_version v ws) → EndFrom due (if c then v ∷ w ∷ ws else w ∷ with_version v ws)
  by true more = (b, h)
  by false more = (h.0, more)

pub added_later : (due : ℕ) (row : List ℕ) (stamp : ℕ) (vs : List RowVersion) → due ≤ never → EndFrom due vs → EndFrom due (added row stamp vs)
added_later due row stamp vs l h = with_one due (record { row = row; from = stamp; to = never }) vs l h

pub closed_later : (due after : ℕ) (row : List ℕ) (stamp : ℕ) (vs : List RowVersion) → after ≤ due → after ≤ stamp → EndFrom due vs → EndFrom after (closed row stamp vs)
closed_later due after row stamp [] l k h = tt
closed_later due after row stamp (v ∷ vs) l k h = (by (is_alive row v), closed_later due after row stamp vs l k h.1) where
  by : (c : Bool) → after ≤ (if c then ended_at stamp v else v).to
  by true = k
  by false = omega (arith, l, h.0)

pub undone_later : (due stamp : ℕ) (vs : List RowVersion) → due ≤ never → EndFrom due vs → EndFrom due (changed (Undo stamp) vs)
undone_later due stamp [] l h = tt
undone_later due stamp (v ∷ vs) l h = by (v.from == stamp) (v.to == stamp) (undone_later due stamp vs l h.1) where
  by : (a b : Bool) → EndFrom due (changed (Undo stamp) vs)
      → EndFrom due (cons_option (option_map (λ to. ended_at to v) (if a then None else (if b then Some never else Some v.to))) (changed (Undo stamp) vs))
  by true b more = more
  by false true more = (l, more)
  by false false more = (h.0, more)

-- a trim below that stamp changes nothing
pub none_due : (floor due : ℕ) → floor < due → (vs : List RowVersion) → EndFrom due vs → changed (Trim floor) vs ≡ vs
none_due floor due l [] h = refl
none_due floor due l (v ∷ vs) h =
    let t : nat_lt floor v.to ≡ true = above floor v.to (omega (arith, l, h.0)) in
    rw t (ap (λ l. v ∷ l) (none_due floor due l vs h.1))
  where
    above : (m n : ℕ) → m < n → nat_lt m n ≡ true
    above m n l = grind (arith, nat_tests)

-- an earlier stamp does, too
pub sooner : (due after : ℕ) (vs : List RowVersion) → after ≤ due → EndFrom due vs → EndFrom after vs
sooner due after [] l h = tt
sooner due after (v ∷ vs) l h = (omega (arith, l, h.0), sooner due after vs l h.1)

-- what the columns of a block say
pub columns_later : (due : ℕ) (rs : List (List ℕ)) (fs ts : List ℕ) → Each (λ to. due ≤ to) ts → EndFrom due (versions_of rs fs ts)
columns_later due [] fs ts h = tt
columns_later due (r ∷ rs) [] ts h = tt
columns_later due (r ∷ rs) (f ∷ fs) [] h = tt
columns_later due (r ∷ rs) (f ∷ fs) (t ∷ ts) h = (h.0, columns_later due rs fs ts h.1)
