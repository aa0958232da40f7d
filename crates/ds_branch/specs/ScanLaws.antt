-- What is claimed of planned scans: that the strings behind what a scan's rows begin with are the rows of what it binds.
use Rattle.std.specs.Prelude.{◌≡◌, ◌≤◌, ◌↔◌, ◌&&◌, ℕ, length, true, List, [], ◌∷◌, ◌++◌, All, Contains, IsTrue, Option, cond, filter, map}
use Rattle.ds_entity.specs.Entities.{EntityParts}
use Rattle.ds_base.specs.Sorting.{sorted_by}
use Rattle.ds_bytes.specs.Rows.{RowParts, IsRow}
use Rattle.ds_indexdef.specs.declared.IndexDef.{IndexDef}
use Rattle.ds_indexdef.specs.Definitions.{AreDefs}
use Rattle.ds_query.specs.declared.branch.Branch.{Branch}
use Rattle.ds_query.specs.declared.row.Place.{Place}
use Rattle.ds_query.specs.Lawful.{IsLawfulBranch}
use Rattle.ds_planner.specs.declared.planned.PlannedScan.{PlannedScan}
use Rattle.ds_base.specs.KeyColumn.{is_by_key}
use Rattle.ds_base.specs.Least.{least_of}
use Rattle.ds_planner.specs.Lean.{IsLean}
use Rattle.ds_planner.specs.Parts.{parts}
use Rattle.ds_planner.specs.Suits.{is_scan, suits}
use Rattle.ds_rows.specs.Indexable.{IsIndexable}
use Rattle.ds_rows.specs.Rows.{rows_of}
use Rattle.ds_rows.specs.Versions.{Version, entities_at, AreTables}
use Rattle.ds_scan.specs.Ranges.{rests}
use Rattle.ds_table.specs.Versions.{in_range}
use Rattle.ds_zigzag.specs.CommonStrings.{least_count, total_count}
use Rattle.ds_cursor.specs.RowsOfColumns.{directions}
use Rattle.ds_model.specs.Rows.{rows, place_of, compare_rows, first_value, is_within, is_under}
use Rattle.ds_model.specs.Results.{is_between, is_up_to}
use Rattle.ds_model.specs.Bounds.{part_rows, old}
use Rattle.ds_scan.specs.Bounds.{low_of, high_of}
use Rattle.ds_branch.specs.Common.{AreCommonRows}
use Rattle.ds_branch.specs.Places.{bytes_of}
use Rattle.ds_scan.specs.Prefixes.{scan_prefix}
use Rattle.ds_scan.specs.Ranging.{range_of}
use Rattle.ds_scan.specs.Scans.{scan_branch, IsLawfulScan, IsLawfulEnds}
use Rattle.ds_scan.specs.Stamped.{rows_at, rows_not_at}

-- An entity has a row that begins with what a scan is bound to exactly where what follows is the place of one of its rows under
-- the pairs and the ancestor that the scan binds.
abbrev pub ScansTellRows : Type 0
ScansTellRows =
    (defs : List IndexDef) (q : Branch) (s : PlannedScan) (e : EntityParts) → AreDefs defs → IsLawfulBranch q
    → IsTrue (is_scan q defs s) → IsLawfulScan defs s → IsIndexable e → (x : List ℕ)
    → Contains (rows_of defs e) (scan_prefix q defs s ++ x) ↔ Contains (map (place_of q.columns) (rows (scan_branch q s) (e ∷ []))) x

-- A row stands between the bounds exactly where its first value is in the branch's range, its key is under the ancestor where the rows
-- are in the order of keys, and its place is up to the end.
abbrev pub BoundsTellRows : Type 0
BoundsTellRows =
    (q : Branch) (end : Option Place) (r : RowParts) → IsLawfulBranch q → IsLawfulEnds q → IsRow (directions q.columns) r
    → in_range (low_of q) (high_of q end) (place_of q.columns r)
    ≡ (is_within q.range (first_value r) && (cond (is_by_key q.columns) (is_under q.ancestor r.key) true
    && is_up_to end (place_of q.columns r)))

-- what an answer stands on: a lawful branch, a plan that suits it, tables at a stamp, and values and keys that have an encoding
pub record IsPlanned (q : Branch) (defs : List IndexDef) (scans : List PlannedScan) (stamp : ℕ) (versions : List Version) : Type 0 where
  pub branch : IsLawfulBranch q
  pub suits : IsTrue (suits q defs scans)
  pub tables : AreTables defs stamp versions
  pub lawful : All (IsLawfulScan defs) scans
  pub ends : IsLawfulEnds q

-- the strings of the scans of a plan
abbrev pub plan_strings : Branch → List IndexDef → List PlannedScan → ℕ → List Version → Option Place → List (List (List ℕ))
plan_strings q defs scans stamp versions end = map (λ s. rests (range_of q defs end s) (rows_at defs stamp versions)) scans

-- the branch's rows between the places, in order
abbrev pub rows_between : Branch → Option Place → Option Place → List EntityParts → List RowParts
rows_between q start end entities = sorted_by (compare_rows q.columns) (filter (is_between q.columns start end) (rows q entities))

-- The strings that the scans have in common after the start are the places of the branch's rows between the start and the end.
abbrev pub PlansTellRows : Type 0
PlansTellRows =
    (q : Branch) (defs : List IndexDef) (scans : List PlannedScan) (stamp : ℕ) (versions : List Version) (start end : Option Place)
    → IsPlanned q defs scans stamp versions
    → AreCommonRows q.columns (bytes_of start) (plan_strings q defs scans stamp versions end)
    (rows_between q start end (entities_at stamp versions))

-- the passed strings of the scans of a plan
abbrev pub plan_passed : Branch → List IndexDef → List PlannedScan → ℕ → List Version → Option Place → List (List (List ℕ))
plan_passed q defs scans stamp versions end = map (λ s. rests (range_of q defs end s) (rows_not_at defs stamp versions)) scans

-- Between two places some scan has no more strings than any part has rows, and where each scan has a part of its own the scans pass no
-- more strings than the parts have rows of versions that aren't seen.
abbrev pub ScansHaveFewStrings : Type 0
ScansHaveFewStrings =
    (q : Branch) (defs : List IndexDef) (scans : List PlannedScan) (stamp : ℕ) (versions : List Version) (start end stop : Option Place)
    → IsPlanned q defs scans stamp versions
    → (least_count (bytes_of start) (bytes_of stop) (plan_strings q defs scans stamp versions end)
    ≤ least_of (map (λ part. length (part_rows q start end stop (entities_at stamp versions) part)) (parts q)))
    × (IsLean q defs scans → total_count (bytes_of start) (bytes_of stop) (plan_passed q defs scans stamp versions end)
    ≤ old q stamp versions)
