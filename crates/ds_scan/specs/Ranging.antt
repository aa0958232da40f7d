-- The ranges of a plan's scans.
use Rattle.std.specs.Prelude.{List, map, Option}
use Rattle.ds_indexdef.specs.declared.IndexDef.{IndexDef}
use Rattle.ds_query.specs.declared.branch.Branch.{Branch}
use Rattle.ds_query.specs.declared.row.Place.{Place}
use Rattle.ds_planner.specs.declared.planned.PlannedScan.{PlannedScan}
use Rattle.ds_scan.specs.Ranges.{Range, Ranged}
use Rattle.ds_scan.specs.Prefixes.{scan_prefix}
use Rattle.ds_scan.specs.Bounds.{low_of, high_of}
use Rattle.ds_scan.specs.Stamped.{Stamped}

-- the rows of a planned scan: those that begin with what the scan is bound to, from where the branch's rows stand up to where they end
abbrev pub range_of : Branch → List IndexDef → Option Place → PlannedScan → Range
range_of q defs end s = record { prefix = scan_prefix q defs s; low = low_of q; high = high_of q end }

-- these ranges over tables at a stamp
abbrev pub ranges_over : {T : Type 0} → Stamped T → Branch → List IndexDef → Option Place → List PlannedScan → List (Ranged (Stamped T))
ranges_over at_stamp q defs end = map (λ s. record { rows = at_stamp; range = range_of q defs end s })
