-- What the scans of a plan give.
use Rattle.std.proofs.Common.{◌≡◌, ℕ, List, [], ◌∷◌, length, map, refl, sym, ap, ◌∙◌, Option, Result, Ok, Err}
use Rattle.std.specs.Prelude.{OnErr}
use Rattle.std.proofs.lemmas.List.{length-map}
use Rattle.ds_indexdef.specs.declared.IndexDef.{IndexDef}
use Rattle.ds_query.specs.declared.branch.Branch.{Branch}
use Rattle.ds_query.specs.declared.row.Place.{Place}
use Rattle.ds_planner.specs.declared.planned.PlannedScan.{PlannedScan}
use Rattle.ds_rows.specs.Versions.{Version}
use Rattle.ds_scan.specs.Ranges.{Ranged, rests}
use Rattle.ds_scan.specs.Ranging.{range_of, ranges_over}
use Rattle.ds_branch.specs.ScanLaws.{plan_strings, plan_passed}
use Rattle.ds_scan.specs.Stamped.{Stamped, rows_at, rows_not_at}

-- what the scans of a plan give, over tables whose rows these are
pub strings_of_plan : {T : Type 0} (q : Branch) (defs : List IndexDef) (scans : List PlannedScan) (end : Option Place) (at_stamp :
    Stamped T)
    (rows : Stamped T → List (List ℕ))
    → map (λ (s : Ranged (Stamped T)). rests s.range (rows s.rows)) (ranges_over at_stamp q defs end scans)
    ≡ map (λ s. rests (range_of q defs end s) (rows at_stamp)) scans
strings_of_plan q defs [] end at_stamp rows = refl
strings_of_plan q defs (s ∷ scans) end at_stamp rows =
    ap (λ ls. rests (range_of q defs end s) (rows at_stamp) ∷ ls) (strings_of_plan q defs scans end at_stamp rows)

-- the strings of the scans that were made are those of the plan
pub plan_strings_are : {T : Type 0} (D : T → List IndexDef) (V : T
    → List Version) (q : Branch) (defs : List IndexDef) (scans : List PlannedScan)
    (stamp : ℕ) (end : Option Place) (tables : T) (items : List (Ranged (Stamped T)))
    → items ≡ ranges_over (record { tables = tables; stamp = stamp }) q defs end scans → defs ≡ D tables
    → map (λ (s : Ranged (Stamped T)). rests s.range (rows_at (D s.rows.tables) s.rows.stamp (V s.rows.tables))) items
    ≡ plan_strings q defs scans stamp (V tables) end
plan_strings_are {T = T} D V q defs scans stamp end tables items made definitions =
    let rows : Stamped T → List (List ℕ) = λ (s : Stamped T). rows_at (D s.tables) s.stamp (V s.tables) in
    ap (map (λ (s : Ranged (Stamped T)). rests s.range (rows s.rows))) made
    ∙ strings_of_plan q defs scans end (record { tables = tables; stamp = stamp }) rows
    ∙ ap (λ (ds : List IndexDef). map (λ (s : PlannedScan). rests (range_of q defs end s) (rows_at ds stamp (V tables))) scans) (sym
    definitions)

-- and so are those that they pass
pub plan_passed_are : {T : Type 0} (D : T → List IndexDef) (V : T
    → List Version) (q : Branch) (defs : List IndexDef) (scans : List PlannedScan)
    (stamp : ℕ) (end : Option Place) (tables : T) (items : List (Ranged (Stamped T)))
    → items ≡ ranges_over (record { tables = tables; stamp = stamp }) q defs end scans → defs ≡ D tables
    → map (λ (s : Ranged (Stamped T)). rests s.range (rows_not_at (D s.rows.tables) s.rows.stamp (V s.rows.tables))) items
    ≡ plan_passed q defs scans stamp (V tables) end
plan_passed_are {T = T} D V q defs scans stamp end tables items made definitions =
    let rows : Stamped T → List (List ℕ) = λ (s : Stamped T). rows_not_at (D s.tables) s.stamp (V s.tables) in
    ap (map (λ (s : Ranged (Stamped T)). rests s.range (rows s.rows))) made
    ∙ strings_of_plan q defs scans end (record { tables = tables; stamp = stamp }) rows
    ∙ ap (λ (ds : List IndexDef). map (λ (s : PlannedScan). rests (range_of q defs end s) (rows_not_at ds stamp (V tables))) scans) (sym
    definitions)

pub as_many_scans : {T : Type 0} (q : Branch) (defs : List IndexDef) (scans : List PlannedScan) (end : Option Place) (at_stamp : Stamped T)
    (items : List (Ranged (Stamped T))) → items ≡ ranges_over at_stamp q defs end scans → length items ≡ length scans
as_many_scans q defs scans end at_stamp items made =
    ap length made ∙ length-map scans (λ (s : PlannedScan). record { rows = at_stamp; range = range_of q defs end s })

pub on_err : {A E P Q : Type 0} (r : Result A E) → OnErr r P → (P → Q) → OnErr r Q
on_err (Ok a) p f = tt
on_err (Err e) p f = f p
