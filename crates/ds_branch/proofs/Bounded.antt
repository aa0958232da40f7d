-- The steps of an answer are within the bound.
use Rattle.std.proofs.Common.{◌≡◌, ℕ, zero, suc, ◌+◌, ◌*◌, ◌≤◌, List, [], length, map, Bool, true, false, cond, refl, sym, ap}
use Rattle.std.proofs.Common.{◌∙◌, subst, Option, Some, None, arith}
use Rattle.std.specs.Prelude.{nat_lt, ◌==◌}
use Rattle.std.proofs.Math.Nat.{mul-le-mul_left}
use Rattle.std.proofs.lemmas.Bool.Decides.{nat_tests}
use Rattle.std.proofs.lemmas.List.{length-map, length-take}
use Rattle.std.proofs.lemmas.List.Folds.{fold-map}
use Rattle.ds_base.specs.declared.column.Column.{Column}
use Rattle.ds_bytes.specs.Rows.{RowParts}
use Rattle.ds_indexdef.specs.declared.IndexDef.{IndexDef}
use Rattle.ds_query.specs.declared.branch.Branch.{Branch}
use Rattle.ds_query.specs.declared.row.Place.{Place}
use Rattle.ds_query.specs.declared.row.Row.{Row}
use Rattle.ds_planner.specs.declared.planned.PlannedScan.{PlannedScan}
use Rattle.ds_planner.specs.Parts.{parts}
use Rattle.ds_planner.specs.Lean.{IsLean}
use Rattle.ds_planner.proofs.PlanLaws.{lean_few}
use Rattle.ds_rows.specs.Versions.{Version, entities_at}
use Rattle.ds_zigzag.specs.CommonStrings.{least_count, total_count}
use Rattle.ds_zigzag.specs.Walks.{steps_to_end, steps_up_to}
use Rattle.ds_model.specs.Results.{branch_results, last_place}
use Rattle.ds_model.specs.Bounds.{given, stop_at, part_rows, old, bound}
use Rattle.ds_base.specs.Least.{least_of}
use Rattle.ds_pages.specs.Pages.{last_of}
use Rattle.ds_pages.specs.Places.{placed}
use Rattle.ds_branch.specs.Places.{bytes_of, is_wanted, walk_steps}
use Rattle.ds_branch.specs.ScanLaws.{IsPlanned, plan_strings, plan_passed}
use Rattle.ds_branch.proofs.PartRows.{few_strings}

-- fewer scans, fewer strings and fewer passed ones make fewer steps
fewer_steps : (n m a b t o : ℕ) → n ≤ m → a ≤ b → t ≤ o → n * (2 * a + 2) + t ≤ m * (2 * b + 2) + o
fewer_steps n m a b t o p q r =
    let one : n * (2 * a + 2) ≤ n * (2 * b + 2) = mul-le-mul_left n (omega arith) in
    let two : (2 * b + 2) * n ≤ (2 * b + 2) * m = mul-le-mul_left (2 * b + 2) p in
    omega (arith, one, two, r)

fewer_rows : (n m a b t o : ℕ) → n ≤ m → a ≤ b → t ≤ o → n * (2 * a) + t ≤ m * (2 * b + 2) + o
fewer_rows n m a b t o p q r =
    let one : n * (2 * a) ≤ n * (2 * b + 2) = mul-le-mul_left n (omega arith) in
    let two : (2 * b + 2) * n ≤ (2 * b + 2) * m = mul-le-mul_left (2 * b + 2) p in
    omega (arith, one, two, r)

less_apart : (l m : ℕ) → nat_lt l m ≡ true → (l == m) ≡ false
less_apart l m e = grind (arith, nat_tests)

full_same : (l m : ℕ) → l ≤ m → nat_lt l m ≡ false → (l == m) ≡ true
full_same l m few e = grind (arith, nat_tests)

last_given : (columns : List Column) (rows : List RowParts) → last_of None (map (placed columns) rows) ≡ last_place columns None rows
last_given columns rows = fold-map (λ (place : Option Place) (row : Row). Some row.place) (placed columns) None rows

-- what is said of scans that are those of a plan is said of the plan's
pub moved_steps : (begun now : ℕ) (f : ℕ → List (List (List ℕ)) → List (List (List ℕ))
    → ℕ) (n n' : ℕ) (ss ss' ps ps' : List (List (List ℕ)))
    → n ≡ n' → ss ≡ ss' → ps ≡ ps' → now ≤ begun + f n ss ps → now ≤ begun + f n' ss' ps'
moved_steps begun now f n n' ss ss' ps ps' a b c h =
    subst (λ m. now ≤ begun + f m ss' ps') a (subst (λ ls. now ≤ begun + f n ls ps') b (subst (λ ls. now ≤ begun + f n ss ls) c h))

module _ (q : Branch) (defs : List IndexDef) (scans : List PlannedScan) (stamp : ℕ) (versions : List Version) (start end : Option Place)
    (planned : IsPlanned q defs scans stamp versions) (lean : IsLean q defs scans) where
  abbrev strings : List (List (List ℕ))
  strings = plan_strings q defs scans stamp versions end

  abbrev passed : List (List (List ℕ))
  passed = plan_passed q defs scans stamp versions end

  abbrev least_up_to : Option Place → ℕ
  least_up_to stop = least_of (map (λ part. length (part_rows q start end stop (entities_at stamp versions) part)) (parts q))

  to_end : steps_to_end (length scans) (bytes_of start) strings passed
      ≤ length (parts q) * (2 * least_up_to None + 2) + old q stamp versions
  to_end =
      let few = few_strings q defs scans stamp versions start end None planned in
      fewer_steps (length scans) (length (parts q)) (least_count (bytes_of start) None strings) (least_up_to None)
      (total_count (bytes_of start) None passed) (old q stamp versions) (lean_few q defs scans lean) few.0 (few.1 lean)

  up_to : (stop : Option Place) → steps_up_to (length scans) (bytes_of start) (bytes_of stop) strings passed
      ≤ length (parts q) * (2 * least_up_to stop + 2) + old q stamp versions
  up_to None = omega arith
  up_to (Some p) =
      let few = few_strings q defs scans stamp versions start end (Some p) planned in
      fewer_rows (length scans) (length (parts q)) (least_count (bytes_of start) (Some p.bytes) strings) (least_up_to (Some p))
      (total_count (bytes_of start) (Some p.bytes) passed) (old q stamp versions) (lean_few q defs scans lean) few.0 (few.1 lean)

  -- a refused answer may have looked at all
  pub refused_within : (begun now : ℕ) → now ≤ begun + steps_to_end (length scans) (bytes_of start) strings passed
      → now ≤ begun + bound q start end None stamp versions
  refused_within begun now within = let all = to_end in omega (arith, within, all)

  abbrev rows_given : Option ℕ → List RowParts
  rows_given most = given q start end most (entities_at stamp versions)

  given_few : (m : ℕ) → length (rows_given (Some m)) ≤ m
  given_few m =
      let l = length-take m (branch_results q start end (entities_at stamp versions)) in
      omega (arith, l)

  pub done_within : (most : Option ℕ) (begun now : ℕ) (found : List Row) → found ≡ map (placed q.columns) (rows_given most)
      → now ≤ begun + walk_steps (is_wanted most (length found)) (length scans) (bytes_of start) (bytes_of (last_of None found)) strings
      passed
      → now ≤ begun + bound q start end most stamp versions
  done_within None begun now found are within = let all = to_end in omega (arith, within, all)
  done_within (Some zero) begun now found are within =
      let none : found ≡ [] = are in
      let here = subst (λ rs. now ≤ begun + walk_steps (is_wanted (Some 0) (length rs)) (length scans) (bytes_of start) (bytes_of
      (last_of None rs)) strings passed) none within in
      omega (arith, here)
  done_within (Some (suc m)) begun now found are within = by (is_wanted (Some (suc m)) (length (rows_given (Some (suc m))))) refl where
    rows : List RowParts
    rows = rows_given (Some (suc m))

    long : length found ≡ length (rows_given (Some (suc m)))
    long = ap length are ∙ length-map (rows_given (Some (suc m))) (placed q.columns)

    last : last_of None found ≡ last_place q.columns None (rows_given (Some (suc m)))
    last = ap (last_of None) are ∙ last_given q.columns (rows_given (Some (suc m)))

    here : now ≤ begun + walk_steps (is_wanted (Some (suc m)) (length (rows_given (Some (suc m))))) (length scans) (bytes_of start)
        (bytes_of (last_place q.columns None (rows_given (Some (suc m))))) strings passed
    here =
        subst (λ l. now ≤ begun + walk_steps (is_wanted (Some (suc m)) l) (length scans) (bytes_of start) (bytes_of (last_place q.columns
        None (rows_given (Some (suc m))))) strings passed) long
        (subst (λ o. now ≤ begun + walk_steps (is_wanted (Some (suc m)) (length found)) (length scans) (bytes_of start) (bytes_of o)
        strings passed) last within)

    within_stop : (stop : Option Place) → stop_at q.columns (Some (suc m)) (rows_given (Some (suc m))) ≡ stop
        → now ≤ begun + (length (parts q) * (2 * least_up_to stop + 2) + old q stamp versions)
        → now ≤ begun + bound q start end (Some (suc m)) stamp versions
    within_stop stop e h = subst (λ o. now ≤ begun + (length (parts q) * (2 * least_up_to o + 2) + old q stamp versions)) (sym e) h

    by : (b : Bool) → is_wanted (Some (suc m)) (length (rows_given (Some (suc m)))) ≡ b → now
        ≤ begun + bound q start end (Some (suc m)) stamp versions
    by true e =
        let apart : (length (rows_given (Some (suc m))) == suc m) ≡ false = less_apart (length (rows_given (Some (suc m)))) (suc m) e in
        let steps = subst (λ b. now ≤ begun + walk_steps b (length scans) (bytes_of start) (bytes_of (last_place q.columns None
        (rows_given (Some (suc m))))) strings passed) e here in
        let all = to_end in
        within_stop None (ap (λ b. cond b (last_place q.columns None (rows_given (Some (suc m)))) None) apart) (omega (arith, steps, all))
    by false e =
        let same : (length (rows_given (Some (suc m))) == suc m) ≡ true =
        full_same (length (rows_given (Some (suc m)))) (suc m) (given_few (suc m)) e in
        let stop = last_place q.columns None (rows_given (Some (suc m))) in
        let steps = subst (λ b. now ≤ begun + walk_steps b (length scans) (bytes_of start) (bytes_of stop) strings passed) e here in
        let all = up_to stop in
        within_stop stop (ap (λ b. cond b stop None) same) (omega (arith, steps, all))

  -- the same where they are told by their number and the last place
  pub told_within : (most : Option ℕ) (begun now count : ℕ) (last : Option Place) (rows : List Row) → count ≡ length rows
      → last ≡ last_of None rows → rows ≡ map (placed q.columns) (rows_given most)
      → now ≤ begun + walk_steps (is_wanted most count) (length scans) (bytes_of start) (bytes_of last) strings passed
      → now ≤ begun + bound q start end most stamp versions
  told_within most begun now count last rows long at_last are within =
      done_within most begun now rows are
      (subst (λ o. now ≤ begun + walk_steps (is_wanted most (length rows)) (length scans) (bytes_of start) (bytes_of o) strings passed)
      at_last
      (subst (λ n. now ≤ begun + walk_steps (is_wanted most n) (length scans) (bytes_of start) (bytes_of last) strings passed) long
      within))
