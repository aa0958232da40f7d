-- Whether the kept puts have no more index rows than the limit allows, under the index file of this run.
use Rattle.std.specs.Prelude.{◌≡◌, ℕ, ◌+◌, List, [], ◌∷◌, Option, Some, None, Result, Ok, Err, ⊤}
use Rattle.std.specs.Option.{option_map, option_or}
use Rattle.ds_indexdef.specs.declared.IndexDef.{IndexDef}
use Rattle.ds_log.specs.declared.Commit.{Commit}
use Rattle.ds_row_limit.specs.ManyRows.{first_too_many}
use Rattle.ds_restoring.specs.declared.fitting.Unfit.{Unfit}
use Rattle.ds_restoring.specs.declared.fitting.Unfit.TheVariants as unfit

-- of commits, the first of which has this number, the first with such a put: its number, and the rows of its first such put
abbrev pub too_many_rows : List IndexDef → ℕ → List Commit → Option (ℕ × ℕ)
too_many_rows definitions number [] = None
too_many_rows definitions number (commit ∷ commits) =
    option_or (option_map (λ count. (number, count)) (first_too_many definitions commit.writes))
    (too_many_rows definitions (number + 1) commits)

-- what is told of a journal's commits
abbrev pub AreChecked : List IndexDef → List Commit → Result (Unit {0}) Unfit → Type 0
AreChecked definitions commits (Ok done) = too_many_rows definitions 1 commits ≡ None
AreChecked definitions commits (Err (unfit.TooManyRows commit count)) = too_many_rows definitions 1 commits ≡ Some (commit, count)
AreChecked definitions commits (Err unfit.NoMemory) = ⊤
