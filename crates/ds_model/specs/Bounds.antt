-- How many steps the answer of a branch over one shard may take: for each of its parts twice the fewest rows that one part has in the
-- range, and two more; and one for each row of a part over a version that isn't seen. It is our own profile; the Datastore's
-- documentation promises only that its time goes with the size of its result.
use Rattle.std.specs.Prelude.{ℕ, zero, ◌+◌, ◌*◌, min, List, [], ◌∷◌, Option, Some, None, ◌==◌, not, cond, length, filter, map, sum_by}
use Rattle.ds_base.specs.declared.column.Column.{Column}
use Rattle.ds_entity.specs.Entities.{EntityParts}
use Rattle.ds_base.specs.Least.{least_of}
use Rattle.ds_bytes.specs.Rows.{RowParts}
use Rattle.ds_query.specs.declared.branch.Branch.{Branch}
use Rattle.ds_query.specs.declared.row.Place.{Place}
use Rattle.ds_planner.specs.Parts.{Part, parts, branch_of_part}
use Rattle.ds_rows.specs.Versions.{Version, is_seen, entities_at}
use Rattle.ds_model.specs.Rows.{rows, place_of}
use Rattle.ds_model.specs.Results.{at_most, branch_results, is_between, is_up_to, last_place}

-- the results that are given: the first `most` between the places, or all
abbrev pub given : Branch → Option Place → Option Place → Option ℕ → List EntityParts → List RowParts
given q start end most entities = at_most most (branch_results q start end entities)

-- where `most` results were given, rows after the last of them aren't looked at
abbrev pub stop_at : List Column → Option ℕ → List RowParts → Option Place
stop_at columns None found = None
stop_at columns (Some most) found = cond (length found == most) (last_place columns None found) None

-- the rows of the branch of one part alone, as far as they are looked at
abbrev pub part_rows : Branch → Option Place → Option Place → Option Place → List EntityParts → Part → List RowParts
part_rows q start end stop entities part =
    filter (λ row. is_up_to stop (place_of q.columns row)) (filter (is_between q.columns start end) (rows (branch_of_part q part) entities))

-- of the branch's parts the least number of such rows; none where no result is asked for
abbrev pub least : Branch → Option Place → Option Place → Option ℕ → List EntityParts → ℕ
least q start end (Some zero) entities = 0
least q start end most entities =
    least_of
    (map (λ part. length (part_rows q start end (stop_at q.columns most (given q start end most entities)) entities part)) (parts q))

-- the entities of the versions that aren't seen at the stamp
abbrev pub unseen_at : ℕ → List Version → List EntityParts
unseen_at stamp versions = map (λ (v : Version). v.entity) (filter (λ v. not (is_seen stamp v)) versions)

-- of the branch's parts the number of rows of versions that aren't seen at the stamp, all together
abbrev pub old : Branch → ℕ → List Version → ℕ
old q stamp versions = sum_by (λ part. length (rows (branch_of_part q part) (unseen_at stamp versions))) (parts q)

-- the most steps of an answer at a stamp, over tables that keep these versions
abbrev pub bound : Branch → Option Place → Option Place → Option ℕ → ℕ → List Version → ℕ
bound q start end most stamp versions =
    length (parts q) * (2 * least q start end most (entities_at stamp versions) + 2) + old q stamp versions
