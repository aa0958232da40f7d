-- The rows so far and those of the ways that are left are all.
use Rattle.std.proofs.Common.{◌≡◌, ◌++◌, map}
use Rattle.std.specs.Prelude.{filter}
use Rattle.ds_rows.specs.IndexedValues.{each_way}
use Rattle.ds_plain.specs.FoundRows.{found_of, is_in}
use Rattle.ds_plain.proofs.found.put_entity.Given as goal

abbrev pub invariant-loop-values : goal.invariant-loop-values
invariant-loop-values l =
    l.found.items ++ filter (is_in l.branch.range) (map (found_of l.entity.key) l.values-iterator.rest.items)
    ≡ l.initial.found.items ++ filter (is_in l.branch.range) (map (found_of l.entity.key) (each_way l.lists.items))
