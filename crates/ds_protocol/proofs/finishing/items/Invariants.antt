-- What is told of the rows so far, and of those that are left, is told of all.
use Rattle.ds_protocol.proofs.Words.{◌≡◌, ◌++◌, map}
use Rattle.ds_model.specs.Results.{items_of}
use Rattle.ds_protocol.specs.Finishing.{row_parts}
use Rattle.ds_protocol.proofs.finishing.items.Given as goal

abbrev pub invariant-loop-row : goal.invariant-loop-row
invariant-loop-row l =
    l.items.items ++ items_of l.columns l.select (map (λ e. e.now) l.entities) (map row_parts l.row-iterator.rest.items)
    ≡ items_of l.columns l.select (map (λ e. e.now) l.entities) (map row_parts l.fn.rows)
