-- The values so far and those of the columns that are left are all.
use Rattle.std.proofs.Common.{◌≡◌, ◌++◌, drop, map}
use Rattle.ds_pages.specs.Columns.{value_columns}
use Rattle.ds_pages.specs.Columns.{value_named}
use Rattle.ds_pages.specs.Extended.{asked_value, else_asked}
use Rattle.ds_pages.proofs.extending.extended_values.Given as goal

abbrev pub invariant-loop-column : goal.invariant-loop-column
invariant-loop-column l =
    l.all.items
    ++ map (λ c. else_asked (value_named c.name (value_columns l.branch.columns) l.values) (asked_value l.branch.equal c.name))
    (value_columns (drop l.column-index l.merged))
    ≡ map (λ c. else_asked (value_named c.name (value_columns l.branch.columns) l.values) (asked_value l.branch.equal c.name))
    (value_columns l.merged)
