-- The rows of a branch in the merged columns.
use Rattle.std.specs.Prelude.{List}
use Rattle.ds_base.specs.declared.column.Column.{Column}
use Rattle.ds_query.specs.declared.branch.Branch.{Branch}
use Rattle.ds_query.specs.declared.row.Row.{Row}
use Rattle.ds_pages.specs.Extended.{extended}
use Rattle.ds_pages.specs.Places.{parts_of, placed}

-- a branch's row in the merged columns, with its place there
abbrev pub in_merged : List Column → Branch → Row → Row
in_merged merged q r = placed merged (extended merged q (parts_of r))
