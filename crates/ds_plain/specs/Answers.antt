-- What a query finds, as a page.
use Rattle.std.specs.Prelude.{List, map}
use Rattle.ds_base.specs.declared.column.Column.{Column}
use Rattle.ds_entity.specs.Entities.{EntityParts}
use Rattle.ds_query.specs.declared.branch.Branch.{Branch}
use Rattle.ds_query.specs.declared.branch.Normal.{Normal}
use Rattle.ds_query.specs.declared.branch.Window.{Window}
use Rattle.ds_query.specs.declared.row.Row.{Row}
use Rattle.ds_model.specs.Rows.{rows}
use Rattle.ds_model.specs.Results.{result}
use Rattle.ds_pages.specs.declared.row_page.RowPage.{RowPage}
use Rattle.ds_pages.specs.Extended.{extended}
use Rattle.ds_pages.specs.Pages.{with_places}
use Rattle.ds_pages.specs.Places.{placed}

-- the page of a query over a list of entities, its rows with their places among the merged columns
abbrev pub query_page : Normal → Window → List EntityParts → RowPage
query_page n w entities = with_places n.merged (result n w entities)

-- the rows of a branch in the merged columns, with their places there
abbrev pub branch_list : List Column → List EntityParts → Branch → List Row
branch_list merged entities q = map (placed merged) (map (extended merged q) (rows q entities))
