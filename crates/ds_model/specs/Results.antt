-- Filter, order and first occurrence: the results of a query over a list of entities, and the part of them that a window gives. What of
-- rows in their order is first, and what a window gives of them, is told by `ds_pages`.
use Rattle.std.specs.Prelude.{List, [], filter, map, flat_map, Option, None, cond}
use Rattle.std.specs.List.{find}
use Rattle.ds_base.specs.declared.column.Column.{Column}
use Rattle.ds_entity.specs.declared.results.Item.{Item}
use Rattle.ds_base.specs.Keys.{KeyParts}
use Rattle.ds_base.specs.KeyOrder.{same_key}
use Rattle.ds_entity.specs.Entities.{EntityParts}
use Rattle.ds_bytes.specs.Rows.{RowParts}
use Rattle.ds_query.specs.declared.query.Select.{Select}
use Rattle.ds_query.specs.declared.query.Select.TheVariants as select
use Rattle.ds_query.specs.declared.branch.Branch.{Branch}
use Rattle.ds_query.specs.declared.branch.Normal.{Normal}
use Rattle.ds_query.specs.declared.branch.Window.{Window}
use Rattle.ds_query.specs.declared.row.Place.{Place}
use Rattle.ds_query.specs.Filters.{projected}
pub use Rattle.ds_pages.specs.Columns.{value_named, value_in, projected_values}
pub use Rattle.ds_pages.specs.Extended.{asked_value, else_asked, extended}
pub use Rattle.ds_pages.specs.Pages.{first_of_each, same_mark, first_rows, is_after, is_up_to, is_between, at_most, plus_limit}
pub use Rattle.ds_pages.specs.Pages.{Page, last_place, page_of}
use Rattle.ds_model.specs.Rows.{rows}

-- ---- one branch

-- the rows between start and end, and of each mark the first: what a window skips and takes
abbrev pub branch_results : Branch → Option Place → Option Place → List EntityParts → List RowParts
branch_results q start end entities =
    first_rows q.columns (projected q.select) (filter (is_between q.columns start end) (rows q entities))

-- ---- several branches

-- the rows of all branches
abbrev pub united : Normal → List EntityParts → List RowParts
united n entities = flat_map (λ q. map (extended n.merged q) (rows q entities)) n.branches

-- ---- a query

-- where a query has `!=` or `in`, the first row of each key, without places; else the branch's
abbrev pub query_rows : Normal → Window → List EntityParts → List RowParts
query_rows n w entities =
    cond n.several (first_rows n.merged [] (united n entities))
    (flat_map (λ q. branch_results q w.start w.end entities) n.branches)

-- the page of a query over a list of entities
abbrev pub result : Normal → Window → List EntityParts → Page
result n w entities = page_of n.merged w (query_rows n w entities)

-- ---- what is told of a row

-- the entity of a key, if there is one
abbrev pub entity_of : List EntityParts → KeyParts → Option EntityParts
entity_of entities k = find (λ e. same_key e.key k) entities

-- an entity where entities are selected, the key alone, or the key with the projected values
abbrev pub item_of : List Column → Select → List EntityParts → RowParts → Item
item_of columns select.Entities entities row = record { key = row.key; entity = entity_of entities row.key; projected = [] }
item_of columns select.Keys entities row = record { key = row.key; entity = None; projected = [] }
item_of columns (select.Projection names) entities row =
    record { key = row.key; entity = None; projected = projected_values columns names row }

abbrev pub items_of : List Column → Select → List EntityParts → List RowParts → List Item
items_of columns selected entities = map (item_of columns selected entities)
