-- What a query finds among the entities of shards, and what it is joined from: each shard's own results.
use Rattle.std.specs.Prelude.{◌≡◌, ℕ, ◌+◌, List, [], ◌∷◌, length, map, flat_map, fold, drop, All, slice_get, Option, None, Some, cond}
use Rattle.std.specs.Prelude.{unwrap_or, ⊤, Bool, false, ◌&&◌}
use Rattle.std.specs.List.{AllByRecursion}
use Rattle.ds_base.specs.declared.column.Column.{Column}
use Rattle.ds_entity.specs.declared.results.Item.{Item}
use Rattle.ds_base.specs.Keys.{KeyParts, root_of}
use Rattle.ds_entity.specs.Entities.{EntityParts}
use Rattle.ds_bytes.specs.Rows.{RowParts}
use Rattle.ds_query.specs.declared.query.Select.{Select}
use Rattle.ds_query.specs.declared.query.Select.TheVariants as select
use Rattle.ds_query.specs.declared.branch.Branch.{Branch}
use Rattle.ds_query.specs.declared.branch.Normal.{Normal}
use Rattle.ds_query.specs.declared.branch.Window.{Window}
use Rattle.ds_query.specs.Reasons.{is_projection}
use Rattle.ds_query.specs.declared.row.Place.{Place}
use Rattle.ds_query.specs.declared.row.Row.{Row}
use Rattle.ds_log.specs.Shards.{shard_of}
use Rattle.ds_pages.specs.Extended.{extended}
use Rattle.ds_base.specs.Sorting.{sorted_by}
use Rattle.ds_pages.specs.Pages.{last_of, page_of, plus_limit, with_places}
use Rattle.ds_pages.specs.Places.{compare_rows}
use Rattle.ds_pages.specs.declared.row_page.RowPage.{RowPage}
use Rattle.ds_branch.specs.BoundSums.{bound_at, bound_of_all}
use Rattle.ds_model.specs.Bounds.{given}
use Rattle.ds_model.specs.Results.{items_of, item_of, result}
use Rattle.ds_engine.specs.Snapshots.{SnapshotParts, asked_in, entities_in}

-- ---- what is found

-- What a query finds over a list of entities: what it selects of the rows of its page, and the place where the next page begins. All
-- branches of a query select the same.
pub record IsResultOf (n : Normal) (w : Window) (entities : List EntityParts) (results : List Item) (next : Option Place) : Type 0 where
  pub told : All (λ q. results ≡ items_of n.merged q.select entities (result n w entities).rows) n.branches
  pub place : next ≡ (result n w entities).next

-- the page of it: the rows with their places among the merged columns
abbrev pub page_over : Normal → Window → List EntityParts → RowPage
page_over n w entities = with_places n.merged (result n w entities)

-- the page that the window cuts from rows that stand in their order, each once
pub record IsCutOf (w : Window) (all : List Row) (page : RowPage) : Type 0 where
  pub rows : page.rows ≡ drop w.offset all
  pub next : page.next ≡ last_of w.start all

-- the ancestor of a query, which all its branches have
abbrev pub ancestor_of : List Branch → Option KeyParts
ancestor_of [] = None
ancestor_of (q ∷ qs) = q.ancestor

-- the entities of all shards
abbrev pub all_entities : List (List EntityParts) → List EntityParts
all_entities = flat_map (λ entities. entities)

-- the shard of a key's group, among so many
abbrev pub shard_among : ℕ → KeyParts → ℕ
shard_among shards k = shard_of (root_of k) shards

-- the entities of each shard, from a first one on, are of its groups
abbrev pub AreOfShards : ℕ → ℕ → List (List EntityParts) → Type 0
AreOfShards shards first [] = ⊤
AreOfShards shards first (entities ∷ views) =
    AllByRecursion (λ (e : EntityParts). shard_among shards e.key ≡ first) entities × AreOfShards shards (first + 1) views

-- ---- what each shard gives

-- is a projection selected? All branches of a query select the same
abbrev pub selects_projection : List Branch → Bool
selects_projection [] = false
selects_projection (q ∷ qs) = is_projection q.select

-- How many results of a branch: as many as the page skips or takes. Of several branches the first row of each key is kept, and a branch
-- of a projection may have many rows of one key, so of these it is all.
abbrev pub most_of : Normal → Window → Option ℕ
most_of n w = cond (n.several && selects_projection n.branches) None (plus_limit w.offset w.limit)

-- a branch's rows in the columns of the query
abbrev pub in_columns : Normal → Branch → List RowParts → List RowParts
in_columns n q rows = cond n.several (map (extended n.merged q) rows) rows

-- what a branch gives of one shard
abbrev pub branch_rows : Normal → Window → List EntityParts → Branch → List RowParts
branch_rows n w entities q = in_columns n q (given q w.start w.end (most_of n w) entities)

-- what all branches give of one shard
abbrev pub shard_rows : Normal → Window → List EntityParts → List RowParts
shard_rows n w entities = flat_map (branch_rows n w entities) n.branches

-- what they give of all shards
abbrev pub rows_of_shards : Normal → Window → List (List EntityParts) → List RowParts
rows_of_shards n w = flat_map (shard_rows n w)

-- what one branch gives of a shard as it stands
abbrev pub given_in : Normal → Window → Branch → SnapshotParts → List RowParts
given_in n w q s = given q w.start w.end (most_of n w) (entities_in s)

-- what it gives of these shards
abbrev pub given_over : Normal → Window → Branch → List SnapshotParts → List RowParts
given_over n w q = flat_map (given_in n w q)

-- the page of rows in any order, of which each is a result of its own
abbrev pub page_in_order : List Column → Window → List RowParts → RowPage
page_in_order columns w rows = with_places columns (page_of columns w (sorted_by (compare_rows columns) rows))

-- the last of these places, or else the start
abbrev pub last_at : Option Place → List (List ℕ) → Option Place
last_at = fold (λ start place. Some (record { bytes = place }))

-- ---- what is told of a row

-- the entities of the shard of the key's group
abbrev pub view_of : List (List EntityParts) → KeyParts → List EntityParts
view_of views k = unwrap_or (slice_get views (shard_among (length views) k)) []

-- what is selected of a row, whose entity is looked up in its shard
abbrev pub item_in : List Column → Select → List (List EntityParts) → RowParts → Item
item_in columns selected views row = item_of columns selected (view_of views row.key) row

-- ---- steps

-- one look-up for each result where entities are selected
abbrev pub look_ups : Select → ℕ → ℕ
look_ups select.Entities results = results
look_ups select.Keys results = 0
look_ups (select.Projection names) results = 0

-- the most steps of the answer of one branch in one shard
abbrev pub bound_in : Window → Option ℕ → Branch → SnapshotParts → ℕ
bound_in w most q s = bound_at q w.start w.end most (asked_in s)

-- the most steps of the answers of all branches over all shards
abbrev pub search_bound : Normal → Window → Option ℕ → List SnapshotParts → ℕ
search_bound n w most snapshots = bound_of_all w.start w.end most (map asked_in snapshots) n.branches
