-- What a reply tells of a page of rows.
use Rattle.std.specs.Prelude.{◌≡◌, ℕ, ◌<◌, ◌≤◌, Bool, true, false, List, map, length, slice_index_or, Option}
use Rattle.std.specs.List.Sorted.{IsSorted}
use Rattle.std.specs.Ordering.{is_lt}
use Rattle.ds_entity.specs.declared.results.Item.{Item}
use Rattle.ds_entity.specs.declared.results.Seen.{Seen}
use Rattle.ds_entity.specs.Entities.{EntityParts}
use Rattle.ds_entity.specs.EntityOrder.{entity_cmp}
use Rattle.ds_base.specs.KeyOrder.{key_cmp}
use Rattle.ds_base.specs.Keys.{KeyParts}
use Rattle.ds_bytes.specs.Rows.{RowParts}
use Rattle.ds_query.specs.declared.branch.Normal.{Normal}
use Rattle.ds_query.specs.declared.query.Select.{Select}
use Rattle.ds_query.specs.declared.row.Place.{Place}
use Rattle.ds_query.specs.declared.row.Row.{Row}
use Rattle.ds_reply.specs.declared.reply.Body.{Body}
use Rattle.ds_reply.specs.declared.reply.Body.TheVariants as body
use Rattle.ds_model.specs.Answers.{cursor_of}
use Rattle.ds_model.specs.Results.{items_of}
use Rattle.ds_protocol.specs.declared.searching.Search.{Search}

-- a row without its place
abbrev pub row_parts : Row → RowParts
row_parts r = record { values = r.values; key = r.key }

-- the entities stand in the order of their keys
abbrev pub AreByKey : List EntityParts → Type 0
AreByKey = IsSorted entity_cmp

-- what a statement or a query found
abbrev pub found : Bool → Select → List Item → Seen → Option (List ℕ) → Body
found true = body.Gql
found false = body.Query

-- what is told of these rows and this next place, where these entities were seen
abbrev pub found_of : Search → Normal → List EntityParts → List Row → Option Place → Seen → Body
found_of s n entities rows next seen =
    found s.statement s.query.select (items_of n.merged s.query.select entities (map row_parts rows)) seen
    (cursor_of s.cursor n.branches next)

-- ---- halving

-- the keys of so many entities in front come before this one, and those behind don't
pub record IsPlaceOf (entities : List EntityParts) (k : KeyParts) (place : ℕ) : Type 0 where
  pub within : place ≤ length entities
  pub before : (j : ℕ) (d : EntityParts) → j < place → is_lt (key_cmp (slice_index_or entities j d).key k) ≡ true
  pub behind : (j : ℕ) (d : EntityParts) → place ≤ j → j < length entities → is_lt (key_cmp (slice_index_or entities j d).key k) ≡ false
