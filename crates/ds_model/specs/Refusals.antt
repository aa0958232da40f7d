-- The refusals that the line and the session before decide, each request's in its order: the first that holds is answered.
use Rattle.std.specs.Prelude.{◌≡◌, ℕ, Bool, true, false, nat_lt, ◌&&◌, min, List, [], ◌∷◌, Option, Some, None, Result, Ok, Err, cond, ⊤}
use Rattle.ds_entity.specs.declared.entity.EntityRefused.{EntityRefused}
use Rattle.ds_entity.specs.declared.entity.EntityRefused.TheVariants as entity
use Rattle.ds_base.specs.declared.key.Elem.{Elem}
use Rattle.ds_base.specs.Keys.{KeyParts, root_of}
use Rattle.ds_entity.specs.Entities.{EntityParts, entity_refusal}
use Rattle.ds_base.specs.Limits.{most_index_rows, greatest_told}
use Rattle.ds_indexdef.specs.declared.IndexDef.{IndexDef}
use Rattle.ds_query.specs.declared.field.Field.{Field}
use Rattle.ds_query.specs.declared.field.Field.TheVariants as field
use Rattle.ds_query.specs.declared.query.Query.{Query}
use Rattle.ds_query.specs.declared.branch.Branch.{Branch}
use Rattle.ds_query.specs.declared.branch.Normal.{Normal}
use Rattle.ds_query.specs.declared.row.Place.{Place}
use Rattle.ds_query.specs.declared.refusal.QueryRefused.{QueryRefused}
use Rattle.ds_query.specs.declared.refusal.QueryRefused.TheVariants as query
use Rattle.ds_query.specs.Normals.{normal_of, normal_form}
use Rattle.ds_cursor.specs.declared.cursor.CursorRefused.{CursorRefused}
use Rattle.ds_cursor.specs.declared.cursor.CursorRefused.TheVariants as cursor
use Rattle.ds_cursor.specs.Cursors.{CursorIs}
use Rattle.ds_planner.specs.Missing.{Missing, missing_of}
use Rattle.ds_rows.specs.Counts.{row_count}
use Rattle.ds_request.specs.declared.call.Call.{Call}
use Rattle.ds_request.specs.declared.call.Call.TheVariants as call
use Rattle.ds_reply.specs.declared.reply.Body.{Body}
use Rattle.ds_reply.specs.declared.reply.Body.TheVariants as body
use Rattle.ds_model.specs.Asked.{Search}
use Rattle.ds_model.specs.Groups.{group_refusal, write_refusal}
use Rattle.ds_model.specs.Sessions.{Session, Transaction}

-- the first of these refusals that there is
abbrev pub first_refusal : List (Option Body) → Option Body
first_refusal [] = None
first_refusal (None ∷ others) = first_refusal others
first_refusal (Some refusal ∷ others) = Some refusal

-- ---- writes

-- the reader refuses a key that can't be written and a faulty value before; so the size is left
abbrev pub entity_body : Option EntityRefused → Option Body
entity_body None = None
entity_body (Some entity.BadKey) = Some (body.BadKey field.Entity)
entity_body (Some (entity.BadValue i)) = Some (body.BadValue field.Entity)
entity_body (Some (entity.TooLarge size)) = Some (body.TooLarge size)
entity_body (Some entity.NoMemory) = Some body.NoMemory

-- more than 20,000 index rows
abbrev pub row_refusal : List IndexDef → EntityParts → Option Body
row_refusal definitions e =
    cond (nat_lt most_index_rows (row_count definitions e))
    (Some (body.TooManyRows (min (row_count definitions e) greatest_told)))
    None

-- is the path its root alone?
abbrev pub is_root : List Elem → Bool
is_root [] = false
is_root (e ∷ []) = true
is_root (e ∷ f ∷ es) = false

-- the group of a written key; none for an incomplete root, whose id isn't drawn yet
abbrev pub group_asked : Bool → KeyParts → Option KeyParts
group_asked incomplete k = cond (incomplete && is_root k.elems) None (Some (root_of k))

-- ---- queries

-- what a search says of one end of its window: nothing, a text that is refused, the place before the first row, or one behind a row
pub data Told : Type 0 where
  Nothing : Told
  Refused : CursorRefused → Told
  BeforeFirst : Told
  Behind : Place → Told

pub record Places : Type 0 where
  pub start : Told
  pub end : Told

-- what the text of a cursor stands for
abbrev pub PlaceRead : Branch → Option (List ℕ) → Told → Type 0
PlaceRead q None Nothing = ⊤
PlaceRead q (Some text) (Refused why) = CursorIs q text (Err why)
PlaceRead q (Some text) BeforeFirst = CursorIs q text (Ok None)
PlaceRead q (Some text) (Behind place) = CursorIs q text (Ok (Some place))
PlaceRead q _ _ = ⊥

abbrev pub cursor_refusal : Field → Told → Option Body
cursor_refusal f (Refused cursor.BadCursor) = Some (body.BadCursor f)
cursor_refusal f (Refused cursor.CursorMismatch) = Some (body.CursorMismatch f)
cursor_refusal f _ = None

-- this holds where nothing is refused
abbrev pub IfUnrefused : Option Body → Type 0 → Type 0
IfUnrefused None fact = fact
IfUnrefused (Some refusal) fact = ⊤

-- the texts are cursors of the query's branch, the end's where the start's isn't refused; with `!=` or `in` they are refused before
abbrev pub PlacesRead : List Branch → Search → Places → Type 0
PlacesRead (q ∷ []) search places =
    PlaceRead q search.start places.start × IfUnrefused (cursor_refusal field.Start places.start) (PlaceRead q search.end places.end)
PlacesRead _ search places = (places.start ≡ Nothing) × (places.end ≡ Nothing)

-- what no index serves of a branch
abbrev pub missing_body : Option Missing → Option Body
missing_body None = None
missing_body (Some m) = Some (body.MissingIndex m.constraint m.suggestion)

-- of the first branch that misses an index
abbrev pub missing_refusal : List IndexDef → List Branch → Option Body
missing_refusal definitions [] = None
missing_refusal definitions (q ∷ qs) = first_refusal (missing_body (missing_of q definitions) ∷ missing_refusal definitions qs ∷ [])

abbrev pub normal_refusal : Result Normal QueryRefused → Option Body
normal_refusal (Err (query.Bad reason)) = Some (body.BadQuery reason)
normal_refusal (Err (query.TooManySubqueries count)) = Some (body.TooManySubqueries count)
normal_refusal _ = None

-- inside a transaction a query needs an ancestor
abbrev pub ancestor_refusal : Option Transaction → Option KeyParts → Option Body
ancestor_refusal (Some t) None = Some body.NeedAncestor
ancestor_refusal _ _ = None

abbrev pub ancestor_group_refusal : Option Transaction → Option KeyParts → Option Body
ancestor_group_refusal t None = None
ancestor_group_refusal t (Some ancestor) = group_refusal t (Some (root_of ancestor))

-- what is refused before a cursor is read: the form of the query, and in a transaction a query without an ancestor
abbrev pub form_refusal : Session → Query → Option Body
form_refusal s q = first_refusal (normal_refusal (normal_of q) ∷ ancestor_refusal s.transaction q.ancestor ∷ [])

-- the first refusal of a query: its form, its cursors, an index for each branch, and its group
abbrev pub search_refusal : List IndexDef → Session → Search → Places → Option Body
search_refusal definitions s search places = first_refusal (
    form_refusal s search.query
    ∷ cursor_refusal field.Start places.start
    ∷ cursor_refusal field.End places.end
    ∷ missing_refusal definitions (normal_form search.query).branches
    ∷ ancestor_group_refusal s.transaction search.query.ancestor
    ∷ [])

-- ---- requests

abbrev pub in_transaction : Option Transaction → Option Body
in_transaction None = None
in_transaction (Some t) = Some body.InTransaction

abbrev pub no_transaction : Option Transaction → Option Body
no_transaction None = Some body.NoTransaction
no_transaction (Some t) = None

-- the first refusal of a request that isn't a query. Those that the journal and the id counter decide come after it.
abbrev pub refusal_of : List IndexDef → Session → Call → Option Body
refusal_of definitions s (call.Put key incomplete properties) = first_refusal (
    entity_body (entity_refusal key properties)
    ∷ row_refusal definitions (record { key = key; properties = properties })
    ∷ group_refusal s.transaction (group_asked incomplete key)
    ∷ write_refusal s.transaction
    ∷ [])
refusal_of definitions s (call.Delete key) =
    first_refusal (group_refusal s.transaction (Some (root_of key)) ∷ write_refusal s.transaction ∷ [])
refusal_of definitions s (call.Get key) = group_refusal s.transaction (Some (root_of key))
refusal_of definitions s (call.Begin several_groups) = in_transaction s.transaction
refusal_of definitions s call.Settle = in_transaction s.transaction
refusal_of definitions s (call.Apply shard) = in_transaction s.transaction
refusal_of definitions s call.Commit = no_transaction s.transaction
refusal_of definitions s call.Rollback = no_transaction s.transaction
refusal_of definitions s _ = None
