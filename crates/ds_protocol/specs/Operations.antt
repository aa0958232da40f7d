-- What a request asks, taken apart: which call it stands for, and what of it the store is asked.
use Rattle.std.specs.Prelude.{◌≡◌, ◌≤◌, ◌⊎◌, ℕ, true, List, [], Some, None, Err, ⊤, IsTrue}
use Rattle.ds_base.specs.declared.key.Elem.{Elem}
use Rattle.ds_base.specs.Keys.{ends_in_id}
use Rattle.ds_indexdef.specs.declared.IndexDef.{IndexDef}
use Rattle.ds_request.specs.declared.call.Call.{Call}
use Rattle.ds_request.specs.declared.call.Call.TheVariants as call
use Rattle.ds_reply.specs.declared.reply.Body.{Body}
use Rattle.ds_model.specs.Asked.{search_of}
use Rattle.ds_model.specs.Refusals.{refusal_of}
use Rattle.ds_model.specs.Sessions.{Session}
use Rattle.ds_protocol.specs.declared.operations.Operation.{Operation}
use Rattle.ds_protocol.specs.declared.operations.Operation.TheVariants as operation
use Rattle.ds_protocol.specs.declared.searching.Search.{Search}
use Rattle.ds_protocol.specs.Searches.{IsLawfulSearch, IsSearchOf}

-- the query of a search as a call
abbrev pub query_of : Search → Call
query_of s = call.Query s.query.namespace s.query.kind s.query.ancestor s.query.filters s.query.orders s.query.select s.offset s.limit
    s.start s.end s.cursor

-- the call that an operation stands for; a statement stands for its query
abbrev pub call_of : Operation → Call
call_of (operation.Put entity incomplete) = call.Put entity.key incomplete entity.properties
call_of (operation.Delete key) = call.Delete key
call_of (operation.Get key) = call.Get key
call_of (operation.Find search) = query_of search
call_of (operation.Begin several_groups) = call.Begin several_groups
call_of operation.Commit = call.Commit
call_of operation.Rollback = call.Rollback
call_of operation.Settle = call.Settle
call_of (operation.AllocateIds count) = call.AllocateIds count
call_of (operation.Apply shard) = call.Apply shard

-- the operation is what the call asks: a search of a query or a statement, and else the call's own parts
abbrev pub IsOperationOf : Call → Operation → Type 0
IsOperationOf c (operation.Find search) = IsSearchOf c search
IsOperationOf c o = c ≡ call_of o

-- what an operation keeps of a lawful call: an incomplete put's key ends in an id, which the drawn one replaces;
-- at least one id is asked for; and a search is a lawful one
abbrev pub IsLawfulOperation : Operation → Type 0
IsLawfulOperation (operation.Put entity incomplete) = IsTrue incomplete → IsTrue (ends_in_id entity.key.elems)
IsLawfulOperation (operation.AllocateIds count) = 1 ≤ count
IsLawfulOperation (operation.Find search) = IsLawfulSearch search
IsLawfulOperation _ = ⊤

-- the call is refused with this whatever the definitions and the session: its statement can't be read, or its entity can't be written
abbrev pub IsAlwaysRefused : Call → Body → Type 0
IsAlwaysRefused c b =
    (search_of c ≡ Some (Err b))
    ⊎ ((search_of c ≡ None) × ((definitions : List IndexDef) (s : Session) → refusal_of definitions s c ≡ Some b))

-- the path that is written, whose ids are tested against the id counter
abbrev pub written_path : Operation → List Elem
written_path (operation.Put entity incomplete) = entity.key.elems
written_path (operation.Delete key) = key.elems
written_path _ = []

-- how many ids a request draws
abbrev pub ids_asked : Call → ℕ
ids_asked (call.Put key true properties) = 1
ids_asked (call.AllocateIds count) = count
ids_asked _ = 0
