-- What a line asks: its members in the order in which they are looked at, of which the first that fails is told. Begin at the
-- end, with `request_of`; the form of each member stands in `Forms` of ds_member_reading.
use Rattle.std.specs.Prelude.{ℕ, List, [], false, Option, Some, None, Result, Ok, Err, bytes_eq, cond, codes}
use Rattle.std.specs.Str.{is_utf8}
use Rattle.serde_json.specs.Data.{Data, object, Members}
use Rattle.serde_json.specs.Read.{read}
use Rattle.ds_query.specs.declared.field.Field.{Field}
use Rattle.ds_query.specs.declared.field.Field.TheVariants as field
use Rattle.ds_query.specs.declared.query.Select.TheVariants as select
use Rattle.ds_query.specs.Fields.{field_name}
use Rattle.ds_request.specs.declared.call.Call.{Call}
use Rattle.ds_request.specs.declared.call.Call.TheVariants as call
use Rattle.ds_request.specs.declared.call.Request.{Request}
use Rattle.ds_request.specs.declared.call.RequestRefused.{RequestRefused}
use Rattle.ds_request.specs.declared.call.RequestRefused.TheVariants as refused
use Rattle.ds_request.specs.declared.operation.Operation.{Operation}
use Rattle.ds_request.specs.declared.operation.Operation.TheVariants as operation
use Rattle.ds_json_reading.specs.declared.refusal.Refusal.{Refusal}
use Rattle.ds_json_reading.specs.declared.refusal.Refusal.TheVariants as refusal
use Rattle.ds_json_reading.specs.Reading.{and_then, read_as, member_of, required, optional, defaulted}
use Rattle.ds_json_reading.specs.Keys.{key_of, writable_key_of}
use Rattle.ds_json_reading.specs.Values.{value_of}
use Rattle.ds_request.specs.Entities.{entity_of}
use Rattle.ds_member_reading.specs.Forms.{text_of, name_of, namespace_of, flag_of, client_of, results_of, count_of, shard_of}
use Rattle.ds_json_reading.specs.Reading.{list_of}
use Rattle.ds_member_reading.specs.Forms.{filter_of, order_of, select_of, named_values_of}

-- ---- a member

-- what is wrong with a member is told with the client and the member
abbrev pub told_at : {A : Type 0} → ℕ → Field → Result A Refusal → Result A RequestRefused
told_at client field (Ok x) = Ok x
told_at client field (Err refusal.Request) = Err (refused.BadRequest client field)
told_at client field (Err refusal.Key) = Err (refused.BadKey client field)
told_at client field (Err refusal.Value) = Err (refused.BadValue client field)
told_at client field (Err refusal.NoMemory) = Err refused.NoMemory

-- a member of the request by one form
abbrev pub member_read : {A : Type 0} → ℕ → Members → Field → (Option Data → Result A Refusal) → Result A RequestRefused
member_read client ms f form = told_at client f (form (member_of (field_name f) ms))

-- ---- the members of each operation, in the order in which they are looked at

abbrev pub put_call_of : ℕ → Members → Result Call RequestRefused
put_call_of client ms =
    read_as (λ p. call.Put p.key p.incomplete p.properties) (member_read client ms field.Entity (required entity_of))

abbrev pub delete_call_of : ℕ → Members → Result Call RequestRefused
delete_call_of client ms = read_as call.Delete (member_read client ms field.Key (required writable_key_of))

abbrev pub get_call_of : ℕ → Members → Result Call RequestRefused
get_call_of client ms = read_as call.Get (member_read client ms field.Key (required key_of))

abbrev pub query_call_of : ℕ → Members → Result Call RequestRefused
query_call_of client ms =
    and_then (member_read client ms field.Namespace (defaulted [] namespace_of)) (λ namespace.
    and_then (member_read client ms field.Kind (optional name_of)) (λ kind.
    and_then (member_read client ms field.Ancestor (optional key_of)) (λ ancestor.
    and_then (member_read client ms field.Filters (defaulted [] (list_of filter_of))) (λ filters.
    and_then (member_read client ms field.Orders (defaulted [] (list_of order_of))) (λ orders.
    and_then (member_read client ms field.Select (defaulted select.Entities select_of)) (λ selected.
    and_then (member_read client ms field.Offset (defaulted 0 results_of)) (λ offset.
    and_then (member_read client ms field.Limit (optional results_of)) (λ limit.
    and_then (member_read client ms field.Start (optional text_of)) (λ start.
    and_then (member_read client ms field.End (optional text_of)) (λ end.
    and_then (member_read client ms field.Cursor (defaulted false flag_of)) (λ cursor.
    Ok (call.Query namespace kind ancestor filters orders selected offset limit start end cursor))))))))))))

abbrev pub gql_call_of : ℕ → Members → Result Call RequestRefused
gql_call_of client ms =
    and_then (member_read client ms field.Namespace (defaulted [] namespace_of)) (λ namespace.
    and_then (member_read client ms field.Text (required text_of)) (λ text.
    and_then (member_read client ms field.Args (defaulted [] (list_of value_of))) (λ args.
    and_then (member_read client ms field.Names (defaulted [] named_values_of)) (λ names.
    and_then (member_read client ms field.Start (optional text_of)) (λ start.
    and_then (member_read client ms field.End (optional text_of)) (λ end.
    and_then (member_read client ms field.Cursor (defaulted false flag_of)) (λ cursor.
    Ok (call.Gql namespace text args names start end cursor))))))))

abbrev pub begin_call_of : ℕ → Members → Result Call RequestRefused
begin_call_of client ms = read_as call.Begin (member_read client ms field.Xg (defaulted false flag_of))

abbrev pub allocate_ids_call_of : ℕ → Members → Result Call RequestRefused
allocate_ids_call_of client ms = read_as call.AllocateIds (member_read client ms field.Count (required count_of))

abbrev pub apply_call_of : ℕ → Members → Result Call RequestRefused
apply_call_of client ms = read_as call.Apply (member_read client ms field.Shard (required shard_of))

abbrev pub call_of : ℕ → Members → Operation → Result Call RequestRefused
call_of client ms operation.Put = put_call_of client ms
call_of client ms operation.Delete = delete_call_of client ms
call_of client ms operation.Get = get_call_of client ms
call_of client ms operation.Query = query_call_of client ms
call_of client ms operation.Gql = gql_call_of client ms
call_of client ms operation.Begin = begin_call_of client ms
call_of client ms operation.Commit = Ok call.Commit
call_of client ms operation.Rollback = Ok call.Rollback
call_of client ms operation.Settle = Ok call.Settle
call_of client ms operation.AllocateIds = allocate_ids_call_of client ms
call_of client ms operation.Apply = apply_call_of client ms

-- ---- the line

-- the operation of this name; every other text is none
abbrev pub operation_of : Data → Result Operation Refusal
operation_of d = and_then (text_of d) (λ s.
    cond (bytes_eq s (codes "put")) (Ok operation.Put)
    (cond (bytes_eq s (codes "delete")) (Ok operation.Delete)
    (cond (bytes_eq s (codes "get")) (Ok operation.Get)
    (cond (bytes_eq s (codes "query")) (Ok operation.Query)
    (cond (bytes_eq s (codes "gql")) (Ok operation.Gql)
    (cond (bytes_eq s (codes "begin")) (Ok operation.Begin)
    (cond (bytes_eq s (codes "commit")) (Ok operation.Commit)
    (cond (bytes_eq s (codes "rollback")) (Ok operation.Rollback)
    (cond (bytes_eq s (codes "settle")) (Ok operation.Settle)
    (cond (bytes_eq s (codes "allocate_ids")) (Ok operation.AllocateIds)
    (cond (bytes_eq s (codes "apply")) (Ok operation.Apply)
    (Err refusal.Request))))))))))))

-- an object: the client, 0 where it is absent; the operation; and then the members of the operation
abbrev pub object_request_of : Members → Result Request RequestRefused
object_request_of ms =
    and_then (member_read 0 ms field.Client (defaulted 0 client_of)) (λ client.
    and_then (member_read client ms field.Op (required operation_of)) (λ o.
    read_as (λ c. record { client = client; call = c }) (call_of client ms o)))

abbrev pub data_request_of : Option Data → Result Request RequestRefused
data_request_of None = Err refused.BadJson
data_request_of (Some (object ms)) = object_request_of ms
data_request_of (Some _) = Err (refused.BadRequest 0 field.Line)

-- the JSON value of a line that is UTF-8, as serde_json reads it; of members with one name the last counts
abbrev pub line_data : List ℕ → Option Data
line_data line = cond (is_utf8 line) (read line) None

-- the request of a line, or why it is none
abbrev pub request_of : List ℕ → Result Request RequestRefused
request_of line = data_request_of (line_data line)

-- the client that is told of a refusal
abbrev pub client_told : RequestRefused → ℕ
client_told refused.BadJson = 0
client_told (refused.BadRequest client f) = client
client_told (refused.BadKey client f) = client
client_told (refused.BadValue client f) = client
client_told refused.NoMemory = 0
