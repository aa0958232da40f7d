-- Whose line it is: the client that asks, or that is told what is wrong, is one of those that there are.
use Rattle.std.proofs.Common.{◌≡◌, ℕ, ◌≤◌, List, [], Bool, true, false, Option, Some, None, option_and_then, Result, Ok, Err, IfOk, IfErr}
use Rattle.std.proofs.Common.{MatchResult, cond, nat_le, leb-true, refl, subst, arith}
use Rattle.std.specs.Option.{ok_or}
use Rattle.serde_json.specs.Data.{Data, null, boolean, number, string, array, object, Members}
use Rattle.ds_base.specs.Limits.{greatest_client}
use Rattle.ds_query.specs.Fields.{field_name}
use Rattle.ds_query.specs.declared.field.Field.{Field}
use Rattle.ds_query.specs.declared.field.Field.TheVariants as field
use Rattle.ds_query.specs.declared.query.Select.TheVariants as select
use Rattle.ds_request.specs.declared.call.Call.{Call}
use Rattle.ds_request.specs.declared.call.Request.{Request}
use Rattle.ds_request.specs.declared.call.RequestRefused.{RequestRefused}
use Rattle.ds_request.specs.declared.call.RequestRefused.TheVariants as refused
use Rattle.ds_request.specs.declared.operation.Operation.{Operation}
use Rattle.ds_request.specs.declared.operation.Operation.TheVariants as operation
use Rattle.ds_json_reading.specs.declared.refusal.Refusal.{Refusal}
use Rattle.ds_json_reading.specs.declared.refusal.Refusal.TheVariants as refusal
use Rattle.ds_json_reading.specs.Reading.{Reads, and_then, read_as, member_of, required, optional, defaulted, natural_of}
use Rattle.ds_json_reading.specs.Keys.{key_of, writable_key_of}
use Rattle.ds_json_reading.specs.Values.{value_of}
use Rattle.ds_request.specs.Entities.{entity_of}
use Rattle.ds_member_reading.specs.Forms.{text_of, name_of, namespace_of, flag_of, client_of, results_of, count_of, shard_of, filter_of}
use Rattle.ds_json_reading.specs.Reading.{list_of}
use Rattle.ds_member_reading.specs.Forms.{order_of, select_of, named_values_of}
use Rattle.ds_request.specs.Requests.{told_at, member_read, call_of, query_call_of, gql_call_of, operation_of, object_request_of}
use Rattle.ds_request.specs.Requests.{data_request_of, line_data, request_of, client_told}
use Rattle.ds_request.proofs.LawfulLemmas.{kept_then, kept_as, kept_told, kept_defaulted, value_kept}

-- ---- refusals

told_then : {A B : Type 0} (most : ℕ) (r : Result A RequestRefused) (f : A → Result B RequestRefused) → IfErr r (λ e. client_told e ≤ most) → ((x : A) → r ≡ Ok x → IfErr (f x) (λ e. client_told e ≤ most)) → IfErr (and_then r f) (λ e. client_told e ≤ most)
told_then most (Ok x) f first next = next x refl
told_then most (Err e) f first next = first

told_as : {A B : Type 0} (most : ℕ) (f : A → B) (r : Result A RequestRefused) → IfErr r (λ e. client_told e ≤ most) → IfErr (read_as f r) (λ e. client_told e ≤ most)
told_as most f (Ok x) h = tt
told_as most f (Err e) h = h

told_up_to : {A : Type 0} (least most : ℕ) (r : Result A RequestRefused) → least ≤ most → IfErr r (λ e. client_told e ≤ least) → IfErr r (λ e. client_told e ≤ most)
told_up_to least most (Ok x) le h = tt
told_up_to least most (Err e) le h = omega (arith, h)

told_one : {A : Type 0} (client : ℕ) (f : Field) (r : Result A Refusal) → IfErr (told_at client f r) (λ e. client_told e ≤ client)
told_one client f (Ok x) = tt
told_one client f (Err refusal.Request) = omega arith
told_one client f (Err refusal.Key) = omega arith
told_one client f (Err refusal.Value) = omega arith
told_one client f (Err refusal.NoMemory) = omega arith

told_member : {A : Type 0} (client : ℕ) (ms : Members) (f : Field) (form : Option Data → Result A Refusal) → IfErr (member_read client ms f form) (λ e. client_told e ≤ client)
told_member client ms f form = told_one client f (form (member_of (field_name f) ms))

query_told : (client : ℕ) (ms : Members) → IfErr (query_call_of client ms) (λ e. client_told e ≤ client)
query_told client ms =
    told_then client _ _ (told_member client ms field.Namespace (defaulted [] namespace_of)) (λ namespace _.
    told_then client _ _ (told_member client ms field.Kind (optional name_of)) (λ kind _.
    told_then client _ _ (told_member client ms field.Ancestor (optional key_of)) (λ ancestor _.
    told_then client _ _ (told_member client ms field.Filters (defaulted [] (list_of filter_of))) (λ filters _.
    told_then client _ _ (told_member client ms field.Orders (defaulted [] (list_of order_of))) (λ orders _.
    told_then client _ _ (told_member client ms field.Select (defaulted select.Entities select_of)) (λ selected _.
    told_then client _ _ (told_member client ms field.Offset (defaulted 0 results_of)) (λ offset _.
    told_then client _ _ (told_member client ms field.Limit (optional results_of)) (λ limit _.
    told_then client _ _ (told_member client ms field.Start (optional text_of)) (λ start _.
    told_then client _ _ (told_member client ms field.End (optional text_of)) (λ end _.
    told_then client _ _ (told_member client ms field.Cursor (defaulted false flag_of)) (λ cursor _. tt)))))))))))

gql_told : (client : ℕ) (ms : Members) → IfErr (gql_call_of client ms) (λ e. client_told e ≤ client)
gql_told client ms =
    told_then client _ _ (told_member client ms field.Namespace (defaulted [] namespace_of)) (λ namespace _.
    told_then client _ _ (told_member client ms field.Text (required text_of)) (λ text _.
    told_then client _ _ (told_member client ms field.Args (defaulted [] (list_of value_of))) (λ args _.
    told_then client _ _ (told_member client ms field.Names (defaulted [] named_values_of)) (λ names _.
    told_then client _ _ (told_member client ms field.Start (optional text_of)) (λ start _.
    told_then client _ _ (told_member client ms field.End (optional text_of)) (λ end _.
    told_then client _ _ (told_member client ms field.Cursor (defaulted false flag_of)) (λ cursor _. tt)))))))

call_told : (client : ℕ) (ms : Members) (o : Operation) → IfErr (call_of client ms o) (λ e. client_told e ≤ client)
call_told client ms operation.Put = told_as client _ _ (told_member client ms field.Entity (required entity_of))
call_told client ms operation.Delete = told_as client _ _ (told_member client ms field.Key (required writable_key_of))
call_told client ms operation.Get = told_as client _ _ (told_member client ms field.Key (required key_of))
call_told client ms operation.Query = query_told client ms
call_told client ms operation.Gql = gql_told client ms
call_told client ms operation.Begin = told_as client _ _ (told_member client ms field.Xg (defaulted false flag_of))
call_told client ms operation.Commit = tt
call_told client ms operation.Rollback = tt
call_told client ms operation.Settle = tt
call_told client ms operation.AllocateIds = told_as client _ _ (told_member client ms field.Count (required count_of))
call_told client ms operation.Apply = told_as client _ _ (told_member client ms field.Shard (required shard_of))

-- ---- the client that is read

at_most : (greatest n : ℕ) → IfOk (ok_or (cond (nat_le n greatest) (Some n) None) refusal.Request) (λ m. m ≤ greatest)
at_most greatest n = at_most_if (nat_le n greatest) refl where
  at_most_if : (b : Bool) → nat_le n greatest ≡ b → IfOk (ok_or (cond b (Some n) None) refusal.Request) (λ m. m ≤ greatest)
  at_most_if true is = leb-true n greatest is
  at_most_if false is = tt

up_to_kept : (greatest : ℕ) (n : Option ℕ) → IfOk (ok_or (option_and_then (λ n. cond (nat_le n greatest) (Some n) None) n) refusal.Request) (λ m. m ≤ greatest)
up_to_kept greatest None = tt
up_to_kept greatest (Some n) = at_most greatest n

client_read : (ms : Members) (client : ℕ) → member_read 0 ms field.Client (defaulted 0 client_of) ≡ Ok client → client ≤ greatest_client
client_read ms client is =
    let P : ℕ → Type 0 = λ n. n ≤ greatest_client in
    value_kept P _ client is (kept_told P 0 field.Client _ (kept_defaulted P 0 client_of (member_of (field_name field.Client) ms) (omega arith) (λ d. up_to_kept greatest_client (natural_of d))))

-- ---- the line

-- the client of a request or of a refusal is one of those that there are
abbrev pub IsOfClient : Result Request RequestRefused → Type 0
IsOfClient r = MatchResult r (λ q. q.client ≤ greatest_client) (λ e. client_told e ≤ greatest_client)

of_client : (r : Result Request RequestRefused) → IfOk r (λ q. q.client ≤ greatest_client) → IfErr r (λ e. client_told e ≤ greatest_client) → IsOfClient r
of_client (Ok q) ok err = ok
of_client (Err e) ok err = err

object_ok : (ms : Members) → IfOk (object_request_of ms) (λ q. q.client ≤ greatest_client)
object_ok ms =
    let P : Request → Type 0 = λ q. q.client ≤ greatest_client in
    kept_then P (member_read 0 ms field.Client (defaulted 0 client_of)) _ (λ client is.
    kept_then P (member_read client ms field.Op (required operation_of)) _ (λ o _. kept_as P _ (call_of client ms o) (always (call_of client ms o) (client_read ms client is)))) where
      always : {P : Type 0} (r : Result Call RequestRefused) → P → IfOk r (λ _. P)
      always (Ok c) h = h
      always (Err e) h = tt

object_err : (ms : Members) → IfErr (object_request_of ms) (λ e. client_told e ≤ greatest_client)
object_err ms =
    told_then greatest_client _ _ (told_up_to 0 greatest_client _ (omega arith) (told_member 0 ms field.Client (defaulted 0 client_of))) (λ client is.
    told_then greatest_client _ _ (told_up_to client greatest_client _ (client_read ms client is) (told_member client ms field.Op (required operation_of))) (λ o _.
    told_as greatest_client _ _ (told_up_to client greatest_client _ (client_read ms client is) (call_told client ms o))))

data_of_client : (d : Option Data) → IsOfClient (data_request_of d)
data_of_client None = omega arith
data_of_client (Some null) = omega arith
data_of_client (Some (boolean b)) = omega arith
data_of_client (Some (number n)) = omega arith
data_of_client (Some (string s)) = omega arith
data_of_client (Some (array ds)) = omega arith
data_of_client (Some (object ms)) = of_client (object_request_of ms) (object_ok ms) (object_err ms)

-- what is read is of a client that there is
pub read_of_client : (line : List ℕ) (read : Result Request RequestRefused) → Reads refused.NoMemory (request_of line) read → IsOfClient read
read_of_client line (Ok q) is = let P : Result Request RequestRefused → Type 0 = IsOfClient in subst P is (data_of_client (line_data line))
read_of_client line (Err refused.NoMemory) is = omega arith
read_of_client line (Err refused.BadJson) is = omega arith
read_of_client line (Err (refused.BadRequest client f)) is = let P : Result Request RequestRefused → Type 0 = IsOfClient in subst P (is (λ e. cc)) (data_of_client (line_data line))
read_of_client line (Err (refused.BadKey client f)) is = let P : Result Request RequestRefused → Type 0 = IsOfClient in subst P (is (λ e. cc)) (data_of_client (line_data line))
read_of_client line (Err (refused.BadValue client f)) is = let P : Result Request RequestRefused → Type 0 = IsOfClient in subst P (is (λ e. cc)) (data_of_client (line_data line))
