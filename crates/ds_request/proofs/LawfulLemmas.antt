-- Each call that the definitions of a request give is lawful.
use Rattle.std.proofs.Common.{◌≡◌, ℕ, List, [], ◌∷◌, length, Bool, true, false, ◌==◌, Option, Some, None, Result, Ok, Err, IfOk, IsTrue}
use Rattle.std.proofs.Common.{cond, option_and_then, ◌≤◌, nat_le, le-leb, leb-true, refl, subst, arith}
use Rattle.std.specs.List.{list_all}
use Rattle.std.specs.Option.{ok_or}
use Rattle.std.proofs.lemmas.Bool.{and_from}
use Rattle.serde_json.specs.Data.{Data, null, boolean, number, string, array, object, Items, no_items, item, Members}
use Rattle.ds_base.specs.Keys.{is_namespace}
use Rattle.ds_base.specs.declared.value.Value.{Value}
use Rattle.ds_query.specs.Fields.{field_name}
use Rattle.ds_query.specs.Filters.{enough_values, has_operands}
use Rattle.ds_query.specs.declared.field.Field.{Field}
use Rattle.ds_query.specs.declared.field.Field.TheVariants as field
use Rattle.ds_query.specs.declared.query.Op.{Op}
use Rattle.ds_query.specs.declared.query.Op.TheVariants as op
use Rattle.ds_query.specs.declared.query.Filter.{Filter}
use Rattle.ds_query.specs.declared.query.Select.TheVariants as select
use Rattle.ds_request.specs.declared.call.Call.{Call}
use Rattle.ds_request.specs.declared.call.Call.TheVariants as call
use Rattle.ds_request.specs.declared.call.RequestRefused.{RequestRefused}
use Rattle.ds_json_reading.specs.declared.refusal.Refusal.{Refusal}
use Rattle.ds_json_reading.specs.declared.refusal.Refusal.TheVariants as refusal
use Rattle.ds_json_reading.specs.Reading.{Reads, and_then, read_as, each_of, member_of, required, optional, defaulted, natural_of}
use Rattle.ds_json_reading.specs.Keys.{key_of}
use Rattle.ds_json_reading.specs.Values.{value_of}
use Rattle.ds_member_reading.specs.Forms.{text_of, name_of, namespace_of, flag_of, results_of, count_of, op_of, operands_of}
use Rattle.ds_json_reading.specs.Reading.{some_of, list_of}
use Rattle.ds_member_reading.specs.Forms.{filter_of, order_of, select_of, named_values_of}
use Rattle.ds_request.specs.Requests.{told_at, member_read, query_call_of, gql_call_of, allocate_ids_call_of}
use Rattle.ds_request.specs.Lawful.{IsLawfulCall}

-- ---- what is kept along a chain

pub kept_then : {A B E : Type 0} (P : B → Type 0) (r : Result A E) (f : A → Result B E) → ((x : A) → r ≡ Ok x → IfOk (f x) P) → IfOk (and_then r f) P
kept_then P (Ok x) f next = next x refl
kept_then P (Err e) f next = tt

pub kept_as : {A B E : Type 0} (P : B → Type 0) (f : A → B) (r : Result A E) → IfOk r (λ x. P (f x)) → IfOk (read_as f r) P
kept_as P f (Ok x) h = h
kept_as P f (Err e) h = tt

pub kept_told : {A : Type 0} (P : A → Type 0) (client : ℕ) (f : Field) (r : Result A Refusal) → IfOk r P → IfOk (told_at client f r) P
kept_told P client f (Ok x) h = h
kept_told P client f (Err refusal.Request) h = tt
kept_told P client f (Err refusal.Key) h = tt
kept_told P client f (Err refusal.Value) h = tt
kept_told P client f (Err refusal.NoMemory) h = tt

-- what is kept of a result holds of its value
pub value_kept : {A E : Type 0} (P : A → Type 0) (r : Result A E) (x : A) → r ≡ Ok x → IfOk r P → P x
value_kept P r x is h = let Q : Result _ _ → Type 0 = λ s. IfOk s P in subst Q is h

pub kept_defaulted : {A : Type 0} (P : A → Type 0) (absent : A) (form : Data → Result A Refusal) (given : Option Data) → P absent → ((d : Data) → IfOk (form d) P) → IfOk (defaulted absent form given) P
kept_defaulted P absent form None h each = h
kept_defaulted P absent form (Some d) h each = each d

kept_if : {A E : Type 0} (b : Bool) (x : A) (e : E) (P : A → Type 0) → (b ≡ true → P x) → IfOk (cond b (Ok x) (Err e)) P
kept_if true x e P h = h refl
kept_if false x e P h = tt

-- ---- namespaces

namespace_kept : (d : Data) → IfOk (namespace_of d) (λ s. IsTrue (is_namespace s))
namespace_kept d = kept_then (λ s. IsTrue (is_namespace s)) (text_of d) _ (λ s is. kept_if (is_namespace s) s refusal.Request (λ s. IsTrue (is_namespace s)) (λ h. h))

-- ---- filters

longer : {A E : Type 0} (x : A) (r : Result (List A) E) → IfOk r (λ xs. IsTrue (nat_le 1 (length (x ∷ xs))))
longer x (Ok xs) = le-leb 1 (length (x ∷ xs)) (omega arith)
longer x (Err e) = tt

some_items_kept : (d : Data) (ds : Items) → IfOk (each_of value_of (item d ds)) (λ vs. IsTrue (nat_le 1 (length vs)))
some_items_kept d ds =
    let P : List Value → Type 0 = λ vs. IsTrue (nat_le 1 (length vs)) in
    kept_then P (value_of d) _ (λ v is. kept_as P (λ vs. v ∷ vs) (each_of value_of ds) (longer v (each_of value_of ds)))

some_kept : (d : Data) → IfOk (some_of value_of d) (λ vs. IsTrue (nat_le 1 (length vs)))
some_kept null = tt
some_kept (boolean b) = tt
some_kept (number n) = tt
some_kept (string s) = tt
some_kept (array no_items) = tt
some_kept (array (item d ds)) = some_items_kept d ds
some_kept (object ms) = tt

one_kept : (r : Result Value Refusal) → IfOk (read_as (λ v. v ∷ []) r) (λ vs. IsTrue (length vs == 1))
one_kept (Ok v) = refl
one_kept (Err e) = tt

operands_kept : (o : Op) (d : Data) → IfOk (operands_of o d) (λ vs. IsTrue (enough_values o (length vs)))
operands_kept op.Equal d = one_kept (value_of d)
operands_kept op.Less d = one_kept (value_of d)
operands_kept op.LessEqual d = one_kept (value_of d)
operands_kept op.Greater d = one_kept (value_of d)
operands_kept op.GreaterEqual d = one_kept (value_of d)
operands_kept op.NotEqual d = one_kept (value_of d)
operands_kept op.OneOf d = some_kept d

abbrev Fits : Filter → Type 0
Fits f = IsTrue (has_operands f)

filter_kept : (d : Data) → IfOk (filter_of d) Fits
filter_kept null = tt
filter_kept (boolean b) = tt
filter_kept (number n) = tt
filter_kept (string s) = tt
filter_kept (object ms) = tt
filter_kept (array no_items) = tt
filter_kept (array (item p no_items)) = tt
filter_kept (array (item p (item o no_items))) = tt
filter_kept (array (item p (item o (item v (item d ds))))) = tt
filter_kept (array (item p (item o (item v no_items)))) =
    kept_then Fits (name_of p) _ (λ name is. kept_then Fits (op_of o) _ (λ op was. kept_as Fits _ (operands_of op v) (operands_kept op v)))

kept_more : {E : Type 0} (f : Filter) (r : Result (List Filter) E) → Fits f → IfOk r (λ fs. IsTrue (list_all has_operands fs)) → IfOk r (λ fs. IsTrue (list_all has_operands (f ∷ fs)))
kept_more f (Ok fs) h hs = and_from (has_operands f) (list_all has_operands fs) h hs
kept_more f (Err e) h hs = tt

filters_kept_of : (ds : Items) → IfOk (each_of filter_of ds) (λ fs. IsTrue (list_all has_operands fs))
filters_kept_of no_items = refl
filters_kept_of (item d ds) =
    let P : List Filter → Type 0 = λ fs. IsTrue (list_all has_operands fs) in
    kept_then P (filter_of d) _ (λ f is. kept_as P (λ fs. f ∷ fs) (each_of filter_of ds)
    (kept_more f (each_of filter_of ds) (value_kept Fits (filter_of d) f is (filter_kept d)) (filters_kept_of ds)))

filters_kept : (d : Data) → IfOk (list_of filter_of d) (λ fs. IsTrue (list_all has_operands fs))
filters_kept null = tt
filters_kept (boolean b) = tt
filters_kept (number n) = tt
filters_kept (string s) = tt
filters_kept (array ds) = filters_kept_of ds
filters_kept (object ms) = tt

-- ---- the calls

namespace_read : (client : ℕ) (ms : Members) (namespace : List ℕ) → member_read client ms field.Namespace (defaulted [] namespace_of) ≡ Ok namespace → IsTrue (is_namespace namespace)
namespace_read client ms namespace is =
    let P : List ℕ → Type 0 = λ s. IsTrue (is_namespace s) in
    value_kept P _ namespace is (kept_told P client field.Namespace _ (kept_defaulted P [] namespace_of (member_of (field_name field.Namespace) ms) refl namespace_kept))

filters_read : (client : ℕ) (ms : Members) (filters : List Filter) → member_read client ms field.Filters (defaulted [] (list_of filter_of)) ≡ Ok filters → IsTrue (list_all has_operands filters)
filters_read client ms filters is =
    let P : List Filter → Type 0 = λ fs. IsTrue (list_all has_operands fs) in
    value_kept P _ filters is (kept_told P client field.Filters _ (kept_defaulted P [] (list_of filter_of) (member_of (field_name field.Filters) ms) refl filters_kept))

pub query_lawful : (client : ℕ) (ms : Members) → IfOk (query_call_of client ms) IsLawfulCall
query_lawful client ms =
    kept_then IsLawfulCall (member_read client ms field.Namespace (defaulted [] namespace_of)) _ (λ namespace kept.
    kept_then IsLawfulCall (member_read client ms field.Kind (optional name_of)) _ (λ kind _.
    kept_then IsLawfulCall (member_read client ms field.Ancestor (optional key_of)) _ (λ ancestor _.
    kept_then IsLawfulCall (member_read client ms field.Filters (defaulted [] (list_of filter_of))) _ (λ filters fit.
    kept_then IsLawfulCall (member_read client ms field.Orders (defaulted [] (list_of order_of))) _ (λ orders _.
    kept_then IsLawfulCall (member_read client ms field.Select (defaulted select.Entities select_of)) _ (λ selected _.
    kept_then IsLawfulCall (member_read client ms field.Offset (defaulted 0 results_of)) _ (λ offset _.
    kept_then IsLawfulCall (member_read client ms field.Limit (optional results_of)) _ (λ limit _.
    kept_then IsLawfulCall (member_read client ms field.Start (optional text_of)) _ (λ start _.
    kept_then IsLawfulCall (member_read client ms field.End (optional text_of)) _ (λ end _.
    kept_then IsLawfulCall (member_read client ms field.Cursor (defaulted false flag_of)) _ (λ cursor _.
    (namespace_read client ms namespace kept, filters_read client ms filters fit))))))))))))

pub gql_lawful : (client : ℕ) (ms : Members) → IfOk (gql_call_of client ms) IsLawfulCall
gql_lawful client ms =
    kept_then IsLawfulCall (member_read client ms field.Namespace (defaulted [] namespace_of)) _ (λ namespace kept.
    kept_then IsLawfulCall (member_read client ms field.Text (required text_of)) _ (λ text _.
    kept_then IsLawfulCall (member_read client ms field.Args (defaulted [] (list_of value_of))) _ (λ args _.
    kept_then IsLawfulCall (member_read client ms field.Names (defaulted [] named_values_of)) _ (λ names _.
    kept_then IsLawfulCall (member_read client ms field.Start (optional text_of)) _ (λ start _.
    kept_then IsLawfulCall (member_read client ms field.End (optional text_of)) _ (λ end _.
    kept_then IsLawfulCall (member_read client ms field.Cursor (defaulted false flag_of)) _ (λ cursor _.
    namespace_read client ms namespace kept)))))))

at_least : (least n : ℕ) → IfOk (ok_or (cond (nat_le least n) (Some n) None) refusal.Request) (λ m. least ≤ m)
at_least least n = at_least_if (nat_le least n) refl where
  at_least_if : (b : Bool) → nat_le least n ≡ b → IfOk (ok_or (cond b (Some n) None) refusal.Request) (λ m. least ≤ m)
  at_least_if true is = leb-true least n is
  at_least_if false is = tt

from_kept : (least : ℕ) (n : Option ℕ) → IfOk (ok_or (option_and_then (λ n. cond (nat_le least n) (Some n) None) n) refusal.Request) (λ m. least ≤ m)
from_kept least None = tt
from_kept least (Some n) = at_least least n

count_kept : (given : Option Data) → IfOk (required count_of given) (λ n. 1 ≤ n)
count_kept None = tt
count_kept (Some d) = from_kept 1 (natural_of d)

pub allocate_ids_lawful : (client : ℕ) (ms : Members) → IfOk (allocate_ids_call_of client ms) IsLawfulCall
allocate_ids_lawful client ms =
    kept_as IsLawfulCall call.AllocateIds (member_read client ms field.Count (required count_of))
    (kept_told (λ n. 1 ≤ n) client field.Count _ (count_kept (member_of (field_name field.Count) ms)))

-- what is read is lawful where each call that the definition gives is
pub read_lawful : (free : RequestRefused) (given read : Result Call RequestRefused) → Reads free given read → IfOk given IsLawfulCall → IfOk read IsLawfulCall
read_lawful free given (Ok c) is lawful = value_kept IsLawfulCall given c is lawful
read_lawful free given (Err e) is lawful = tt
