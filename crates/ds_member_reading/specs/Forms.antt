-- The forms of a request's members, from a text to a filter. Keys, values and entities have files of their own.
use Rattle.std.specs.Prelude.{ℕ, List, [], ◌∷◌, Bool, true, false, bytes_eq, Option, Some, Result, Ok, Err, cond, codes, length, nat_le}
use Rattle.std.specs.Option.{ok_or}
use Rattle.serde_json.specs.Data.{Data, string, array, object, no_items, item}
use Rattle.serde_json.specs.Find.{as_bool, as_str}
use Rattle.ds_base.specs.Limits.{most_results, greatest_client}
use Rattle.ds_base.specs.declared.value.Value.{Value}
use Rattle.ds_base.specs.declared.column.Column.{Column}
use Rattle.ds_base.specs.declared.named_value.NamedValue.{NamedValue}
use Rattle.ds_base.specs.Keys.{is_namespace}
use Rattle.ds_query.specs.declared.query.Op.{Op}
use Rattle.ds_query.specs.declared.query.Op.TheVariants as op
use Rattle.ds_query.specs.declared.query.Filter.{Filter}
use Rattle.ds_query.specs.declared.query.Select.{Select}
use Rattle.ds_query.specs.declared.query.Select.TheVariants as select
use Rattle.ds_json_reading.specs.declared.refusal.Refusal.{Refusal}
use Rattle.ds_json_reading.specs.declared.refusal.Refusal.TheVariants as refusal
use Rattle.ds_json_reading.specs.Reading.{and_then, read_as, each_member_of, from, some_of, up_to}
use Rattle.ds_json_reading.specs.Values.{value_of}

-- ---- texts, truth values and numbers

abbrev pub text_of : Data → Result (List ℕ) Refusal
text_of d = ok_or (as_str d) refusal.Request

-- a kind or a property's name in a query has at least one byte
abbrev pub name_of : Data → Result (List ℕ) Refusal
name_of d = and_then (text_of d) (λ s. cond (nat_le 1 (length s)) (Ok s) (Err refusal.Request))

abbrev pub namespace_of : Data → Result (List ℕ) Refusal
namespace_of d = and_then (text_of d) (λ s. cond (is_namespace s) (Ok s) (Err refusal.Request))

-- `true` or `false`
abbrev pub flag_of : Data → Result Bool Refusal
flag_of d = ok_or (as_bool d) refusal.Request

abbrev pub client_of : Data → Result ℕ Refusal
client_of d = ok_or (up_to greatest_client d) refusal.Request

-- an offset or a limit
abbrev pub results_of : Data → Result ℕ Refusal
results_of d = ok_or (up_to most_results d) refusal.Request

-- how many ids are asked for, at least 1
abbrev pub count_of : Data → Result ℕ Refusal
count_of d = ok_or (from 1 d) refusal.Request

-- a shard's number; whether there is such a shard isn't asked here
abbrev pub shard_of : Data → Result ℕ Refusal
shard_of d = ok_or (from 0 d) refusal.Request

-- ---- filters

abbrev pub op_of : Data → Result Op Refusal
op_of d = and_then (text_of d) (λ s.
    cond (bytes_eq s (codes "=")) (Ok op.Equal)
    (cond (bytes_eq s (codes "<")) (Ok op.Less)
    (cond (bytes_eq s (codes "<=")) (Ok op.LessEqual)
    (cond (bytes_eq s (codes ">")) (Ok op.Greater)
    (cond (bytes_eq s (codes ">=")) (Ok op.GreaterEqual)
    (cond (bytes_eq s (codes "!=")) (Ok op.NotEqual)
    (cond (bytes_eq s (codes "in")) (Ok op.OneOf)
    (Err refusal.Request))))))))

-- `in` takes an array of at least one value, every other operator one value
abbrev pub operands_of : Op → Data → Result (List Value) Refusal
operands_of op.OneOf d = some_of value_of d
operands_of _ d = read_as (λ v. v ∷ []) (value_of d)

-- a filter is [property, operator, value]
abbrev pub filter_of : Data → Result Filter Refusal
filter_of (array (item property (item operator (item value no_items)))) =
    and_then (name_of property) (λ name.
    and_then (op_of operator) (λ o.
    read_as (λ vs. record { property = name; op = o; values = vs }) (operands_of o value)))
filter_of _ = Err refusal.Request

-- ---- orders and selections

-- whether it descends
abbrev pub direction_of : Data → Result Bool Refusal
direction_of d = and_then (text_of d) (λ s.
    cond (bytes_eq s (codes "asc")) (Ok false) (cond (bytes_eq s (codes "desc")) (Ok true) (Err refusal.Request)))

-- an order is [property, "asc" or "desc"]
abbrev pub order_of : Data → Result Column Refusal
order_of (array (item property (item direction no_items))) =
    and_then (name_of property) (λ name. read_as (λ down. record { name = name; descending = down }) (direction_of direction))
order_of _ = Err refusal.Request

-- "entities", "keys", or an array of at least one property
abbrev pub select_of : Data → Result Select Refusal
select_of (string s) =
    cond (bytes_eq s (codes "entities")) (Ok select.Entities) (cond (bytes_eq s (codes "keys")) (Ok select.Keys) (Err refusal.Request))
select_of d = read_as select.Projection (some_of name_of d)

-- ---- the arguments of a statement

abbrev pub named_value_of : List ℕ → Data → Result (Option NamedValue) Refusal
named_value_of name d = read_as (λ v. Some (record { name = name; value = v })) (value_of d)

-- an object of values, in the order of their names
abbrev pub named_values_of : Data → Result (List NamedValue) Refusal
named_values_of (object ms) = each_member_of named_value_of ms
named_values_of _ = Err refusal.Request
