-- Values as JSON.
use Rattle.std.specs.Prelude.{ℕ, List, [], ◌∷◌, Bool, true, false, Option, option_and_then, bytes_eq, Result, Ok, Err, cond, codes}
use Rattle.std.specs.Option.{ok_or}
use Rattle.std.specs.Result.{result_ok}
use Rattle.serde_json.specs.Data.{Data, null, boolean, number, string, array, object, no_members, member}
use Rattle.serde_json.specs.Find.{as_str}
use Rattle.base64.specs.Engines.{standard}
use Rattle.base64.specs.GeneralPurpose.{decode_of}
use Rattle.ds_base.specs.Limits.{greatest_rating}
use Rattle.ds_base.specs.declared.value.Value.{Value}
use Rattle.ds_base.specs.declared.value.Value.TheVariants as value
use Rattle.ds_base.specs.Values.{is_faulty_value}
use Rattle.ds_json_reading.specs.declared.refusal.Refusal.{Refusal}
use Rattle.ds_json_reading.specs.declared.refusal.Refusal.TheVariants as refusal
use Rattle.ds_json_reading.specs.Reading.{and_then, read_as, each_of, integer_of, up_to}
use Rattle.ds_json_reading.specs.Keys.{key_of}

-- base64 in its one strict form, with padding
abbrev pub base64_of : Data → Option (List ℕ)
base64_of d = option_and_then (λ text. result_ok (decode_of standard text)) (as_str d)

-- the value in an object of one member, by the member's name
abbrev pub tagged_value_of : List ℕ → Data → Result Value Refusal
tagged_value_of name d =
    cond (bytes_eq name (codes "date")) (read_as value.Date (ok_or (integer_of d) refusal.Value))
    (cond (bytes_eq name (codes "rating")) (read_as value.Rating (ok_or (up_to greatest_rating d) refusal.Value))
    (cond (bytes_eq name (codes "bytes")) (read_as value.Bytes (ok_or (base64_of d) refusal.Value))
    (cond (bytes_eq name (codes "text")) (read_as value.Text (ok_or (as_str d) refusal.Value))
    (cond (bytes_eq name (codes "blob")) (read_as value.Blob (ok_or (base64_of d) refusal.Value))
    (cond (bytes_eq name (codes "key")) (read_as value.Key (key_of d))
    (Err refusal.Value))))))

-- any other number, an array, and any other object is no value
abbrev pub value_of : Data → Result Value Refusal
value_of null = Ok value.Null
value_of (boolean b) = Ok (value.Bool b)
value_of (number n) = read_as value.Int (ok_or (integer_of (number n)) refusal.Value)
value_of (string s) = Ok (value.Str s)
value_of (array ds) = Err refusal.Value
value_of (object (member name d no_members)) = tagged_value_of name d
value_of (object _) = Err refusal.Value

-- a property's value: an indexed string or byte string has at most 1,500 bytes
abbrev pub property_value_of : Bool → Data → Result Value Refusal
property_value_of indexed d = and_then (value_of d) (λ v. cond (is_faulty_value indexed v) (Err refusal.Value) (Ok v))

-- one value, or an array of them
abbrev pub values_of : Bool → Data → Result (List Value) Refusal
values_of indexed (array ds) = each_of (property_value_of indexed) ds
values_of indexed d = read_as (λ v. v ∷ []) (property_value_of indexed d)

-- whether indexes hold the values of a property, and the values: `{"unindexed":v}` alone says that they don't
abbrev pub property_values_of : Data → Result (Bool × List Value) Refusal
property_values_of (object (member name d no_members)) =
    cond (bytes_eq name (codes "unindexed")) (read_as (λ vs. (false, vs)) (values_of false d))
    (read_as (λ vs. (true, vs)) (values_of true (object (member name d no_members))))
property_values_of d = read_as (λ vs. (true, vs)) (values_of true d)
