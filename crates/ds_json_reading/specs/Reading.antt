-- How the parts of a line are read. A form says what a JSON value is read as, or what is wrong with it.
use Rattle.std.specs.Prelude.{◌≡◌, ◌≢◌, ℕ, ℤ, pos, negsuc, List, [], ◌∷◌, ◌++◌, Option, Some, None, option_and_then, Result, Ok}
use Rattle.std.specs.Prelude.{Err, nat_le, cond, bytes_eq, false}
use Rattle.std.specs.Option.{option_to_list}
use Rattle.serde_json.specs.Data.{Data, null, array, Items, no_items, item, Members, no_members, member}
use Rattle.serde_json.specs.Find.{as_number, as_i64, get_member}
use Rattle.ds_json_reading.specs.declared.refusal.Refusal.{Refusal}
use Rattle.ds_json_reading.specs.declared.refusal.Refusal.TheVariants as refusal

-- ---- what a reader answers

-- what is read is what the definition gives, and so is what is wrong with it; lack of memory alone is free
abbrev pub Reads : {A E : Type 0} → E → Result A E → Result A E → Type 0
Reads no_memory given (Ok x) = given ≡ Ok x
Reads no_memory given (Err e) = e ≢ no_memory → given ≡ Err e

-- ---- one thing after another

-- what is read next, once this was read; or the first refusal
abbrev pub and_then : {A B E : Type 0} → Result A E → (A → Result B E) → Result B E
and_then (Ok x) f = f x
and_then (Err e) f = Err e

-- what was read, as something else
abbrev pub read_as : {A B E : Type 0} → (A → B) → Result A E → Result B E
read_as f (Ok x) = Ok (f x)
read_as f (Err e) = Err e

-- each item of an array by one form, from the first to the last
abbrev pub each_of : {A E : Type 0} → (Data → Result A E) → Items → Result (List A) E
each_of form no_items = Ok []
each_of form (item d ds) = and_then (form d) (λ x. read_as (λ xs. x ∷ xs) (each_of form ds))

-- each member of an object by one form, in the order of the names; a member may be read as nothing
abbrev pub each_member_of : {A E : Type 0} → (List ℕ → Data → Result (Option A) E) → Members → Result (List A) E
each_member_of form no_members = Ok []
each_member_of form (member name d ms) =
    and_then (form name d) (λ x. read_as (λ xs. option_to_list x ++ xs) (each_member_of form ms))

-- ---- members of an object

-- a member that is null counts as absent
abbrev pub unless_null : Option Data → Option Data
unless_null (Some null) = None
unless_null d = d

-- the member of this name; of members with one name an object has the last
abbrev pub member_of : List ℕ → Members → Option Data
member_of name ms = unless_null (get_member name ms)

-- a member of this form that has to be there
abbrev pub required : {A : Type 0} → (Data → Result A Refusal) → Option Data → Result A Refusal
required form None = Err refusal.Request
required form (Some d) = form d

-- a member of this form, or none
abbrev pub optional : {A : Type 0} → (Data → Result A Refusal) → Option Data → Result (Option A) Refusal
optional form None = Ok None
optional form (Some d) = read_as Some (form d)

-- a member of this form, for which something stands where it is absent
abbrev pub defaulted : {A : Type 0} → A → (Data → Result A Refusal) → Option Data → Result A Refusal
defaulted absent form None = Ok absent
defaulted absent form (Some d) = form d

-- two objects have the same members of all names but one
abbrev pub AgreeBut : List ℕ → Members → Members → Type 0
AgreeBut name ms ns = (other : List ℕ) → bytes_eq name other ≡ false → member_of other ms ≡ member_of other ns

-- ---- arrays

-- an array, each of whose items has one form
abbrev pub list_of : {A : Type 0} → (Data → Result A Refusal) → Data → Result (List A) Refusal
list_of form (array ds) = each_of form ds
list_of form _ = Err refusal.Request

-- the same with at least one item
abbrev pub some_of : {A : Type 0} → (Data → Result A Refusal) → Data → Result (List A) Refusal
some_of form (array (item d ds)) = each_of form (item d ds)
some_of form _ = Err refusal.Request

-- ---- integers

-- an integer is a number that fits 64 signed bits and is written without point and exponent; `-0` is none
abbrev pub integer_of : Data → Option ℤ
integer_of d = option_and_then as_i64 (as_number d)

abbrev pub natural_of : Data → Option ℕ
natural_of d = option_and_then natural (integer_of d) where
  natural : ℤ → Option ℕ
  natural (pos n) = Some n
  natural (negsuc n) = None

-- an integer from `least` on
abbrev pub from : ℕ → Data → Option ℕ
from least d = option_and_then (λ n. cond (nat_le least n) (Some n) None) (natural_of d)

-- an integer from 0 up to `greatest`
abbrev pub up_to : ℕ → Data → Option ℕ
up_to greatest d = option_and_then (λ n. cond (nat_le n greatest) (Some n) None) (natural_of d)
