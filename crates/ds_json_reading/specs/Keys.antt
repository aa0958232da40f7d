-- Keys as JSON.
use Rattle.std.specs.Prelude.{ℕ, List, [], Bool, true, false, Result, Ok, Err, cond}
use Rattle.std.specs.Option.{ok_or}
use Rattle.serde_json.specs.Data.{Data, unsigned, null, number, string, array, Items, no_items, item}
use Rattle.ds_base.specs.declared.key.Ident.{Ident}
use Rattle.ds_base.specs.declared.key.Ident.TheVariants.{Id, Name}
use Rattle.ds_base.specs.declared.key.Elem.{Elem}
use Rattle.ds_base.specs.Keys.{KeyParts, is_key, is_writable}
use Rattle.ds_json_reading.specs.declared.refusal.Refusal.{Refusal}
use Rattle.ds_json_reading.specs.declared.refusal.Refusal.TheVariants as refusal
use Rattle.ds_json_reading.specs.Reading.{and_then, read_as, each_of, natural_of}

-- an identifier is an integer or a text
abbrev pub ident_of : Data → Result Ident Refusal
ident_of (number n) = read_as Id (ok_or (natural_of (number n)) refusal.Key)
ident_of (string name) = Ok (Name name)
ident_of _ = Err refusal.Key

-- an element is [kind, identifier]
abbrev pub elem_of : Data → Result Elem Refusal
elem_of (array (item (string kind) (item ident no_items))) = read_as (λ i. record { kind = kind; ident = i }) (ident_of ident)
elem_of _ = Err refusal.Key

-- a namespace and a path, where they keep the rules of a key
abbrev pub lawful_key : List ℕ → List Elem → Result KeyParts Refusal
lawful_key namespace path =
    cond (is_key (record { namespace = namespace; elems = path })) (Ok (record { namespace = namespace; elems = path })) (Err refusal.Key)

-- a key is an array of elements, before which its namespace may stand
abbrev pub key_of : Data → Result KeyParts Refusal
key_of (array (item (string namespace) ds)) = and_then (each_of elem_of ds) (lawful_key namespace)
key_of (array ds) = and_then (each_of elem_of ds) (lawful_key [])
key_of _ = Err refusal.Key

-- a key under which something is written or deleted: no kind and no name is reserved
abbrev pub writable_key_of : Data → Result KeyParts Refusal
writable_key_of d = and_then (key_of d) (λ k. cond (is_writable k) (Ok k) (Err refusal.Key))

-- a path whose last identifier is null is incomplete: it is read as if that were the id 1
abbrev pub completed : Items → Items
completed no_items = no_items
completed (item (array (item kind (item null no_items))) no_items) = item (array (item kind (item (number (unsigned 1)) no_items))) no_items
completed (item d ds) = item d (completed ds)

abbrev pub is_incomplete : Items → Bool
is_incomplete no_items = false
is_incomplete (item (array (item kind (item null no_items))) no_items) = true
is_incomplete (item d ds) = is_incomplete ds

-- the key of an entity, and whether it is incomplete
abbrev pub entity_key_of : Data → Result (KeyParts × Bool) Refusal
entity_key_of (array ds) = read_as (λ k. (k, is_incomplete ds)) (writable_key_of (array (completed ds)))
entity_key_of _ = Err refusal.Key
