-- A key that is shown is read back as that key.
use Rattle.std.proofs.Common.{◌≡◌, ℕ, ◌^◌, ◌<◌, ◌≤◌, ◌&&◌, nat_le, List, [], ◌∷◌, length, true, false, cond, refl}
use Rattle.std.proofs.Common.{ap, ◌∙◌, arith, lt-ltb}
use Rattle.std.specs.Prelude.{Result, Ok, Err}
use Rattle.std.specs.List.{list_all}
use Rattle.std.proofs.lemmas.Bool.{and_parts, leb-true}
use Rattle.serde_json.specs.Data.{Data, string, array, Items, no_items, item}
use Rattle.ds_base.specs.Keys.{KeyParts, is_key, is_path, is_elem, is_ident, is_name, is_namespace, is_writable}
use Rattle.ds_base.specs.Limits.{greatest_id, most_elements}
use Rattle.ds_base.specs.declared.key.Ident.{Ident}
use Rattle.ds_base.specs.declared.key.Ident.TheVariants.{Id, Name}
use Rattle.ds_base.specs.declared.key.Elem.{Elem}
use Rattle.ds_json_reading.specs.declared.refusal.Refusal.{Refusal}
use Rattle.ds_json_reading.specs.declared.refusal.Refusal.TheVariants as refusal
use Rattle.ds_json_reading.specs.Reading.{and_then, read_as, each_of}
use Rattle.ds_json_reading.specs.Keys.{ident_of, elem_of, key_of, lawful_key, writable_key_of, completed, is_incomplete, entity_key_of}
use Rattle.ds_json_printing.specs.Printing.{ident_data, elem_data, elem_items, keyed_items, key_data}

ident_back : (i : Ident) → is_ident i ≡ true → ident_of (ident_data i) ≡ Ok i
ident_back (Id n) h =
    let within : n ≤ greatest_id = leb-true n greatest_id (and_parts (nat_le 1 n) (nat_le n greatest_id) h).1 in
    let small : n < 2 ^ 63 = omega arith in
    rw (lt-ltb n 9223372036854775808 small) refl
ident_back (Name s) h = refl

elem_back : (e : Elem) → is_elem e ≡ true → elem_of (elem_data e) ≡ Ok e
elem_back e h = ap (read_as (λ i. record { kind = e.kind; ident = i })) (ident_back e.ident (and_parts (is_name e.kind) (is_ident e.ident) h).1)

elems_back : (es : List Elem) → list_all is_elem es ≡ true → each_of elem_of (elem_items es) ≡ Ok es
elems_back [] h = refl
elems_back (e ∷ es) h =
    let p = and_parts _ _ h in
    ap (λ o. and_then o (λ x. read_as (λ xs. x ∷ xs) (each_of elem_of (elem_items es)))) (elem_back e p.0)
    ∙ ap (read_as (λ xs. e ∷ xs)) (elems_back es p.1)

default_key : (es : List Elem) → key_of (array (elem_items es)) ≡ and_then (each_of elem_of (elem_items es)) (lawful_key [])
default_key [] = refl
default_key (e ∷ es) = refl

lawful_back : (namespace : List ℕ) (es : List Elem) → is_key (record { namespace = namespace; elems = es }) ≡ true → lawful_key namespace es ≡ Ok (record { namespace = namespace; elems = es })
lawful_back namespace es h =
    let k : KeyParts = record { namespace = namespace; elems = es } in
    let given : Result KeyParts Refusal = Ok k in
    let refused : Result KeyParts Refusal = Err refusal.Key in
    ap (λ b. cond b given refused) h

path_elems : (namespace : List ℕ) (es : List Elem) → is_key (record { namespace = namespace; elems = es }) ≡ true → list_all is_elem es ≡ true
path_elems namespace es h =
    let path : is_path es ≡ true = (and_parts (is_namespace namespace) (is_path es) h).1 in
    (and_parts (nat_le 1 (length es) && nat_le (length es) most_elements) (list_all is_elem es) path).1

parts_back : (namespace : List ℕ) (es : List Elem) → is_key (record { namespace = namespace; elems = es }) ≡ true
    → key_of (array (keyed_items namespace es)) ≡ Ok (record { namespace = namespace; elems = es })
parts_back [] es h =
    default_key es ∙ ap (λ o. and_then o (lawful_key [])) (elems_back es (path_elems [] es h)) ∙ lawful_back [] es h
parts_back (b ∷ bs) es h =
    ap (λ o. and_then o (lawful_key (b ∷ bs))) (elems_back es (path_elems (b ∷ bs) es h)) ∙ lawful_back (b ∷ bs) es h

pub key_back : (k : KeyParts) → is_key k ≡ true → key_of (key_data k) ≡ Ok k
key_back k h = parts_back k.namespace k.elems h

-- ---- the key of an entity

whole_elem : (kind : Data) (i : Ident) (rest : Items) → completed rest ≡ rest → completed (item (array (item kind (item (ident_data i) no_items))) rest) ≡ item (array (item kind (item (ident_data i) no_items))) rest
whole_elem kind (Id n) no_items h = refl
whole_elem kind (Name s) no_items h = refl
whole_elem kind (Id n) (item d ds) h = ap (item (array (item kind (item (ident_data (Id n)) no_items)))) h
whole_elem kind (Name s) (item d ds) h = ap (item (array (item kind (item (ident_data (Name s)) no_items)))) h

elems_whole : (es : List Elem) → completed (elem_items es) ≡ elem_items es
elems_whole [] = refl
elems_whole (e ∷ es) = whole_elem (string e.kind) e.ident (elem_items es) (elems_whole es)

keyed_whole : (namespace : List ℕ) (es : List Elem) → completed (keyed_items namespace es) ≡ keyed_items namespace es
keyed_whole [] es = elems_whole es
keyed_whole (b ∷ bs) es = ap (item (string (b ∷ bs))) (elems_whole es)

complete_elem : (kind : Data) (i : Ident) (rest : Items) → is_incomplete rest ≡ false → is_incomplete (item (array (item kind (item (ident_data i) no_items))) rest) ≡ false
complete_elem kind (Id n) no_items h = refl
complete_elem kind (Name s) no_items h = refl
complete_elem kind (Id n) (item d ds) h = h
complete_elem kind (Name s) (item d ds) h = h

elems_complete : (es : List Elem) → is_incomplete (elem_items es) ≡ false
elems_complete [] = refl
elems_complete (e ∷ es) = complete_elem (string e.kind) e.ident (elem_items es) (elems_complete es)

keyed_complete : (namespace : List ℕ) (es : List Elem) → is_incomplete (keyed_items namespace es) ≡ false
keyed_complete [] es = elems_complete es
keyed_complete (b ∷ bs) es = elems_complete es

writable_back : (k : KeyParts) → is_key k ≡ true → is_writable k ≡ true → writable_key_of (key_data k) ≡ Ok k
writable_back k h writable =
    let given : Result KeyParts Refusal = Ok k in
    let refused : Result KeyParts Refusal = Err refusal.Key in
    ap (λ o. and_then o (λ k. cond (is_writable k) (Ok k) (Err refusal.Key))) (key_back k h) ∙ ap (λ b. cond b given refused) writable

pub entity_key_back : (k : KeyParts) → is_key k ≡ true → is_writable k ≡ true → entity_key_of (key_data k) ≡ Ok (k, false)
entity_key_back k h writable =
    ap (λ ds. read_as (λ j. (j, is_incomplete (keyed_items k.namespace k.elems))) (writable_key_of (array ds))) (keyed_whole k.namespace k.elems)
    ∙ ap (read_as (λ j. (j, is_incomplete (keyed_items k.namespace k.elems)))) (writable_back k h writable)
    ∙ ap (λ b. Ok (k, b)) (keyed_complete k.namespace k.elems)
