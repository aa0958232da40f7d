-- Keys that are arrays of pairs.
use Rattle.std.proofs.Common.{◌≡◌, ℕ, ◌-◌, ◌<◌, List, [], ◌∷◌, length, Bool, true, false, cond, Option, Some, None, IfSome, Result, Ok, Err, refl, ap, ◌∙◌, arith}
use Rattle.json.specs.Token.{Token}
use Rattle.json.specs.Json.{after_end_array}
use Rattle.json.proofs.Grammar.{after_end_array-shorter}
use Rattle.serde_json.specs.Data.{Data, null, boolean, number, string, array, object, Items, no_items, item}
use Rattle.ds_base.specs.declared.key.Ident.{Ident}
use Rattle.ds_base.specs.declared.key.Elem.{Elem}
use Rattle.ds_base.specs.Keys.{KeyParts, is_writable}
use Rattle.ds_json_reading.specs.declared.refusal.Refusal.{Refusal}
use Rattle.ds_json_reading.specs.declared.refusal.Refusal.TheVariants as refusal
use Rattle.ds_json_reading.specs.Reading.{and_then, read_as, each_of, list_of}
use Rattle.ds_json_reading.specs.Keys.{ident_of, elem_of, lawful_key, key_of, writable_key_of, completed, is_incomplete, entity_key_of}
use Rattle.ds_json_reading.proofs.KeysLemmas.{completed-more, is_incomplete-more}
use Rattle.ds_line_reading.specs.Parts.{data_of, IsRead}
use Rattle.ds_line_reading.proofs.PartLaws.{begins_given, scalar_going, items_over, items_then, array_given}

-- an element: a kind and an identifier between brackets
pub elem_read : (depth : ℕ) (old r1 r2 r3 new : List Token) (kind : List ℕ) (t : Token) (d : Data) (i : Ident) → 0 < depth → old ≡ Token.begin_array ∷ r1 → r1 ≡ Token.string kind ∷ r2
    → r2 ≡ t ∷ r3 → data_of t ≡ Some d → after_end_array r3 ≡ Some new → ident_of d ≡ Ok i → IsRead depth elem_of old (record { kind = kind; ident = i }) new
elem_read depth old r1 r2 r3 new kind t d i some begun first second is over ident =
    let inner = depth - 1 in
    let last = items_then inner r2 r3 new d no_items (ap after_end_array second ∙ scalar_going t d r3 is) (begins_given inner r2 d r3 (t, second, is)) (omega (arith, ap length second)) (items_over inner r3 new over) in
    let both = items_then inner r1 r2 new (string kind) (item d no_items) (ap after_end_array first) (begins_given inner r1 (string kind) r2 (Token.string kind, first, refl)) (omega (arith, ap length first)) last in (
      array (item (string kind) (item d no_items)),
      array_given depth old r1 new (item (string kind) (item d no_items)) begun some both,
      ap (read_as (λ j. record { kind = kind; ident = j })) ident,
      omega (arith, ap length begun, ap length first, ap length second, after_end_array-shorter r3 new over),
    )

-- ---- a key of such elements

behind_each : (ds : Items) (path : List Elem) (k : KeyParts) → each_of elem_of ds ≡ Ok path → lawful_key [] path ≡ Ok k → and_then (each_of elem_of ds) (lawful_key []) ≡ Ok k
behind_each ds path k is lawful = ap (λ r. and_then r (lawful_key [])) is ∙ lawful

pub key_read : (d : Data) (path : List Elem) (k : KeyParts) → list_of elem_of d ≡ Ok path → lawful_key [] path ≡ Ok k → key_of d ≡ Ok k
key_read null path k is lawful = absurd cc
key_read (boolean b) path k is lawful = absurd cc
key_read (number n) path k is lawful = absurd cc
key_read (string s) path k is lawful = absurd cc
key_read (object ms) path k is lawful = absurd cc
key_read (array no_items) path k is lawful = behind_each no_items path k is lawful
key_read (array (item null ds)) path k is lawful = behind_each (item null ds) path k is lawful
key_read (array (item (boolean b) ds)) path k is lawful = behind_each (item (boolean b) ds) path k is lawful
key_read (array (item (number n) ds)) path k is lawful = behind_each (item (number n) ds) path k is lawful
key_read (array (item (string s) ds)) path k is lawful = absurd cc
key_read (array (item (array es) ds)) path k is lawful = behind_each (item (array es) ds) path k is lawful
key_read (array (item (object ms) ds)) path k is lawful = behind_each (item (object ms) ds) path k is lawful

-- ---- no identifier is left open

abbrev IsComplete : Items → Type 0
IsComplete ds = (completed ds ≡ ds) × (is_incomplete ds ≡ false)

one_complete : (d : Data) (e : Elem) → elem_of d ≡ Ok e → IsComplete (item d no_items)
one_complete null e is = (refl, refl)
one_complete (boolean b) e is = (refl, refl)
one_complete (number n) e is = (refl, refl)
one_complete (string s) e is = (refl, refl)
one_complete (object ms) e is = (refl, refl)
one_complete (array no_items) e is = (refl, refl)
one_complete (array (item k no_items)) e is = (refl, refl)
one_complete (array (item null (item null no_items))) e is = absurd cc
one_complete (array (item (boolean b) (item null no_items))) e is = absurd cc
one_complete (array (item (number n) (item null no_items))) e is = absurd cc
one_complete (array (item (string s) (item null no_items))) e is = absurd cc
one_complete (array (item (array es) (item null no_items))) e is = absurd cc
one_complete (array (item (object ms) (item null no_items))) e is = absurd cc
one_complete (array (item k (item null (item x xs)))) e is = (refl, refl)
one_complete (array (item k (item (boolean b) xs))) e is = (refl, refl)
one_complete (array (item k (item (number n) xs))) e is = (refl, refl)
one_complete (array (item k (item (string s) xs))) e is = (refl, refl)
one_complete (array (item k (item (array ys) xs))) e is = (refl, refl)
one_complete (array (item k (item (object ms) xs))) e is = (refl, refl)

-- the first item and the others of a list that was read
record AreBoth (d : Data) (ds : Items) : Type 0 where
  pub first : Elem
  pub first_read : elem_of d ≡ Ok first
  pub others : List Elem
  pub others_read : each_of elem_of ds ≡ Ok others

both_read : (d : Data) (ds : Items) (path : List Elem) → each_of elem_of (item d ds) ≡ Ok path → AreBoth d ds
both_read d ds path h = by (elem_of d) (each_of elem_of ds) refl refl h where
  by : (first : Result Elem Refusal) (rest : Result (List Elem) Refusal) → elem_of d ≡ first → each_of elem_of ds ≡ rest → and_then first (λ x. read_as (λ xs. x ∷ xs) rest) ≡ Ok path → AreBoth d ds
  by (Ok e) (Ok es) one more h = record { first = e; first_read = one; others = es; others_read = more }
  by (Ok e) (Err r) one more h = absurd cc
  by (Err r) rest one more h = absurd cc

complete : (ds : Items) (path : List Elem) → each_of elem_of ds ≡ Ok path → IsComplete ds
complete no_items path h = (refl, refl)
complete (item d no_items) path h = let r = both_read d no_items path h in one_complete d r.first r.first_read
complete (item d (item e ds)) path h =
    let r = both_read d (item e ds) path h in
    let rest = complete (item e ds) r.others r.others_read in
    (completed-more d e ds ∙ ap (item d) rest.0, is_incomplete-more d e ds ∙ rest.1)

pub entity_key_read : (d : Data) (path : List Elem) (k : KeyParts) → list_of elem_of d ≡ Ok path → lawful_key [] path ≡ Ok k → is_writable k ≡ true → entity_key_of d ≡ Ok (k, false)
entity_key_read null path k is lawful writable = absurd cc
entity_key_read (boolean b) path k is lawful writable = absurd cc
entity_key_read (number n) path k is lawful writable = absurd cc
entity_key_read (string s) path k is lawful writable = absurd cc
entity_key_read (object ms) path k is lawful writable = absurd cc
entity_key_read (array ds) path k is lawful writable =
    let whole = complete ds path is in
    ap (λ es. read_as (λ v. (v, is_incomplete ds)) (writable_key_of (array es))) whole.0
    ∙ (ap (λ b. read_as (λ v. (v, b)) (writable_key_of (array ds))) whole.1
    ∙ (ap (λ r. read_as (λ v. (v, false)) (and_then r (λ v. cond (is_writable v) (Ok v) (Err refusal.Key)))) (key_read (array ds) path k is lawful)
    ∙ ap (λ b. read_as (λ v. (v, false)) (cond b (Ok k) (Err refusal.Key))) writable))

-- the key of a path that was read, if it is one
pub key_if : (depth : ℕ) (old new : List Token) (path : List Elem) (found : Option KeyParts) → IsRead depth (list_of elem_of) old path new → IfSome found (λ k. lawful_key [] path ≡ Ok k)
    → IfSome found (λ k. IsRead depth key_of old k new)
key_if depth old new path None one h = tt
key_if depth old new path (Some k) one h = (one.0, one.1, key_read one.0 path k one.2 h, one.3)
