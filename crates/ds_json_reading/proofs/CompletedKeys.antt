-- An incomplete key is read with an id at its end.
use Rattle.std.proofs.Common.{◌≡◌, ℕ, List, [], ◌∷◌, Bool, true, false, cond, refl, sym, ap, subst, ◌∙◌}
use Rattle.std.specs.Prelude.{Result, Ok, Err, IfOk}
use Rattle.serde_json.specs.Data.{Data, null, boolean, number, string, array, object, Items, no_items, item}
use Rattle.ds_base.specs.declared.key.Elem.{Elem}
use Rattle.ds_base.specs.declared.key.Ident.TheVariants.{Id}
use Rattle.ds_base.specs.Keys.{KeyParts, is_key, is_writable, ends_in_id}
use Rattle.ds_json_reading.specs.declared.refusal.Refusal.{Refusal}
use Rattle.ds_json_reading.specs.declared.refusal.Refusal.TheVariants as refusal
use Rattle.ds_json_reading.specs.Reading.{Reads, and_then, read_as, each_of}
use Rattle.ds_json_reading.specs.Keys.{elem_of, lawful_key, key_of, writable_key_of, completed, is_incomplete, entity_key_of}
use Rattle.ds_json_reading.proofs.KeysLemmas.{completed-more, is_incomplete-more}

-- the path of one incomplete element
one-ends : (d : Data) (path : List Elem) → is_incomplete (item d no_items) ≡ true → each_of elem_of (completed (item d no_items)) ≡ Ok path → ends_in_id path ≡ true
one-ends null path h is = cc
one-ends (boolean b) path h is = cc
one-ends (number n) path h is = cc
one-ends (string s) path h is = cc
one-ends (array no_items) path h is = cc
one-ends (array (item k no_items)) path h is = cc
one-ends (array (item null (item null no_items))) path h is = cc
one-ends (array (item (boolean b) (item null no_items))) path h is = cc
one-ends (array (item (number n) (item null no_items))) path h is = cc
one-ends (array (item (string s) (item null no_items))) path h is =
    let same : path ≡ (record { kind = s; ident = Id 1 }) ∷ [] = cc in
    ap (λ (p : List Elem). ends_in_id p) same
one-ends (array (item (array es) (item null no_items))) path h is = cc
one-ends (array (item (object ms) (item null no_items))) path h is = cc
one-ends (array (item k (item null (item x xs)))) path h is = cc
one-ends (array (item k (item (boolean b) xs))) path h is = cc
one-ends (array (item k (item (number n) xs))) path h is = cc
one-ends (array (item k (item (string s) xs))) path h is = cc
one-ends (array (item k (item (array ys) xs))) path h is = cc
one-ends (array (item k (item (object ms) xs))) path h is = cc
one-ends (object ms) path h is = cc

longer-ends : (e : Elem) (es : List Elem) → ends_in_id es ≡ true → ends_in_id (e ∷ es) ≡ true
longer-ends e [] h = cc
longer-ends e (f ∷ es) h = h

-- one element more before it
before : (first : Result Elem Refusal) (rest : Result (List Elem) Refusal) (path : List Elem) → ((es : List Elem) → rest ≡ Ok es → ends_in_id es ≡ true) →
    and_then first (λ x. read_as (λ xs. x ∷ xs) rest) ≡ Ok path → ends_in_id path ≡ true
before (Err e) rest path ends is = cc
before (Ok x) (Err e) path ends is = cc
before (Ok x) (Ok es) path ends is = let same : path ≡ x ∷ es = cc in ap (λ (p : List Elem). ends_in_id p) same ∙ longer-ends x es (ends es refl)

path-ends : (ds : Items) (path : List Elem) → is_incomplete ds ≡ true → each_of elem_of (completed ds) ≡ Ok path → ends_in_id path ≡ true
path-ends no_items path h is = cc
path-ends (item d no_items) path h is = one-ends d path h is
path-ends (item d (item e ds)) path h is =
    before (elem_of d) (each_of elem_of (completed (item e ds))) path
    (λ es. path-ends (item e ds) es (sym (is_incomplete-more d e ds) ∙ h))
    (ap (each_of elem_of) (sym (completed-more d e ds)) ∙ is)

abbrev ok_key : KeyParts → Result KeyParts Refusal
ok_key k = Ok k

lawful-path : (namespace : List ℕ) (path : List Elem) (k : KeyParts) → lawful_key namespace path ≡ Ok k → k.elems ≡ path
lawful-path namespace path k is = by (is_key (record { namespace = namespace; elems = path })) is where
  by : (b : Bool) → cond b (ok_key (record { namespace = namespace; elems = path })) (Err refusal.Key) ≡ Ok k → k.elems ≡ path
  by true is = let same : k ≡ record { namespace = namespace; elems = path } = cc in ap (λ (v : KeyParts). v.elems) same
  by false is = cc

from-path : (namespace : List ℕ) (read : Result (List Elem) Refusal) (k : KeyParts) → ((path : List Elem) → read ≡ Ok path → ends_in_id path ≡ true) → and_then read (lawful_key namespace) ≡ Ok k → ends_in_id k.elems ≡ true
from-path namespace (Err e) k ends is = cc
from-path namespace (Ok path) k ends is = ap ends_in_id (lawful-path namespace path k is) ∙ ends path refl

key-ends : (ds : Items) (k : KeyParts) → is_incomplete ds ≡ true → key_of (array (completed ds)) ≡ Ok k → ends_in_id k.elems ≡ true
key-ends no_items k h is = cc
key-ends (item d no_items) k h is = alone d k h is where
  alone : (d : Data) (k : KeyParts) → is_incomplete (item d no_items) ≡ true → key_of (array (completed (item d no_items))) ≡ Ok k → ends_in_id k.elems ≡ true
  alone null k h is = cc
  alone (boolean b) k h is = cc
  alone (number n) k h is = cc
  alone (string s) k h is = cc
  alone (array no_items) k h is = cc
  alone (array (item x no_items)) k h is = cc
  alone (array (item x (item null no_items))) k h is = from-path [] (each_of elem_of (completed (item (array (item x (item null no_items))) no_items))) k (λ path. one-ends (array (item x (item null no_items))) path h) is
  alone (array (item x (item null (item y ys)))) k h is = cc
  alone (array (item x (item (boolean b) ys))) k h is = cc
  alone (array (item x (item (number n) ys))) k h is = cc
  alone (array (item x (item (string s) ys))) k h is = cc
  alone (array (item x (item (array zs) ys))) k h is = cc
  alone (array (item x (item (object ms) ys))) k h is = cc
  alone (object ms) k h is = cc
key-ends (item d (item e ds)) k h is =
    behind d (completed (item e ds)) k (λ path. path-ends (item e ds) path inner) (λ path read. path-ends (item d (item e ds)) path h (ap (each_of elem_of) (completed-more d e ds) ∙ read))
    (ap (λ items. key_of (array items)) (sym (completed-more d e ds)) ∙ is)
  where
    inner : is_incomplete (item e ds) ≡ true
    inner = sym (is_incomplete-more d e ds) ∙ h

    behind : (d : Data) (rest : Items) (k : KeyParts) → ((path : List Elem) → each_of elem_of rest ≡ Ok path → ends_in_id path ≡ true) → ((path : List Elem) → each_of elem_of (item d rest) ≡ Ok path → ends_in_id path ≡ true) →
        key_of (array (item d rest)) ≡ Ok k → ends_in_id k.elems ≡ true
    behind (string namespace) rest k named plain is = from-path namespace (each_of elem_of rest) k named is
    behind null rest k named plain is = from-path [] (each_of elem_of (item null rest)) k plain is
    behind (boolean b) rest k named plain is = from-path [] (each_of elem_of (item (boolean b) rest)) k plain is
    behind (number n) rest k named plain is = from-path [] (each_of elem_of (item (number n) rest)) k plain is
    behind (array es) rest k named plain is = from-path [] (each_of elem_of (item (array es) rest)) k plain is
    behind (object ms) rest k named plain is = from-path [] (each_of elem_of (item (object ms) rest)) k plain is

writable-ends : (read : Result KeyParts Refusal) (k : KeyParts) → ((v : KeyParts) → read ≡ Ok v → ends_in_id v.elems ≡ true) → and_then read (λ v. cond (is_writable v) (Ok v) (Err refusal.Key)) ≡ Ok k → ends_in_id k.elems ≡ true
writable-ends (Err e) k ends is = cc
writable-ends (Ok v) k ends is = by (is_writable v) is where
  by : (b : Bool) → cond b (ok_key v) (Err refusal.Key) ≡ Ok k → ends_in_id k.elems ≡ true
  by true is = ap (λ (w : KeyParts). ends_in_id w.elems) (let same : k ≡ v = cc in same) ∙ ends v refl
  by false is = cc

-- an incomplete key that is read ends in an id
pub entity_key-ends : (ds : Items) (read : KeyParts × Bool) → entity_key_of (array ds) ≡ Ok read → read.1 ≡ true → ends_in_id read.0.elems ≡ true
entity_key-ends ds read is incomplete = by (writable_key_of (array (completed ds))) refl is where
  by : (r : Result KeyParts Refusal) → writable_key_of (array (completed ds)) ≡ r → read_as (λ k. (k, is_incomplete ds)) r ≡ Ok read → ends_in_id read.0.elems ≡ true
  by (Err e) was is = cc
  by (Ok k) was is =
      let same : read ≡ (k, is_incomplete ds) = cc in
      ap (λ (r : KeyParts × Bool). ends_in_id r.0.elems) same
      ∙ writable-ends (key_of (array (completed ds))) k (λ v. key-ends ds v (sym (ap (λ (r : KeyParts × Bool). r.1) same) ∙ incomplete)) was

pub read-ends : (ds : Items) (r : Result (KeyParts × Bool) Refusal) → Reads refusal.NoMemory (entity_key_of (array ds)) r → IfOk r (λ k. k.1 ≡ true → ends_in_id k.0.elems ≡ true)
read-ends ds (Ok k) is = entity_key-ends ds k is
read-ends ds (Err e) is = tt
