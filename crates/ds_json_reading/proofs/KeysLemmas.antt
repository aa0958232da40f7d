-- Reading keys: elements, paths, and the completion of a path.
use Rattle.std.proofs.Common.{◌≡◌, ℕ, zero, suc, List, [], ◌∷◌, ◌++◌, length, true, false, Result, Ok, Err, refl, sym, ap, ◌∙◌, is_some}
use Rattle.std.proofs.Common.{get_or, set, arith}
use Rattle.serde_json.specs.Data.{Data, unsigned, null, boolean, number, string, array, object, Items, no_items, item}
use Rattle.serde_json.specs.Events.{items_len}
use Rattle.serde_json.specs.Find.{as_null}
use Rattle.serde_json.specs.View.{view, items_view}
use Rattle.serde_json.specs.declared.value.Value.{Value}
use Rattle.serde_json.proofs.Views.{items_len-items_view}
use Rattle.ds_json_reading.specs.declared.refusal.Refusal.TheVariants as refusal
use Rattle.ds_json_reading.specs.Reading.{and_then, read_as}
use Rattle.ds_json_reading.specs.Keys.{elem_of, completed, is_incomplete}

-- ---- elements and paths

elem_of-not_two_items : (ds : Items) → (items_len ds ≡ 2 → ⊥) → elem_of (array ds) ≡ Err refusal.Key
elem_of-not_two_items no_items h = refl
elem_of-not_two_items (item null ds) h = refl
elem_of-not_two_items (item (boolean b) ds) h = refl
elem_of-not_two_items (item (number n) ds) h = refl
elem_of-not_two_items (item (string s) no_items) h = refl
elem_of-not_two_items (item (string s) (item d no_items)) h = absurd (h refl)
elem_of-not_two_items (item (string s) (item d (item e ds))) h = refl
elem_of-not_two_items (item (array es) ds) h = refl
elem_of-not_two_items (item (object ms) ds) h = refl

-- an array of other than two items is no element
pub elem_of-not_two : (vs : List Value) → (length vs ≡ 2 → ⊥) → elem_of (array (items_view vs)) ≡ Err refusal.Key
elem_of-not_two vs h = elem_of-not_two_items (items_view vs) (λ e. h (sym (items_len-items_view vs) ∙ e))

-- the elements that are left of a path, behind those that were read, and what is made of the path
pub path_read : {A B E : Type 0} (r : Result (List A) E) (begun path : List A) (make : List A → Result B E) → read_as (λ xs. begun ++ xs) r ≡ Ok path → and_then r (λ xs. make (begun ++ xs)) ≡ make path
path_read (Ok xs) begun path make h = let e : begun ++ xs ≡ path = cc in ap make e
path_read (Err e) begun path make h = cc

pub path_refused : {A B E : Type 0} (r : Result (List A) E) (begun : List A) (make : List A → Result B E) (e : E) → read_as (λ xs. begun ++ xs) r ≡ Err e → and_then r (λ xs. make (begun ++ xs)) ≡ Err e
path_refused (Ok xs) begun make e h = cc
path_refused (Err f) begun make e h = cc

-- ---- completion

pub completed-more : (d e : Data) (ds : Items) → completed (item d (item e ds)) ≡ item d (completed (item e ds))
completed-more null e ds = refl
completed-more (boolean b) e ds = refl
completed-more (number n) e ds = refl
completed-more (string s) e ds = refl
completed-more (array no_items) e ds = refl
completed-more (array (item k no_items)) e ds = refl
completed-more (array (item k (item null no_items))) e ds = refl
completed-more (array (item k (item null (item x xs)))) e ds = refl
completed-more (array (item k (item (boolean b) xs))) e ds = refl
completed-more (array (item k (item (number n) xs))) e ds = refl
completed-more (array (item k (item (string s) xs))) e ds = refl
completed-more (array (item k (item (array ys) xs))) e ds = refl
completed-more (array (item k (item (object ms) xs))) e ds = refl
completed-more (object ms) e ds = refl

pub is_incomplete-more : (d e : Data) (ds : Items) → is_incomplete (item d (item e ds)) ≡ is_incomplete (item e ds)
is_incomplete-more null e ds = refl
is_incomplete-more (boolean b) e ds = refl
is_incomplete-more (number n) e ds = refl
is_incomplete-more (string s) e ds = refl
is_incomplete-more (array no_items) e ds = refl
is_incomplete-more (array (item k no_items)) e ds = refl
is_incomplete-more (array (item k (item null no_items))) e ds = refl
is_incomplete-more (array (item k (item null (item x xs)))) e ds = refl
is_incomplete-more (array (item k (item (boolean b) xs))) e ds = refl
is_incomplete-more (array (item k (item (number n) xs))) e ds = refl
is_incomplete-more (array (item k (item (string s) xs))) e ds = refl
is_incomplete-more (array (item k (item (array ys) xs))) e ds = refl
is_incomplete-more (array (item k (item (object ms) xs))) e ds = refl
is_incomplete-more (object ms) e ds = refl

-- an element that isn't incomplete stays
pub completed-complete : (d : Data) → is_incomplete (item d no_items) ≡ false → completed (item d no_items) ≡ item d no_items
completed-complete null h = refl
completed-complete (boolean b) h = refl
completed-complete (number n) h = refl
completed-complete (string s) h = refl
completed-complete (array no_items) h = refl
completed-complete (array (item k no_items)) h = refl
completed-complete (array (item k (item null no_items))) h = cc
completed-complete (array (item k (item null (item x xs)))) h = refl
completed-complete (array (item k (item (boolean b) xs))) h = refl
completed-complete (array (item k (item (number n) xs))) h = refl
completed-complete (array (item k (item (string s) xs))) h = refl
completed-complete (array (item k (item (array ys) xs))) h = refl
completed-complete (array (item k (item (object ms) xs))) h = refl
completed-complete (object ms) h = refl

pub incomplete_ident : (k d : Data) → is_incomplete (item (array (item k (item d no_items))) no_items) ≡ true → d ≡ null
incomplete_ident k null h = refl
incomplete_ident k (boolean b) h = cc
incomplete_ident k (number n) h = cc
incomplete_ident k (string s) h = cc
incomplete_ident k (array ds) h = cc
incomplete_ident k (object ms) h = cc

-- a kind and null, with the id 1 in the second place
pub completed-incomplete : (vs : List Value) (one : Value) → length vs ≡ 2 → is_incomplete (item (array (items_view vs)) no_items) ≡ true → view one ≡ number (unsigned 1) → item (array (items_view (set vs 1 one))) no_items ≡ completed (item (array (items_view vs)) no_items)
completed-incomplete [] one two h is = cc
completed-incomplete (k ∷ []) one two h is = cc
completed-incomplete (k ∷ i ∷ []) one two h is = rw (is, incomplete_ident (view k) (view i) h) refl
completed-incomplete (k ∷ i ∷ v ∷ vs) one two h is = absurd (omega arith)

is_incomplete-not_two_items : (ds : Items) → (items_len ds ≡ 2 → ⊥) → is_incomplete (item (array ds) no_items) ≡ false
is_incomplete-not_two_items no_items h = refl
is_incomplete-not_two_items (item k no_items) h = refl
is_incomplete-not_two_items (item k (item null no_items)) h = absurd (h refl)
is_incomplete-not_two_items (item k (item null (item d ds))) h = refl
is_incomplete-not_two_items (item k (item (boolean b) ds)) h = refl
is_incomplete-not_two_items (item k (item (number n) ds)) h = refl
is_incomplete-not_two_items (item k (item (string s) ds)) h = refl
is_incomplete-not_two_items (item k (item (array es) ds)) h = refl
is_incomplete-not_two_items (item k (item (object ms) ds)) h = refl

pub is_incomplete-not_two : (vs : List Value) → (length vs ≡ 2 → ⊥) → is_incomplete (item (array (items_view vs)) no_items) ≡ false
is_incomplete-not_two vs h = is_incomplete-not_two_items (items_view vs) (λ e. h (sym (items_len-items_view vs) ∙ e))

is_incomplete-ident : (k d : Data) → is_some (as_null d) ≡ is_incomplete (item (array (item k (item d no_items))) no_items)
is_incomplete-ident k null = refl
is_incomplete-ident k (boolean b) = refl
is_incomplete-ident k (number n) = refl
is_incomplete-ident k (string s) = refl
is_incomplete-ident k (array ds) = refl
is_incomplete-ident k (object ms) = refl

-- a kind and an identifier, which is null or not
pub is_incomplete-two : (vs : List Value) (d : Value) → length vs ≡ 2 → is_some (as_null (view (get_or vs 1 d))) ≡ is_incomplete (item (array (items_view vs)) no_items)
is_incomplete-two [] d two = cc
is_incomplete-two (k ∷ []) d two = cc
is_incomplete-two (k ∷ i ∷ []) d two = is_incomplete-ident (view k) (view i)
is_incomplete-two (k ∷ i ∷ v ∷ vs) d two = absurd (omega arith)

-- the last item alone is completed
pub completed-last : (vs : List Value) (i : ℕ) (d between new : Value) → suc i ≡ length vs → item (view new) no_items ≡ completed (item (view (get_or vs i d)) no_items) → items_view (set (set vs i between) i new) ≡ completed (items_view vs)
completed-last [] i d between new n h = absurd (omega arith)
completed-last (v ∷ []) zero d between new n h = h
completed-last (v ∷ []) (suc i) d between new n h = absurd (omega arith)
completed-last (v ∷ w ∷ vs) zero d between new n h = absurd (omega arith)
completed-last (v ∷ w ∷ vs) (suc i) d between new n h = rw (completed-more (view v) (view w) (items_view vs)) (ap (item (view v)) (completed-last (w ∷ vs) i d between new (omega arith) h))

pub is_incomplete-last : (vs : List Value) (i : ℕ) (d : Value) → suc i ≡ length vs → is_incomplete (item (view (get_or vs i d)) no_items) ≡ is_incomplete (items_view vs)
is_incomplete-last [] i d n = absurd (omega arith)
is_incomplete-last (v ∷ []) zero d n = refl
is_incomplete-last (v ∷ []) (suc i) d n = absurd (omega arith)
is_incomplete-last (v ∷ w ∷ vs) zero d n = absurd (omega arith)
is_incomplete-last (v ∷ w ∷ vs) (suc i) d n = is_incomplete-last (w ∷ vs) i d (omega arith) ∙ sym (is_incomplete-more (view v) (view w) (items_view vs))
