-- Texts of lists, written item by item.
use Rattle.std.proofs.Common.{◌≡◌, ℕ, ◌+◌, ◌<◌, List, [], ◌∷◌, ◌++◌, Bool, true, false, length, drop, get_or, refl, ◌==◌, arith}
use Rattle.std.proofs.lemmas.List.{drop_more}
use Rattle.std.proofs.lemmas.Bool.Decides.{nat_tests}
use Rattle.std.specs.Str.{IsUtf8, is_utf8}
use Rattle.std.proofs.lemmas.Str.{is_utf8-from_IsUtf8, IsUtf8-from_is_utf8}
use Rattle.json.specs.Print.{quoted}
use Rattle.serde_json.specs.Data.{Data, Items, item, Members, member, array}
use Rattle.serde_json.specs.Written.{compact_text, comma_if, items_text, members_text}
use Rattle.ds_base.specs.declared.key.Elem.{Elem}
use Rattle.ds_base.specs.declared.value.Value.{Value}
use Rattle.ds_json_printing.specs.Printing.{elem_items, keyed_items, values_data, value_items}

-- a list's items, from an item on
pub items-more : {X : Type 0} (items : List X → Items) (shown : X → Data)
    → ((x : X) (xs : List X) → items (x ∷ xs) ≡ item (shown x) (items xs))
    → (later : Bool) (xs : List X) (i : ℕ) (d : X) → i < length xs
    → comma_if later ++ (compact_text (shown (get_or xs i d)) ++ items_text true (items (drop (i + 1) xs))) ≡ items_text later (items (drop i xs))
items-more items shown step later xs i d lt =
    rw (drop_more xs i d lt, step) refl

-- a list's members, from a member on
pub members-more : {X : Type 0} (members : List X → Members) (name : X → List ℕ) (shown : X → Data)
    → ((x : X) (xs : List X) → members (x ∷ xs) ≡ member (name x) (shown x) (members xs))
    → (later : Bool) (xs : List X) (i : ℕ) (d : X) → i < length xs
    → comma_if later ++ (quoted (name (get_or xs i d)) ++ 58 ∷ (compact_text (shown (get_or xs i d)) ++ members_text true (members (drop (i + 1) xs)))) ≡ members_text later (members (drop i xs))
members-more members name shown step later xs i d lt =
    rw (drop_more xs i d lt, step) refl

-- a key in the default namespace, and in another
pub keyed-default : (ns : List ℕ) (es : List Elem) (b : Bool) → b ≡ (length ns == 0) → b ≡ true
    → items_text false (elem_items es) ≡ items_text false (keyed_items ns es)
keyed-default [] es b e t = refl
keyed-default (n ∷ ns) es b e t = absurd (grind (arith, nat_tests))

pub keyed-other : (ns : List ℕ) (es : List Elem) (b : Bool) → b ≡ (length ns == 0) → b ≡ false
    → quoted ns ++ items_text true (elem_items es) ≡ items_text false (keyed_items ns es)
keyed-other [] es b e f = cc
keyed-other (n ∷ ns) es b e f = refl

-- one value, and several
pub values-one : (vs : List Value) (d : Value) → length vs ≡ 1 → values_data vs ≡ values_data (get_or vs 0 d ∷ [])
values-one [] d e = absurd (omega arith)
values-one (v ∷ []) d e = refl
values-one (v ∷ w ∷ vs) d e = absurd (omega arith)

pub values-several : (vs : List Value) → (length vs ≡ 1 → ⊥) → values_data vs ≡ array (value_items vs)
values-several [] ne = refl
values-several (v ∷ []) ne = absurd (ne refl)
values-several (v ∷ w ∷ vs) ne = refl

-- whether bytes are UTF-8
pub utf8-test : (bs : List ℕ) → IsUtf8 bs → is_utf8 bs ≡ true
utf8-test bs h = is_utf8-from_IsUtf8 bs h

not-true : (b : Bool) → (b ≡ true → ⊥) → b ≡ false
not-true true h = absurd (h refl)
not-true false h = refl

pub utf8-refused : (bs : List ℕ) → (IsUtf8 bs → ⊥) → is_utf8 bs ≡ false
utf8-refused bs h = not-true (is_utf8 bs) (λ e. h (IsUtf8-from_is_utf8 bs e))
