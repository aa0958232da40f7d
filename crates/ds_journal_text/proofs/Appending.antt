-- Texts that are put at the end of a line, piece by piece.
use Rattle.std.proofs.Common.{◌≡◌, ℕ, ◌+◌, ◌<◌, List, ◌∷◌, ◌++◌, Bool, true, length, drop, get_or, refl, ap, ◌∙◌, append_assoc}
use Rattle.std.proofs.lemmas.List.{drop_more}
use Rattle.std.specs.Prelude.{Result, Ok, Err, OnOk, IfOk}
use Rattle.serde_json.specs.Data.{Data, Items, item}
use Rattle.serde_json.specs.Written.{compact_text, comma_if, items_text}

-- a list's items, from an item on
pub items_more : {X : Type 0} (items : List X → Items) (shown : X → Data) → ((x : X) (xs : List X) → items (x ∷ xs) ≡ item (shown x) (items xs))
    → (later : Bool) (xs : List X) (i : ℕ) (d : X) → i < length xs
    → comma_if later ++ (compact_text (shown (get_or xs i d)) ++ items_text true (items (drop (i + 1) xs))) ≡ items_text later (items (drop i xs))
items_more items shown step later xs i d below = rw (drop_more xs i d below, step) refl

-- a comma and an item were put
pub item_put : (before comma shown rest whole after_comma after_item : List ℕ) → after_comma ≡ before ++ comma → after_item ≡ after_comma ++ shown
    → comma ++ (shown ++ rest) ≡ whole → after_item ++ rest ≡ before ++ whole
item_put before comma shown rest whole after_comma after_item first second same =
    ap (λ (l : List ℕ). l ++ rest) (second ∙ ap (λ (l : List ℕ). l ++ shown) first)
    ∙ append_assoc (before ++ comma) shown rest ∙ append_assoc before comma (shown ++ rest) ∙ ap (λ (l : List ℕ). before ++ l) same

-- what follows where it went well
pub on_ok : {A E p q : Type 0} (r : Result A E) → (p → q) → OnOk r p → OnOk r q
on_ok (Ok x) f h = f h
on_ok (Err e) f h = h

pub if_ok : {A E : Type 0} {P Q : A → Type 0} (r : Result A E) → ((x : A) → P x → Q x) → IfOk r P → IfOk r Q
if_ok (Ok x) f h = f x h
if_ok (Err e) f h = h

-- a refusal, whatever would have been answered
abbrev pub failed : (A : Type 0) {E : Type 0} → E → Result A E
failed A e = Err e

pub errors_same : (A : Type 0) {E : Type 0} (x y : E) → failed A x ≡ failed A y → x ≡ y
errors_same A x y h = cc h
