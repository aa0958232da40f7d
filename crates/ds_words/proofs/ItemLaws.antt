-- The items of words: the first one, and those behind it.
use Rattle.std.proofs.Common.{◌≡◌, ℕ, suc, ◌+◌, ◌<◌, ◌≤◌, List, [], ◌∷◌, ◌++◌, length, drop, map, get_or, refl, ap, sym, ◌∙◌, arith, Bool}
use Rattle.std.proofs.Common.{true, false, cond, not, Option, Some, None, append_assoc, append-nil}
use Rattle.std.specs.Prelude.{◌||◌, IfSome, MatchOption, bytes_eq, filter, is_some, option_map, option_and_then, option_to_list}
use Rattle.std.proofs.lemmas.List.{map-append}
use Rattle.std.proofs.lemmas.List.Elements.{filter-append}
use Rattle.std.specs.List.{list_any, position_or_len, prefix_len}
use Rattle.ds_words.specs.Form.{Item, at_most_one, in_front, is_equals_sign, is_joined, item_of, items_of, joined, value_in, values_of}
use Rattle.ds_words.specs.Items.{seen}
use Rattle.ds_words.specs.declared.item.Item.{Item as Taken}

-- a byte that passes stands somewhere exactly where the first one has a place
any_at : (p : ℕ → Bool) (bytes : List ℕ) → position_or_len p bytes < length bytes → list_any p bytes ≡ true
any_at p [] some = absurd (omega arith)
any_at p (b ∷ bytes) some = at (p b) (any_at p bytes) some where
  at : (here : Bool) → (position_or_len p bytes < length bytes → list_any p bytes ≡ true) → cond (not here) (1 + prefix_len (λ x. not (p x)) bytes) 0 < suc (length bytes) → (here || list_any p bytes) ≡ true
  at true later within = refl
  at false later within = later (omega arith)

none_at : (p : ℕ → Bool) (bytes : List ℕ) → position_or_len p bytes ≡ length bytes → list_any p bytes ≡ false
none_at p [] none = refl
none_at p (b ∷ bytes) none = at (p b) (none_at p bytes) none where
  at : (here : Bool) → (position_or_len p bytes ≡ length bytes → list_any p bytes ≡ false) → cond (not here) (1 + prefix_len (λ x. not (p x)) bytes) 0 ≡ suc (length bytes) → (here || list_any p bytes) ≡ false
  at true later all = absurd (omega arith)
  at false later all = later (omega arith)

pub is_joined-at : (word : List ℕ) → position_or_len is_equals_sign word < length word → is_joined word ≡ true
is_joined-at word = any_at is_equals_sign word

pub is_joined-none : (word : List ℕ) → position_or_len is_equals_sign word ≡ length word → is_joined word ≡ false
is_joined-none word = none_at is_equals_sign word

-- ---- over any type of words that are read as bytes

-- the first word is a name and its value
pub first_joined : {A : Type 0} (bytes : A → List ℕ) (words : List A) (first : A) → 0 < length words → first ≡ get_or words 0 first → is_joined (bytes first) ≡ true → items_of (map bytes words) ≡ in_front (joined (bytes first)) (items_of (map bytes (drop 1 words)))
first_joined bytes [] first some is one = absurd (omega arith)
first_joined bytes (word ∷ []) first some is one = let yes : is_joined (bytes word) ≡ true = ap (λ w. is_joined (bytes w)) (sym is) ∙ one in rw yes (ap (λ w. in_front (joined (bytes w)) (Some [])) (sym is))
first_joined bytes (word ∷ next ∷ words) first some is one =
    let yes : is_joined (bytes word) ≡ true = ap (λ w. is_joined (bytes w)) (sym is) ∙ one in
    rw yes (ap (λ w. in_front (joined (bytes w)) (items_of (bytes next ∷ map bytes words))) (sym is))

-- the first word is a name, and the second its value
pub first_apart : {A : Type 0} (bytes : A → List ℕ) (words : List A) (first second : A) → 1 < length words → first ≡ get_or words 0 first → second ≡ get_or words 1 second → is_joined (bytes first) ≡ false → items_of (map bytes words) ≡ in_front (item_of (bytes first) (bytes second)) (items_of (map bytes (drop 2 words)))
first_apart bytes [] first second some is next two = absurd (omega arith)
first_apart bytes (word ∷ []) first second some is next two = absurd (omega arith)
first_apart bytes (word ∷ other ∷ words) first second some is next two =
    let no : is_joined (bytes word) ≡ false = ap (λ w. is_joined (bytes w)) (sym is) ∙ two in
    rw no (ap (λ w. in_front (item_of (bytes w) (bytes other)) (items_of (map bytes words))) (sym is) ∙ ap (λ w. in_front (item_of (bytes first) (bytes w)) (items_of (map bytes words))) (sym next))

-- the first word is a name without a value
pub first_alone : {A : Type 0} (bytes : A → List ℕ) (words : List A) (first : A) → length words ≡ 1 → first ≡ get_or words 0 first → is_joined (bytes first) ≡ false → items_of (map bytes words) ≡ None
first_alone bytes [] first one is two = absurd (omega arith)
first_alone bytes (word ∷ []) first one is two = let no : is_joined (bytes word) ≡ false = ap (λ w. is_joined (bytes w)) (sym is) ∙ two in rw no refl
first_alone bytes (word ∷ other ∷ words) first one is two = absurd (omega arith)

-- what the code answers
pub first_found : {A : Type 0} (bytes : A → List ℕ) (words : List A) (found : Option Taken) (item : Option Item) (n : ℕ) → option_map seen found ≡ item → IfSome found (λ i. i.words ≡ n) → items_of (map bytes words) ≡ in_front item (items_of (map bytes (drop n words))) → 0 < n → n ≤ length words → MatchOption found (items_of (map bytes words) ≡ None) (λ i. (0 < i.words) × (i.words ≤ length words) × (items_of (map bytes words) ≡ in_front (Some (seen i)) (items_of (map bytes (drop i.words words)))))
first_found bytes words None item n is count items some within = items ∙ ap (λ o. in_front o (items_of (map bytes (drop n words)))) (sym is)
first_found bytes words (Some i) item n is count items some within = (
  omega (arith, count),
  omega (arith, count),
  items ∙ ap (λ o. in_front o (items_of (map bytes (drop n words)))) (sym is) ∙ ap (λ k. in_front (Some (seen i)) (items_of (map bytes (drop k words)))) (sym count),
)

-- ---- the value that is given to an option, item by item

-- items were passed over that give this value to the option, and then come those of the rest
pub record Passed (words rest : List (List ℕ)) (name : List ℕ) (found : Option (List ℕ)) : Type 0 where
  pub items : List Item
  pub all : items_of words ≡ option_map (λ others. items ++ others) (items_of rest)
  pub values : values_of name items ≡ option_to_list found

pub passed_none : (words : List (List ℕ)) (name : List ℕ) → Passed words words name None
passed_none words name = record { items = []; all = nothing (items_of words); values = refl } where
  nothing : (items : Option (List Item)) → items ≡ option_map (λ others. [] ++ others) items
  nothing None = refl
  nothing (Some items) = refl

values_of-append : (name : List ℕ) (xs ys : List Item) → values_of name (xs ++ ys) ≡ values_of name xs ++ values_of name ys
values_of-append name xs ys =
    ap (map (λ item. item.value)) (filter-append (λ item. bytes_eq item.name name) xs ys)
    ∙ map-append (λ item. item.value) (filter (λ item. bytes_eq item.name name) xs) (filter (λ item. bytes_eq item.name name) ys)

-- the items so far and the next one, in front of the others
one_more : (items : List Item) (item : Item) (others : Option (List Item)) → option_map (λ ys. items ++ ys) (in_front (Some item) others) ≡ option_map (λ ys. (items ++ item ∷ []) ++ ys) others
one_more items item None = refl
one_more items item (Some others) = ap Some (sym (append_assoc items (item ∷ []) others))

values_here : (name : List ℕ) (item : Item) → bytes_eq item.name name ≡ true → values_of name (item ∷ []) ≡ item.value ∷ []
values_here name item is = ap (λ here. map (λ i. i.value) (cond here (item ∷ []) [])) is

values_there : (name : List ℕ) (item : Item) → bytes_eq item.name name ≡ false → values_of name (item ∷ []) ≡ []
values_there name item is = ap (λ here. map (λ i. i.value) (cond here (item ∷ []) [])) is

-- one item more, of another option
pub passed_other : {words rest : List (List ℕ)} {name : List ℕ} {found : Option (List ℕ)} (next : List (List ℕ)) (item : Item) → Passed words rest name found → items_of rest ≡ in_front (Some item) (items_of next) → bytes_eq item.name name ≡ false → Passed words next name found
passed_other {words} {rest} {name} {found} next item passed first is = record {
  items = passed.items ++ item ∷ [];
  all = passed.all ∙ ap (option_map (λ others. passed.items ++ others)) first ∙ one_more passed.items item (items_of next);
  values = values_of-append name passed.items (item ∷ []) ∙ ap (λ vs. values_of name passed.items ++ vs) (values_there name item is) ∙ append-nil (values_of name passed.items) ∙ passed.values;
}

-- the option's first value
pub passed_here : {words rest : List (List ℕ)} {name : List ℕ} {found : Option (List ℕ)} (next : List (List ℕ)) (item : Item) → Passed words rest name found → items_of rest ≡ in_front (Some item) (items_of next) → bytes_eq item.name name ≡ true → found ≡ None → Passed words next name (Some item.value)
passed_here {words} {rest} {name} {found} next item passed first is none = record {
  items = passed.items ++ item ∷ [];
  all = passed.all ∙ ap (option_map (λ others. passed.items ++ others)) first ∙ one_more passed.items item (items_of next);
  values = values_of-append name passed.items (item ∷ []) ∙ ap (λ vs. values_of name passed.items ++ vs) (values_here name item is) ∙ ap (λ vs. vs ++ item.value ∷ []) (passed.values ∙ ap option_to_list none);
}

-- a second value of the option
pub passed_twice : {words rest : List (List ℕ)} {name : List ℕ} {found : Option (List ℕ)} (next : List (List ℕ)) (item : Item) (value : List ℕ) → Passed words rest name found → items_of rest ≡ in_front (Some item) (items_of next) → bytes_eq item.name name ≡ true → found ≡ Some value → value_in words name ≡ None
passed_twice {words} {rest} {name} {found} next item value passed first is some =
    ap (option_and_then (λ items. at_most_one (values_of name items))) (passed.all ∙ ap (option_map (λ others. passed.items ++ others)) first) ∙ by (items_of next) where
      by : (others : Option (List Item)) → option_and_then (λ items. at_most_one (values_of name items)) (option_map (λ ys. passed.items ++ ys) (in_front (Some item) others)) ≡ None
      by None = refl
      by (Some others) =
          ap at_most_one
          (values_of-append name passed.items (item ∷ others)
          ∙ ap (λ vs. vs ++ values_of name (item ∷ others)) (passed.values ∙ ap option_to_list some)
          ∙ ap (λ vs. (value ∷ []) ++ vs) (values_of-append name (item ∷ []) others ∙ ap (λ vs. vs ++ values_of name others) (values_here name item is)))

-- words that don't go on with an item
pub passed_wrong : {words rest : List (List ℕ)} {name : List ℕ} {found : Option (List ℕ)} → Passed words rest name found → items_of rest ≡ None → value_in words name ≡ None
passed_wrong {words} {rest} {name} {found} passed none =
    ap (option_and_then (λ items. at_most_one (values_of name items))) (passed.all ∙ ap (option_map (λ others. passed.items ++ others)) none)

-- all words
pub passed_all : {words rest : List (List ℕ)} {name : List ℕ} {found : Option (List ℕ)} → Passed words rest name found → rest ≡ [] → value_in words name ≡ Some found
passed_all {words} {rest} {name} {found} passed none =
    ap (option_and_then (λ items. at_most_one (values_of name items))) (passed.all ∙ ap (λ ws. option_map (λ others. passed.items ++ others) (items_of ws)) none)
    ∙ ap (λ items. at_most_one (values_of name items)) (append-nil passed.items)
    ∙ ap at_most_one passed.values
    ∙ one found where
      one : (value : Option (List ℕ)) → at_most_one (option_to_list value) ≡ Some value
      one None = refl
      one (Some value) = refl

-- ---- the same of a value that the code refers to

pub seen_some : {B : Type 0} (f : B → List ℕ) (found : Option B) → is_some found ≡ true → (value : List ℕ) × (option_map f found ≡ Some value)
seen_some f None some = cc
seen_some f (Some x) some = (f x, refl)

pub seen_none : {B : Type 0} (f : B → List ℕ) (found : Option B) → is_some found ≡ false → option_map f found ≡ None
seen_none f None none = refl
seen_none f (Some x) none = cc
