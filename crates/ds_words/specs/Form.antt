-- The form of the words behind the program's name.
use Rattle.std.specs.Prelude.{ℕ, List, [], ◌∷◌, Bool, false, not, ◌&&◌, ◌||◌, ◌==◌, nat_le, nat_lt, cond, bytes_eq, codes, length, map}
use Rattle.std.specs.Prelude.{filter, Option, Some, None, option_map, option_and_then}
use Rattle.std.specs.List.{after_first, before_first, list_all, list_any}
use Rattle.std.specs.Str.Parse.{digits_value}
use Rattle.ds_base.specs.Limits.{greatest_window, most_appliers, most_shards}
use Rattle.ds_words.specs.declared.options.Options.{Options}

-- ---- items

-- an option's name, as `--shards`, and the value that it is given
pub record Item : Type 0 where
  pub name : List ℕ
  pub value : List ℕ

-- the four options
abbrev pub is_option : List ℕ → Bool
is_option name =
    bytes_eq name (codes "--indexes") || bytes_eq name (codes "--shards") || bytes_eq name (codes "--appliers")
    || bytes_eq name (codes "--window")

-- a value isn't empty and doesn't begin with `-`
abbrev pub is_value : List ℕ → Bool
is_value [] = false
is_value (b ∷ bytes) = not (b == 45)

abbrev pub item_of : List ℕ → List ℕ → Option Item
item_of name value = cond (is_option name && is_value value) (Some (record { name = name; value = value })) None

abbrev pub is_equals_sign : ℕ → Bool
is_equals_sign b = b == 61

-- a name and its value in one word, as `--shards=4`: the first `=` stands between them
abbrev pub is_joined : List ℕ → Bool
is_joined = list_any is_equals_sign

abbrev pub joined : List ℕ → Option Item
joined word = item_of (before_first is_equals_sign word) (after_first is_equals_sign word)

-- an item in front of others, unless one of them isn't in the form
abbrev pub in_front : Option Item → Option (List Item) → Option (List Item)
in_front first others = option_and_then (λ item. option_map (λ items. item ∷ items) others) first

-- the items of a list of words: a name and its value in one word, or in two
abbrev pub items_of : List (List ℕ) → Option (List Item)
items_of [] = Some []
items_of (word ∷ []) = cond (is_joined word) (in_front (joined word) (Some [])) None
items_of (word ∷ next ∷ words) =
    cond (is_joined word) (in_front (joined word) (items_of (next ∷ words))) (in_front (item_of word next) (items_of words))

-- ---- options

-- the values that items give to an option
abbrev pub values_of : List ℕ → List Item → List (List ℕ)
values_of name items = map (λ item. item.value) (filter (λ item. bytes_eq item.name name) items)

-- an option is given a value at most once
abbrev pub at_most_one : List (List ℕ) → Option (Option (List ℕ))
at_most_one [] = Some None
at_most_one (value ∷ []) = Some (Some value)
at_most_one (value ∷ other ∷ values) = None

-- the value that words give to an option, if they do; none at all where they leave the form
abbrev pub value_in : List (List ℕ) → List ℕ → Option (Option (List ℕ))
value_in words name = option_and_then (λ items. at_most_one (values_of name items)) (items_of words)

abbrev pub is_digits : List ℕ → Bool
is_digits = list_all (λ b. nat_le 48 b && nat_le b 57)

-- a number of at most so many decimal digits that lies within bounds
abbrev pub number_of : ℕ → ℕ → ℕ → List ℕ → Option ℕ
number_of digits least greatest text =
    let number = digits_value 10 text in
    cond (nat_lt 0 (length text) && nat_le (length text) digits && is_digits text && nat_le least number && nat_le number greatest)
    (Some number) None

-- the number that a value stands for, and another one where there is none
abbrev pub number_or : ℕ → ℕ → ℕ → ℕ → Option (List ℕ) → Option ℕ
number_or digits least greatest absent None = Some absent
number_or digits least greatest absent (Some text) = number_of digits least greatest text

abbrev pub number_in : List (List ℕ) → List ℕ → ℕ → ℕ → ℕ → ℕ → Option ℕ
number_in words name digits least greatest absent = option_and_then (number_or digits least greatest absent) (value_in words name)

-- the shards, the background appliers and the window of kept versions where no word gives them
abbrev pub default_shards : ℕ
default_shards = 4

abbrev pub default_appliers : ℕ
default_appliers = 2

abbrev pub default_window : ℕ
default_window = greatest_window

abbrev pub shards_in : List (List ℕ) → Option ℕ
shards_in words = number_in words (codes "--shards") 2 1 most_shards default_shards

abbrev pub appliers_in : List (List ℕ) → Option ℕ
appliers_in words = number_in words (codes "--appliers") 2 0 most_appliers default_appliers

abbrev pub window_in : List (List ℕ) → Option ℕ
window_in words = number_in words (codes "--window") 5 1 greatest_window default_window

-- what a list of words says; none where it leaves the form
abbrev pub options_of : List (List ℕ) → Option Options
options_of words =
    option_and_then (λ shards.
    option_and_then (λ appliers.
    option_and_then (λ window.
    option_map (λ indexes. record { indexes = indexes; shards = shards; appliers = appliers; window = window })
    (value_in words (codes "--indexes"))) (window_in words)) (appliers_in words)) (shards_in words)
