-- What a value is, by the first of its tokens.
use Rattle.std.proofs.Common.{◌≡◌, ℕ, zero, ◌-◌, ◌<◌, List, ◌∷◌, length, Bool, Option, Some, None, option_map, String, Global, string_bytes}
use Rattle.std.proofs.Common.{refl, sym, ap, subst, ◌∙◌, rules}
use Rattle.json.specs.Token.{Token}
use Rattle.json.specs.Json as json
use Rattle.json.specs.Json.{value, items, members, parse_map}
use Rattle.json.proofs.Grammar.{value_is, value-begin_array, value-begin_object}
use Rattle.serde_json.specs.Data.{Num, Items, Members, null, boolean, number, string, array, object, no_members}
use Rattle.serde_json.specs.Read.{number_of, of_json, of_items, of_members}
use Rattle.serde_json.specs.View.{view, number_view}
use Rattle.serde_json.specs.declared.number.Number.{Number}
use Rattle.serde_json.specs.declared.value.Value as value_of
use Rattle.serde_json.specs.declared.value.Value.{the_lemmas}
use Rattle.ds_json_values.specs.Outcomes.{Refuses, Gives}

pub view-String : (s : String Global) → view (value_of.String s) ≡ string (string_bytes s)
view-String s = search (rules, the_lemmas)

pub view-Number : (n : Number) → view (value_of.Number n) ≡ number (number_view n)
view-Number n = search (rules, the_lemmas)

pub view-Bool : (b : Bool) → view (value_of.Bool b) ≡ boolean b
view-Bool b = search (rules, the_lemmas)

pub view-Null : view value_of.Null ≡ null
view-Null = search (rules, the_lemmas)

abbrev of_object : json.Members → Option Members
of_object ms = of_members ms no_members

no_array : (found : Option (json.Items × List Token)) → Refuses of_items found → Refuses of_json (parse_map json.array found)
no_array None none = tt
no_array (Some p) none = ap (option_map array) none

no_object : (found : Option (json.Members × List Token)) → Refuses of_object found → Refuses of_json (parse_map json.object found)
no_object None none = tt
no_object (Some p) none = ap (option_map object) none

module _ (depth : ℕ) (ts rest : List Token) where
  pub string_first : (s : List ℕ) → ts ≡ Token.string s ∷ rest → Gives of_json (value depth ts) (Some (string s)) rest
  string_first s e = (json.string s, ap (value depth) e ∙ value_is depth _, refl)

  pub number_first : (s : List ℕ) (n : Num) → ts ≡ Token.number s ∷ rest → number_of s ≡ Some n → Gives of_json (value depth ts) (Some (number n)) rest
  number_first s n e is = (json.number s, ap (value depth) e ∙ value_is depth _, ap (option_map number) is)

  pub number_refused : (s : List ℕ) → ts ≡ Token.number s ∷ rest → number_of s ≡ None → Refuses of_json (value depth ts)
  number_refused s e none = subst (Refuses of_json) (sym (ap (value depth) e ∙ value_is depth (Token.number s ∷ rest))) (ap (option_map number) none)

  pub boolean_first : (b : Bool) → ts ≡ Token.boolean b ∷ rest → Gives of_json (value depth ts) (Some (boolean b)) rest
  boolean_first b e = (json.boolean b, ap (value depth) e ∙ value_is depth _, refl)

  pub null_first : ts ≡ Token.null ∷ rest → Gives of_json (value depth ts) (Some null) rest
  null_first e = (json.null, ap (value depth) e ∙ value_is depth _, refl)

  pub array_first : (ds : Items) (left : List Token) → ts ≡ Token.begin_array ∷ rest → 0 < depth
      → Gives of_items (items (value (depth - 1)) (length rest) rest) (Some ds) left → Gives of_json (value depth ts) (Some (array ds)) left
  array_first ds left e some g = (json.array g.0, ap (value depth) e ∙ value-begin_array depth rest some ∙ ap (parse_map json.array) g.1, ap (option_map array) g.2)

  pub array_refused : ts ≡ Token.begin_array ∷ rest → 0 < depth → Refuses of_items (items (value (depth - 1)) (length rest) rest) → Refuses of_json (value depth ts)
  array_refused e some none =
      subst (Refuses of_json) (sym (ap (value depth) e ∙ value-begin_array depth rest some)) (no_array (items (value (depth - 1)) (length rest) rest) none)

  pub object_first : (ds : Members) (left : List Token) → ts ≡ Token.begin_object ∷ rest → 0 < depth
      → Gives of_object (members (value (depth - 1)) (length rest) rest) (Some ds) left → Gives of_json (value depth ts) (Some (object ds)) left
  object_first ds left e some g = (json.object g.0, ap (value depth) e ∙ value-begin_object depth rest some ∙ ap (parse_map json.object) g.1, ap (option_map object) g.2)

  pub object_refused : ts ≡ Token.begin_object ∷ rest → 0 < depth → Refuses of_object (members (value (depth - 1)) (length rest) rest) → Refuses of_json (value depth ts)
  object_refused e some none =
      subst (Refuses of_json) (sym (ap (value depth) e ∙ value-begin_object depth rest some)) (no_object (members (value (depth - 1)) (length rest) rest) none)

  pub array_too_deep : ts ≡ Token.begin_array ∷ rest → depth ≡ zero → Refuses of_json (value depth ts)
  unfolding value
  array_too_deep e none = subst (Refuses of_json) (sym (ap (value depth) e ∙ ap (λ n. value n (Token.begin_array ∷ rest)) none)) tt

  pub object_too_deep : ts ≡ Token.begin_object ∷ rest → depth ≡ zero → Refuses of_json (value depth ts)
  unfolding value
  object_too_deep e none = subst (Refuses of_json) (sym (ap (value depth) e ∙ ap (λ n. value n (Token.begin_object ∷ rest)) none)) tt
