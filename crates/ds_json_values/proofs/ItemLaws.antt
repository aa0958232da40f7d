-- An array that is being read.
use Rattle.std.proofs.Common.{◌≡◌, ℕ, zero, suc, ◌-◌, ◌<◌, ◌≤◌, List, [], ◌∷◌, ◌++◌, map, length, Option, Some, None, option_map}
use Rattle.std.proofs.Common.{option_and_then, refl, sym, ap, subst, ◌∙◌, arith, append-nil}
use Rattle.json.specs.Token.{Token}
use Rattle.json.specs.Json as json
use Rattle.json.specs.Json.{Parse, value, items, items_step, parse_map, after_end_array}
use Rattle.json.proofs.Grammar.{after_end_array-shorter, items_end, items_more}
use Rattle.serde_json.specs.Data.{Data, item}
use Rattle.serde_json.specs.Read.{of_json, of_items}
use Rattle.serde_json.specs.View.{view, items_of, items_view}
use Rattle.serde_json.specs.declared.value.Value.{Value}
use Rattle.ds_json_values.specs.Outcomes.{Refuses, Gives}

-- of an array that began at the tokens `old` these values are read, and these tokens are left
pub record ItemsSoFar (depth : ℕ) (old left : List Token) (found : List Value) : Type 0 where
  pub most : ℕ
  pub enough : length left ≤ most
  pub behind : length left ≤ length old
  pub given : (ds : List Data) (rest : List Token) → Gives of_items (items (value depth) most left) (Some (items_of ds)) rest
      → Gives of_items (items (value depth) (length old) old) (Some (items_of (map view found ++ ds))) rest
  pub refused : Refuses of_items (items (value depth) most left) → Refuses of_items (items (value depth) (length old) old)

pub items_begin : (depth : ℕ) (old : List Token) (found : List Value) → found ≡ [] → ItemsSoFar depth old old found
items_begin depth old found empty = record {
  most = length old;
  enough = omega arith;
  behind = omega arith;
  given = λ ds rest g. subst (λ vs. Gives of_items (items (value depth) (length old) old) (Some (items_of (map view vs ++ ds))) rest) (sym empty) g;
  refused = λ none. none;
}

later_refused : (j : json.Json) (d : Data) → of_json j ≡ Some d → (found : Option (json.Items × List Token)) → Refuses of_items found → Refuses of_items (parse_map (json.item j) found)
later_refused j d is None none = tt
later_refused j d is (Some p) none = ap (option_and_then (λ e. option_map (item e) (of_items p.0))) is ∙ ap (option_map (item d)) none

no_item : (j : json.Json) → of_json j ≡ None → (found : Option (json.Items × List Token)) → Refuses of_items (parse_map (json.item j) found)
no_item j none None = tt
no_item j none (Some p) = ap (option_and_then (λ e. option_map (item e) (of_items p.0))) none

first_refused : (more : Parse json.Items) (found : Option (json.Json × List Token)) → Refuses of_json found → Refuses of_items (option_and_then (λ q. parse_map (json.item q.0) (more q.1)) found)
first_refused more None none = tt
first_refused more (Some q) none = no_item q.0 none (more q.1)

item_refused : (depth most : ℕ) (left : List Token) → after_end_array left ≡ None → Refuses of_json (value depth left) → Refuses of_items (items (value depth) most left)
unfolding items
item_refused depth zero left going none = tt
item_refused depth (suc n) left going none =
    subst (λ over. Refuses of_items (items_step (value depth) (items (value depth) n) left over)) (sym going) (first_refused (items (value depth) n) (value depth left) none)

grown : (found longer : List Value) (v : Value) (ds : List Data) → longer ≡ found ++ v ∷ [] → map view found ++ (view v ∷ ds) ≡ map view longer ++ ds
grown found longer v ds is = sym (ap (λ vs. map view vs ++ ds) is ∙ by found) where
  by : (vs : List Value) → map view (vs ++ v ∷ []) ++ ds ≡ map view vs ++ (view v ∷ ds)
  by [] = refl
  by (w ∷ vs) = ap (λ es. view w ∷ es) (by vs)

module _ (depth : ℕ) (old left : List Token) (found : List Value) (far : ItemsSoFar depth old left found) where
  pub items_turn : (new : List Token) (v : Value) (longer : List Value) → after_end_array left ≡ None → Gives of_json (value depth left) (Some (view v)) new → length new < length left
      → longer ≡ found ++ v ∷ [] → ItemsSoFar depth old new longer
  items_turn new v longer going one shorter is =
      let more : items (value depth) far.most left ≡ parse_map (json.item one.0) (items (value depth) (far.most - 1) new) = items_more (value depth) far.most left new one.0 (omega (arith, far.enough)) going one.1 in
      record {
        most = far.most - 1;
        enough = omega (arith, far.enough);
        behind = omega (arith, far.behind);
        given = λ ds rest g.
            subst (λ es. Gives of_items (items (value depth) (length old) old) (Some (items_of es)) rest) (grown found longer v ds is)
            (far.given (view v ∷ ds) rest (
              json.item one.0 g.0,
              more ∙ ap (parse_map (json.item one.0)) g.1,
              ap (option_and_then (λ e. option_map (item e) (of_items g.0))) one.2 ∙ ap (option_map (item (view v))) g.2,
            ));
        refused = λ none. far.refused (subst (Refuses of_items) (sym more) (later_refused one.0 (view v) one.2 (items (value depth) (far.most - 1) new) none));
      }

  pub items_stop : after_end_array left ≡ None → Refuses of_json (value depth left) → Refuses of_items (items (value depth) (length old) old)
  items_stop going none = far.refused (item_refused depth far.most left going none)

  pub items_over : (new : List Token) → after_end_array left ≡ Some new → Gives of_items (items (value depth) (length old) old) (Some (items_view found)) new
  items_over new over =
      subst (λ ds. Gives of_items (items (value depth) (length old) old) (Some (items_of ds)) new) (append-nil (map view found))
      (far.given [] new (json.no_items, items_end (value depth) far.most left new far.enough over, refl))

  pub items_shorter : (new : List Token) → after_end_array left ≡ Some new → length new < length old
  items_shorter new over = omega (arith, after_end_array-shorter left new over, far.behind)
