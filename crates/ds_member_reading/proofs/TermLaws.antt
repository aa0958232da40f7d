-- Filters and orders of common lines.
use Rattle.std.proofs.Common.{◌≡◌, ℕ, ◌-◌, ◌<◌, ◌≤◌, List, [], ◌∷◌, length, Bool, false, Option, Some, None, IfSome, Result, Ok, codes, refl, sym, ap, ◌∙◌, subst, arith}
use Rattle.std.specs.Option.{ok_or}
use Rattle.json.specs.Token.{Token}
use Rattle.json.specs.Json.{value, after_end_array}
use Rattle.json.proofs.Grammar.{value_is, after_end_array-shorter}
use Rattle.serde_json.specs.Data.{Data, string, array, no_items, item}
use Rattle.serde_json.specs.Read.{of_json}
use Rattle.ds_json_values.specs.Outcomes.{Gives}
use Rattle.ds_base.specs.declared.value.Value.{Value}
use Rattle.ds_base.specs.declared.column.Column.{Column}
use Rattle.ds_query.specs.declared.query.Op.{Op}
use Rattle.ds_query.specs.declared.query.Filter.{Filter}
use Rattle.ds_json_reading.specs.declared.refusal.Refusal.{Refusal}
use Rattle.ds_json_reading.specs.declared.refusal.Refusal.TheVariants as refusal
use Rattle.ds_json_reading.specs.Reading.{natural_of, up_to}
use Rattle.ds_json_reading.specs.Values.{value_of}
use Rattle.ds_line_reading.specs.Parts.{BeginsWith, IsRead}
use Rattle.ds_line_reading.proofs.PartLaws.{scalar_read, begins_given, items_over, items_then, array_given}
use Rattle.ds_member_reading.specs.Forms.{text_of, name_of, op_of, operands_of, filter_of, direction_of, order_of}
use Rattle.ds_member_reading.proofs.MemberLaws.{up_to_read}

-- a value doesn't begin with the end of an array
value_going : (depth : ℕ) (ts r : List Token) (d : Data) → Gives of_json (value depth ts) (Some d) r → after_end_array ts ≡ None
value_going depth [] r d g = refl
value_going depth (Token.end_array ∷ ts) r d g = let none : value depth (Token.end_array ∷ ts) ≡ None = value_is depth (Token.end_array ∷ ts) in let some = g.1 in absurd cc
value_going depth (Token.begin_object ∷ ts) r d g = refl
value_going depth (Token.end_object ∷ ts) r d g = refl
value_going depth (Token.begin_array ∷ ts) r d g = refl
value_going depth (Token.key s ∷ ts) r d g = refl
value_going depth (Token.string s ∷ ts) r d g = refl
value_going depth (Token.number s ∷ ts) r d g = refl
value_going depth (Token.boolean b ∷ ts) r d g = refl
value_going depth (Token.null ∷ ts) r d g = refl
value_going depth (Token.bad ∷ ts) r d g = refl

-- a text, by a form
pub text_if : {A : Type 0} (depth : ℕ) (form : Data → Result A Refusal) (old left : List Token) (s : List ℕ) (found : Option A) → old ≡ Token.string s ∷ left
    → IfSome found (λ x. form (string s) ≡ Ok x) → IfSome found (λ x. IsRead depth form old x left)
text_if depth form old left s None is h = tt
text_if depth form old left s (Some x) is h = scalar_read depth form old (string s) x left (Token.string s, is, refl) h

pub any_text_if : (depth : ℕ) (old left : List Token) (found : Option (List ℕ)) → IfSome found (λ s. BeginsWith old (string s) left) → IfSome found (λ s. IsRead depth text_of old s left)
any_text_if depth old left None h = tt
any_text_if depth old left (Some s) h = scalar_read depth text_of old (string s) s left h refl

-- a number of results
pub results_if : (depth most : ℕ) (old left : List Token) (d : Data) (n : ℕ) (found : Option ℕ) → BeginsWith old d left → natural_of d ≡ Some n → IfSome found (λ m. (m ≡ n) × (m ≤ most))
    → IfSome found (λ m. IsRead depth (λ e. ok_or (up_to most e) refusal.Request) old m left)
results_if depth most old left d n None b is h = tt
results_if depth most old left d n (Some m) b is h = scalar_read depth (λ e. ok_or (up_to most e) refusal.Request) old d m left b (up_to_read most d m (is ∙ ap Some (sym h.0)) h.1)

-- two texts between brackets, by a form
pub order_if : (depth : ℕ) (old r1 r2 r3 new : List Token) (p q : List ℕ) (found : Option Column) → 0 < depth → old ≡ Token.begin_array ∷ r1 → r1 ≡ Token.string p ∷ r2
    → r2 ≡ Token.string q ∷ r3 → after_end_array r3 ≡ Some new → IfSome found (λ c. order_of (array (item (string p) (item (string q) no_items))) ≡ Ok c)
    → IfSome found (λ c. IsRead depth order_of old c new)
order_if depth old r1 r2 r3 new p q None some begun first second over h = tt
order_if depth old r1 r2 r3 new p q (Some c) some begun first second over h =
    let inner = depth - 1 in
    let last = items_then inner r2 r3 new (string q) no_items (ap after_end_array second) (begins_given inner r2 (string q) r3 (Token.string q, second, refl)) (omega (arith, ap length second)) (items_over inner r3 new over) in
    let both = items_then inner r1 r2 new (string p) (item (string q) no_items) (ap after_end_array first) (begins_given inner r1 (string p) r2 (Token.string p, first, refl)) (omega (arith, ap length first)) last in (
      array (item (string p) (item (string q) no_items)),
      array_given depth old r1 new (item (string p) (item (string q) no_items)) begun some both,
      h,
      omega (arith, ap length begun, ap length first, ap length second, after_end_array-shorter r3 new over),
    )

-- two texts and a value between brackets
pub filter_if : (depth : ℕ) (old r1 r2 r3 r4 new : List Token) (p q : List ℕ) (v : Value) (found : Option Filter) → 0 < depth → old ≡ Token.begin_array ∷ r1 → r1 ≡ Token.string p ∷ r2
    → r2 ≡ Token.string q ∷ r3 → IsRead (depth - 1) value_of r3 v r4 → after_end_array r4 ≡ Some new
    → ((d : Data) → value_of d ≡ Ok v → IfSome found (λ f. filter_of (array (item (string p) (item (string q) (item d no_items)))) ≡ Ok f))
    → IfSome found (λ f. IsRead depth filter_of old f new)
filter_if depth old r1 r2 r3 r4 new p q v None some begun first second one over h = tt
filter_if depth old r1 r2 r3 r4 new p q v (Some f) some begun first second one over h =
    let inner = depth - 1 in
    let third = items_then inner r3 r4 new one.0 no_items (value_going inner r3 r4 one.0 one.1) one.1 one.3 (items_over inner r4 new over) in
    let last = items_then inner r2 r3 new (string q) (item one.0 no_items) (ap after_end_array second) (begins_given inner r2 (string q) r3 (Token.string q, second, refl)) (omega (arith, ap length second)) third in
    let all = items_then inner r1 r2 new (string p) (item (string q) (item one.0 no_items)) (ap after_end_array first) (begins_given inner r1 (string p) r2 (Token.string p, first, refl)) (omega (arith, ap length first)) last in (
      array (item (string p) (item (string q) (item one.0 no_items))),
      array_given depth old r1 new (item (string p) (item (string q) (item one.0 no_items))) begun some all,
      h one.0 one.2,
      omega (arith, ap length begun, ap length first, ap length second, one.3, after_end_array-shorter r4 new over),
    )

pub filter_made : (p q : List ℕ) (d : Data) (name : List ℕ) (o : Op) (vs : List Value) → name_of (string p) ≡ Ok name → op_of (string q) ≡ Ok o → operands_of o d ≡ Ok vs
    → filter_of (array (item (string p) (item (string q) (item d no_items)))) ≡ Ok (record { property = name; op = o; values = vs })
filter_made p q d name o vs a b c = rw (a, b, c) refl

pub order_made : (p q : List ℕ) (name : List ℕ) (down : Bool) → name_of (string p) ≡ Ok name → direction_of (string q) ≡ Ok down
    → order_of (array (item (string p) (item (string q) no_items))) ≡ Ok (record { name = name; descending = down })
order_made p q name down a b = rw (a, b) refl
