-- What the tokens of a part are, one after another.
use Rattle.std.proofs.Common.{◌≡◌, ℕ, ◌-◌, ◌<◌, ◌≤◌, List, [], ◌∷◌, ◌++◌, length, Option, Some, None, option_map, option_and_then, Result, Ok}
use Rattle.std.proofs.Common.{IfSome, refl, sym, ap, subst, ◌∙◌, arith, append_assoc}
use Rattle.json.specs.Token.{Token}
use Rattle.json.specs.Json as json
use Rattle.json.specs.Json.{value, items, members, parse_map, after_end_array, read_key}
use Rattle.json.proofs.Grammar.{value_is, items_end, items_more, members_end, members_more, read_key-shorter, after_end_array-shorter}
use Rattle.serde_json.specs.Data.{Num, Data, number, array, object, Items, no_items, item, Members, no_members, put}
use Rattle.serde_json.specs.Read.{number_of, of_json, of_items, of_members}
use Rattle.ds_json_reading.specs.declared.refusal.Refusal.{Refusal}
use Rattle.ds_json_reading.specs.Reading.{and_then, read_as, each_of, list_of, natural_of}
use Rattle.ds_json_values.specs.Outcomes.{Gives}
use Rattle.ds_json_values.proofs.TokenLaws.{array_first, object_first}
use Rattle.ds_line_reading.specs.Parts.{data_of, BeginsWith, IsRead, AreItems, behind, AreMembers}

-- ---- values of one token

scalar_given : (depth : ℕ) (t : Token) (rest : List Token) (d : Data) → data_of t ≡ Some d → Gives of_json (value depth (t ∷ rest)) (Some d) rest
scalar_given depth (Token.string s) rest d is = (json.string s, value_is depth _, is)
scalar_given depth (Token.number s) rest d is = (json.number s, value_is depth _, is)
scalar_given depth (Token.boolean b) rest d is = (json.boolean b, value_is depth _, is)
scalar_given depth Token.null rest d is = (json.null, value_is depth _, is)
scalar_given depth Token.begin_object rest d is = absurd cc
scalar_given depth Token.end_object rest d is = absurd cc
scalar_given depth Token.begin_array rest d is = absurd cc
scalar_given depth Token.end_array rest d is = absurd cc
scalar_given depth (Token.key s) rest d is = absurd cc
scalar_given depth Token.bad rest d is = absurd cc

pub begins_given : (depth : ℕ) (old : List Token) (d : Data) (left : List Token) → BeginsWith old d left → Gives of_json (value depth old) (Some d) left
begins_given depth old d left b = subst (λ ts. Gives of_json (value depth ts) (Some d) left) (sym b.1) (scalar_given depth b.0 left d b.2)

-- a value of one token is read
pub scalar_read : {A : Type 0} (depth : ℕ) (form : Data → Result A Refusal) (old : List Token) (d : Data) (x : A) (left : List Token) → BeginsWith old d left → form d ≡ Ok x → IsRead depth form old x left
scalar_read depth form old d x left b is = (d, begins_given depth old d left b, is, omega (arith, ap length b.1))

-- ---- arrays

pub items_over : (depth : ℕ) (ts r : List Token) → after_end_array ts ≡ Some r → AreItems depth ts no_items r
items_over depth ts r over = λ most enough. (json.no_items, items_end (value depth) most ts r enough over, refl)

pub items_then : (depth : ℕ) (ts mid r : List Token) (d : Data) (ds : Items) → after_end_array ts ≡ None → Gives of_json (value depth ts) (Some d) mid → length mid < length ts
    → AreItems depth mid ds r → AreItems depth ts (item d ds) r
items_then depth ts mid r d ds going one shorter rest = λ most enough.
    let more = rest (most - 1) (omega arith) in (
      json.item one.0 more.0,
      items_more (value depth) most ts mid one.0 (omega arith) going one.1 ∙ ap (parse_map (json.item one.0)) more.1,
      ap (option_and_then (λ e. option_map (item e) (of_items more.0))) one.2 ∙ ap (option_map (item d)) more.2,
    )

pub array_given : (depth : ℕ) (ts rest left : List Token) (ds : Items) → ts ≡ Token.begin_array ∷ rest → 0 < depth → AreItems (depth - 1) rest ds left → Gives of_json (value depth ts) (Some (array ds)) left
array_given depth ts rest left ds begun some all = array_first depth ts rest ds left begun some (all (length rest) (omega arith))

-- of an array that began at the tokens `old` these items are read: what comes up to its end comes behind them
pub record ListSoFar {A : Type 0} (depth : ℕ) (form : Data → Result A Refusal) (old left : List Token) (found : List A) : Type 0 where
  pub behind_those : length left ≤ length old
  pub given : (ds : Items) (xs : List A) (r : List Token) → AreItems depth left ds r → each_of form ds ≡ Ok xs
      → (es : Items) × AreItems depth old es r × (each_of form es ≡ Ok (found ++ xs))

pub list_begin : {A : Type 0} (depth : ℕ) (form : Data → Result A Refusal) (old : List Token) (found : List A) → found ≡ [] → ListSoFar depth form old old found
list_begin depth form old found empty = record {
  behind_those = omega arith;
  given = λ ds xs r all read. (ds, all, read ∙ ap (λ ys. Ok (ys ++ xs)) (sym empty));
}

module _ {A : Type 0} (depth : ℕ) (form : Data → Result A Refusal) (old left : List Token) (found : List A) (far : ListSoFar depth form old left found) where
  pub list_turn : (new : List Token) (x : A) (longer : List A) → after_end_array left ≡ None → IsRead depth form left x new → longer ≡ found ++ x ∷ [] → ListSoFar depth form old new longer
  list_turn new x longer going one is = record {
    behind_those = omega (arith, far.behind_those, one.3);
    given = λ ds xs r more read.
        let all = far.given (item one.0 ds) (x ∷ xs) r (items_then depth left new r one.0 ds going one.1 one.3 more)
        (ap (λ f. and_then f (λ y. read_as (λ ys. y ∷ ys) (each_of form ds))) one.2 ∙ ap (read_as (λ ys. x ∷ ys)) read) in
        (all.0, all.1, all.2 ∙ ap Ok (sym (ap (λ ys. ys ++ xs) is ∙ append_assoc found (x ∷ []) xs)));
  }

  pub list_over : (new : List Token) → after_end_array left ≡ Some new → (es : Items) × AreItems depth old es new × (each_of form es ≡ Ok (found ++ []))
  list_over new over = far.given no_items [] new (items_over depth left new over) refl

  pub list_shorter : (new : List Token) → after_end_array left ≡ Some new → length new < length old
  list_shorter new over = omega (arith, after_end_array-shorter left new over, far.behind_those)

-- ---- objects

pub members_over : (depth : ℕ) (before : Members) (ts r : List Token) → read_key ts ≡ Some (None, r) → AreMembers depth before ts before r
members_over depth before ts r key = λ most enough. (json.no_members, members_end (value depth) most ts r enough key, refl)

pub members_then : (depth : ℕ) (before : Members) (ts mid new r : List Token) (k : List ℕ) (d : Data) (ms : Members) → read_key ts ≡ Some (Some k, mid)
    → Gives of_json (value depth mid) (Some d) new → length new < length mid → AreMembers depth (put k d before) new ms r → AreMembers depth before ts ms r
members_then depth before ts mid new r k d ms key one shorter rest = λ most enough.
    let less : length mid < length ts = read_key-shorter ts (Some k) mid key in
    let more = rest (most - 1) (omega arith) in (
      json.member k one.0 more.0,
      members_more (value depth) most k ts mid new one.0 (omega arith) key one.1 ∙ ap (parse_map (json.member k one.0)) more.1,
      ap (option_and_then (λ e. of_members more.0 (put k e before))) one.2 ∙ more.2,
    )

pub object_given : (depth : ℕ) (ts rest left : List Token) (ms : Members) → ts ≡ Token.begin_object ∷ rest → 0 < depth → AreMembers (depth - 1) no_members rest ms left
    → Gives of_json (value depth ts) (Some (object ms)) left
object_given depth ts rest left ms begun some all = object_first depth ts rest ms left begun some (all (length rest) (omega arith))

-- of an object that began at the tokens `old` these members are read: what comes up to its end comes behind them
pub record ObjectSoFar (depth : ℕ) (old left : List Token) (found : Members) : Type 0 where
  pub behind_those : length left ≤ length old
  pub given : (ms : Members) (r : List Token) → AreMembers depth found left ms r → AreMembers depth no_members old ms r

pub object_begin : (depth : ℕ) (old : List Token) → ObjectSoFar depth old old no_members
object_begin depth old = record { behind_those = omega arith; given = λ ms r all. all }

module _ (depth : ℕ) (old left : List Token) (found : Members) (far : ObjectSoFar depth old left found) where
  pub object_turn : (mid new : List Token) (k : List ℕ) (d : Data) → read_key left ≡ Some (Some k, mid) → Gives of_json (value depth mid) (Some d) new → length new < length mid
      → ObjectSoFar depth old new (put k d found)
  object_turn mid new k d key one shorter = record {
    behind_those = omega (arith, far.behind_those, read_key-shorter left (Some k) mid key);
    given = λ ms r all. far.given ms r (members_then depth found left mid new r k d ms key one shorter all);
  }

  pub object_over : (new : List Token) → read_key left ≡ Some (None, new) → AreMembers depth no_members old found new
  object_over new key = far.given found new (members_over depth found left new key)

  pub object_shorter : (new : List Token) → read_key left ≡ Some (None, new) → length new < length old
  object_shorter new key = omega (arith, far.behind_those, read_key-shorter left None new key)

-- ---- more of one token

-- no such token closes an array
pub scalar_going : (t : Token) (d : Data) (rest : List Token) → data_of t ≡ Some d → after_end_array (t ∷ rest) ≡ None
scalar_going (Token.string s) d rest is = refl
scalar_going (Token.number s) d rest is = refl
scalar_going (Token.boolean b) d rest is = refl
scalar_going Token.null d rest is = refl
scalar_going Token.begin_object d rest is = refl
scalar_going Token.end_object d rest is = refl
scalar_going Token.begin_array d rest is = refl
scalar_going Token.end_array d rest is = absurd cc
scalar_going (Token.key s) d rest is = refl
scalar_going Token.bad d rest is = refl

pub natural_begins : (old left : List Token) (s : List ℕ) (found : Option ℕ) → old ≡ Token.number s ∷ left
    → IfSome found (λ n. (m : Num) × (number_of s ≡ Some m) × (natural_of (number m) ≡ Some n)) → IfSome found (λ n. (d : Data) × BeginsWith old d left × (natural_of d ≡ Some n))
natural_begins old left s None is h = tt
natural_begins old left s (Some n) is h = (number h.0, (Token.number s, is, ap (option_map number) h.1), h.2)

-- ---- what may not be read

pub if_same : {A : Type 0} (P : A → Type 0) (found : Option A) (x : A) → P x → IfSome found (λ y. y ≡ x) → IfSome found P
if_same P None x h is = tt
if_same P (Some y) x h is = subst P (sym is) h

-- the number of a token, by a form of numbers
pub number_if : {A : Type 0} (form : Data → Result A Refusal) (t : Token) (s : List ℕ) (found : Option A) → t ≡ Token.number s
    → IfSome found (λ x. (m : Num) × (number_of s ≡ Some m) × (form (number m) ≡ Ok x)) → IfSome found (λ x. (d : Data) × (data_of t ≡ Some d) × (form d ≡ Ok x))
number_if form t s None is h = tt
number_if form t s (Some x) is h = (number h.0, ap data_of is ∙ ap (option_map number) h.1, h.2)

-- the value of the first token, by a form
pub scalar_if : {A : Type 0} (depth : ℕ) (form : Data → Result A Refusal) (old left : List Token) (t : Token) (found : Option A) → old ≡ t ∷ left
    → IfSome found (λ x. (d : Data) × (data_of t ≡ Some d) × (form d ≡ Ok x)) → IfSome found (λ x. IsRead depth form old x left)
scalar_if depth form old left t None is h = tt
scalar_if depth form old left t (Some x) is h = scalar_read depth form old h.0 x left (t, is, h.1) h.2

pub list_if : {A : Type 0} (depth : ℕ) (form : Data → Result A Refusal) (old rest new : List Token) (found : Option (List A)) → old ≡ Token.begin_array ∷ rest → 0 < depth
    → IfSome found (λ xs. (ds : Items) × AreItems (depth - 1) rest ds new × (each_of form ds ≡ Ok xs) × (length new < length rest))
    → IfSome found (λ xs. IsRead depth (list_of form) old xs new)
list_if depth form old rest new None begun some h = tt
list_if depth form old rest new (Some xs) begun some h = (array h.0, array_given depth old rest new h.0 begun some h.1, h.2, omega (arith, ap length begun, h.3))
