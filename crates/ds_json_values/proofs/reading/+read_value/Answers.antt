use Rattle.std.proofs.Common.{◌≡◌, ◌-◌, ◌<◌, [], ◌∷◌, length, Some, None, String, Vec, BTreeMap, Global, string_bytes, sym, ap, subst, ◌∙◌}
use Rattle.std.proofs.Common.{arith, rules}
use Rattle.json.specs.Token.{Token}
use Rattle.json.specs.Json.{after_end_array, read_key, items, members, value}
use Rattle.json.specs.Reads.{token_of}
use Rattle.json.proofs.Grammar.{value_is}
use Rattle.serde_json.specs.Data.{string, no_members}
use Rattle.serde_json.specs.Read.{of_json, of_items}
use Rattle.serde_json.specs.View.{view, number_view, items_view, members_view}
use Rattle.serde_json.specs.declared.value.Value.{Value}
use Rattle.serde_json.proofs.Views.{view-Array, view-Object}
use Rattle.ds_json_values.specs.Outcomes.{Refuses, Gives}
use Rattle.ds_json_values.proofs.ItemLaws.{items_turn, items_stop, items_over}
use Rattle.ds_json_values.proofs.MemberLaws.{members_turn, members_stop, members_over, no_key, behind_those}
use Rattle.ds_json_values.proofs.OutcomeLaws.{given, not_given}
use Rattle.ds_json_values.proofs.TokenLaws.{view-String, view-Number, view-Bool, view-Null, string_first, number_first, number_refused}
use Rattle.ds_json_values.proofs.TokenLaws.{boolean_first, null_first, array_first, array_refused, array_too_deep, object_first}
use Rattle.ds_json_values.proofs.TokenLaws.{object_refused, object_too_deep}
use Rattle.ds_json_values.proofs.reading.+read_value.Goals as goal

pub read_items-returns-in_default-clause-gives : goal.read_items-returns-in_default-clause-gives
read_items-returns-in_default-clause-gives t c =
    let going : (after_end_array c.items.reader ≡ None) × (c.take_end_array.new.self ≡ c.items.reader) = grind arith in
    let none = not_given of_json view (value c.args.depth c.take_end_array.new.self) c.read_value.new.reader c.in_ok-item.field-0 c.in_default.is c.in_ok-item.ensures.gives in
    items_stop c.args.depth c.args.reader.now c.items.reader c.items.found.items c.items.invariant going.0 (subst (λ ts. Refuses of_json (value c.args.depth ts)) going.1 none)

pub read_items-items-preserved : goal.read_items-items-preserved
read_items-items-preserved t c =
    let going : (after_end_array c.items.reader ≡ None) × (c.take_end_array.new.self ≡ c.items.reader) = grind arith in
    let new = c.read_value.new.reader in
    let one = given of_json view (value c.args.depth c.take_end_array.new.self) new c.in_ok-item.field-0 c.in-Some.item c.in-Some.is c.in_ok-item.ensures.gives in
    let shorter : length new < length c.items.reader = grind (arith, going.1) in
    items_turn c.args.depth c.args.reader.now c.items.reader c.items.found.items c.items.invariant new c.in-Some.item c.push.new.self.items going.0 (subst (λ ts. Gives of_json (value c.args.depth ts) (Some (view c.in-Some.item)) new) going.1 one) shorter c.in_ok-push.ensures.items

pub read_items-returns-clause-gives : goal.read_items-returns-clause-gives
read_items-returns-clause-gives t c =
    let over : after_end_array c.items.reader ≡ Some c.take_end_array.new.self = grind arith in
    items_over c.args.depth c.args.reader.now c.items.reader c.items.found.items c.items.invariant c.take_end_array.new.self over

pub read_members-returns-in_default-clause-gives : goal.read_members-returns-in_default-clause-gives
read_members-returns-in_default-clause-gives t c =
    let key : read_key c.members.reader ≡ None = grind arith in
    no_key c.args.depth c.args.reader.now c.members.reader c.members.found.entries c.members.invariant key

pub read_members-returns-in_default-next-clause-gives : goal.read_members-returns-in_default-next-clause-gives
read_members-returns-in_default-next-clause-gives t c =
    let key : read_key c.members.reader ≡ Some (None, c.next_key.new.self) = grind arith in
    members_over c.args.depth c.args.reader.now c.members.reader c.members.found.entries c.members.invariant c.next_key.new.self key

pub read_members-returns-in_default-2-clause-gives : goal.read_members-returns-in_default-2-clause-gives
read_members-returns-in_default-2-clause-gives t c =
    let mid = c.next_key.new.self in
    let key : read_key c.members.reader ≡ Some (Some c.in-Some.name.now, mid) = grind arith in
    let none = not_given of_json view (value c.args.depth mid) c.read_value.new.reader c.in_ok-member.field-0 c.in_default-2.is c.in_ok-member.ensures.gives in
    members_stop c.args.depth c.args.reader.now c.members.reader c.members.found.entries c.members.invariant mid c.in-Some.name.now key none

pub read_members-members-preserved : goal.read_members-members-preserved
read_members-members-preserved t c =
    let mid = c.next_key.new.self in
    let new = c.read_value.new.reader in
    let copied : string_bytes c.in_ok-key.key ≡ c.in-Some.name.now = search rules in
    let key : read_key c.members.reader ≡ Some (Some c.in-Some.name.now, mid) = grind arith in
    let one = given of_json view (value c.args.depth mid) new c.in_ok-member.field-0 c.in-Some-2.member c.in-Some-2.is c.in_ok-member.ensures.gives in
    let shorter : length new < length mid = grind arith in
    members_turn c.args.depth c.args.reader.now c.members.reader c.members.found.entries c.members.invariant mid new c.in_ok-key.key c.in-Some-2.member c.insert.new.self.entries (key ∙ ap (λ b. Some (Some b, mid)) (sym copied)) one shorter c.in_ok-insert.ensures.entries

pub read_value-returns-in_default-clause-gives : goal.read_value-returns-in_default-clause-gives
read_value-returns-in_default-clause-gives t c =
    let empty : c.args.reader.now ≡ [] = grind arith in
    subst (Refuses of_json) (sym (ap (value c.args.depth) empty ∙ value_is c.args.depth [])) tt

pub read_value-returns-then-depth-eq0-clause-gives : goal.read_value-returns-then-depth-eq0-clause-gives
read_value-returns-then-depth-eq0-clause-gives t c =
    let first : c.args.reader.now ≡ token_of c.in-Some.token ∷ c.next.new.self = grind arith in
    let none : c.args.depth ≡ 0 = omega arith in
    array_too_deep c.args.depth c.args.reader.now c.next.new.self (first ∙ ap (λ k. token_of k ∷ c.next.new.self) c.in-BeginArray.is) none

pub read_value-returns-then-depth-eq0-2-clause-gives : goal.read_value-returns-then-depth-eq0-2-clause-gives
read_value-returns-then-depth-eq0-2-clause-gives t c =
    let first : c.args.reader.now ≡ token_of c.in-Some.token ∷ c.next.new.self = grind arith in
    let none : c.args.depth ≡ 0 = omega arith in
    object_too_deep c.args.depth c.args.reader.now c.next.new.self (first ∙ ap (λ k. token_of k ∷ c.next.new.self) c.in-BeginObject.is) none

pub read_value-returns-in_ok-from_str-in-String-clause-gives : goal.read_value-returns-in_ok-from_str-in-String-clause-gives
read_value-returns-in_ok-from_str-in-String-clause-gives t c =
    let first : c.args.reader.now ≡ token_of c.in-Some.token ∷ c.next.new.self = grind arith in
    let is : c.args.reader.now ≡ Token.string c.in-String.text.now ∷ c.next.new.self = grind (arith, first) in
    let copied : string_bytes c.in_ok-from_str-in-String.field-0 ≡ c.in-String.text.now = search rules in
    subst (λ d. Gives of_json (value c.args.depth c.args.reader.now) (Some d) c.next.new.self) (sym (view-String c.in_ok-from_str-in-String.field-0 ∙ ap string copied)) (string_first c.args.depth c.args.reader.now c.next.new.self c.in-String.text.now is)

pub read_value-returns-in-Some-read_number-clause-gives : goal.read_value-returns-in-Some-read_number-clause-gives
read_value-returns-in-Some-read_number-clause-gives t c =
    let first : c.args.reader.now ≡ token_of c.in-Some.token ∷ c.next.new.self = grind arith in
    let is : c.args.reader.now ≡ Token.number c.in-Number.text.now ∷ c.next.new.self = grind (arith, first) in
    let n = c.in-Some-read_number.number in
    subst (λ d. Gives of_json (value c.args.depth c.args.reader.now) (Some d) c.next.new.self) (sym (view-Number n)) (number_first c.args.depth c.args.reader.now c.next.new.self c.in-Number.text.now (number_view n) is (sym c.in-Some-read_number.ensures))

pub read_value-returns-in-None-clause-gives : goal.read_value-returns-in-None-clause-gives
read_value-returns-in-None-clause-gives t c =
    let first : c.args.reader.now ≡ token_of c.in-Some.token ∷ c.next.new.self = grind arith in
    let is : c.args.reader.now ≡ Token.number c.in-Number.text.now ∷ c.next.new.self = grind (arith, first) in
    number_refused c.args.depth c.args.reader.now c.next.new.self c.in-Number.text.now is (sym c.in-None.ensures)

pub read_value-returns-in-Bool-clause-gives : goal.read_value-returns-in-Bool-clause-gives
read_value-returns-in-Bool-clause-gives t c =
    let first : c.args.reader.now ≡ token_of c.in-Some.token ∷ c.next.new.self = grind arith in
    let is : c.args.reader.now ≡ Token.boolean c.in-Bool.b ∷ c.next.new.self = grind (arith, first) in
    subst (λ d. Gives of_json (value c.args.depth c.args.reader.now) (Some d) c.next.new.self) (sym (view-Bool c.in-Bool.b)) (boolean_first c.args.depth c.args.reader.now c.next.new.self c.in-Bool.b is)

pub read_value-returns-in-Null-clause-gives : goal.read_value-returns-in-Null-clause-gives
read_value-returns-in-Null-clause-gives t c =
    let first : c.args.reader.now ≡ token_of c.in-Some.token ∷ c.next.new.self = grind arith in
    let is : c.args.reader.now ≡ Token.null ∷ c.next.new.self = grind (arith, first) in
    subst (λ d. Gives of_json (value c.args.depth c.args.reader.now) (Some d) c.next.new.self) (sym view-Null) (null_first c.args.depth c.args.reader.now c.next.new.self is)

pub read_value-returns-in-EndObject-clause-gives : goal.read_value-returns-in-EndObject-clause-gives
read_value-returns-in-EndObject-clause-gives t c =
    let first : c.args.reader.now ≡ token_of c.in-Some.token ∷ c.next.new.self = grind arith in
    let none : value c.args.depth c.args.reader.now ≡ None = rw (value_is c.args.depth c.args.reader.now, first) (grind arith) in
    subst (Refuses of_json) (sym none) tt

pub read_value-returns-in-Some-2-clause-gives : goal.read_value-returns-in-Some-2-clause-gives
read_value-returns-in-Some-2-clause-gives t c =
    let first : c.args.reader.now ≡ token_of c.in-Some.token ∷ c.next.new.self = grind arith in
    let rest = c.next.new.self in
    let found = c.in-Some-2.found in
    let some : 0 < c.args.depth = omega arith in
    let inner = given of_items (λ (v : Vec Value Global). items_view v.items) (items (value (c.args.depth - 1)) (length rest) rest) c.read_items.new.reader c.in_ok-found-in-BeginArray.field-0 found c.in-Some-2.is c.in_ok-found-in-BeginArray.ensures.gives in
    subst (λ d. Gives of_json (value c.args.depth c.args.reader.now) (Some d) c.read_items.new.reader) (sym (view-Array found)) (array_first c.args.depth c.args.reader.now rest (items_view found.items) c.read_items.new.reader (first ∙ ap (λ k. token_of k ∷ rest) c.in-BeginArray.is) some inner)

pub read_value-returns-in-None-2-clause-gives : goal.read_value-returns-in-None-2-clause-gives
read_value-returns-in-None-2-clause-gives t c =
    let first : c.args.reader.now ≡ token_of c.in-Some.token ∷ c.next.new.self = grind arith in
    let rest = c.next.new.self in
    let some : 0 < c.args.depth = omega arith in
    let none = not_given of_items (λ (v : Vec Value Global). items_view v.items) (items (value (c.args.depth - 1)) (length rest) rest) c.read_items.new.reader c.in_ok-found-in-BeginArray.field-0 c.in-None-2.is c.in_ok-found-in-BeginArray.ensures.gives in
    array_refused c.args.depth c.args.reader.now rest (first ∙ ap (λ k. token_of k ∷ rest) c.in-BeginArray.is) some none

pub read_value-returns-in-Some-3-clause-gives : goal.read_value-returns-in-Some-3-clause-gives
read_value-returns-in-Some-3-clause-gives t c =
    let first : c.args.reader.now ≡ token_of c.in-Some.token ∷ c.next.new.self = grind arith in
    let rest = c.next.new.self in
    let found = c.in-Some-3.found in
    let some : 0 < c.args.depth = omega arith in
    let inner = given (behind_those no_members) (λ (m : BTreeMap (String Global) Value). members_view m.entries) (members (value (c.args.depth - 1)) (length rest) rest) c.read_members.new.reader c.in_ok-found-in-BeginObject.field-0 found c.in-Some-3.is c.in_ok-found-in-BeginObject.ensures.gives in
    subst (λ d. Gives of_json (value c.args.depth c.args.reader.now) (Some d) c.read_members.new.reader) (sym (view-Object found)) (object_first c.args.depth c.args.reader.now rest (members_view found.entries) c.read_members.new.reader (first ∙ ap (λ k. token_of k ∷ rest) c.in-BeginObject.is) some inner)

pub read_value-returns-in-None-3-clause-gives : goal.read_value-returns-in-None-3-clause-gives
read_value-returns-in-None-3-clause-gives t c =
    let first : c.args.reader.now ≡ token_of c.in-Some.token ∷ c.next.new.self = grind arith in
    let rest = c.next.new.self in
    let some : 0 < c.args.depth = omega arith in
    let none = not_given (behind_those no_members) (λ (m : BTreeMap (String Global) Value). members_view m.entries) (members (value (c.args.depth - 1)) (length rest) rest) c.read_members.new.reader c.in_ok-found-in-BeginObject.field-0 c.in-None-3.is c.in_ok-found-in-BeginObject.ensures.gives in
    object_refused c.args.depth c.args.reader.now rest (first ∙ ap (λ k. token_of k ∷ rest) c.in-BeginObject.is) some none
