-- An object that is being read.
use Rattle.std.proofs.Common.{◌≡◌, ℕ, zero, suc, ◌-◌, ◌<◌, ◌≤◌, List, [], length, Option, Some, None, option_and_then, String, Global}
use Rattle.std.proofs.Common.{string_bytes, string_cmp, refl, sym, ap, subst, ◌∙◌, arith}
use Rattle.std.specs.BTreeMap.{insert_entry}
use Rattle.json.specs.Token.{Token}
use Rattle.json.specs.Json as json
use Rattle.json.specs.Json.{Parse, value, members, members_step, parse_map, read_key}
use Rattle.json.proofs.Grammar.{read_key-shorter, members_end, members_more, members_no_key}
use Rattle.serde_json.specs.Data.{Data, Members, no_members, put}
use Rattle.serde_json.specs.Read.{of_json, of_members}
use Rattle.serde_json.specs.View.{view, members_view}
use Rattle.serde_json.specs.declared.value.Value.{Value}
use Rattle.serde_json.proofs.Views.{Entry, members_view-insert_entry}
use Rattle.ds_json_values.specs.Outcomes.{Refuses, Gives}

-- what the members mean that come behind those before
abbrev pub behind_those : Members → json.Members → Option Members
behind_those before ms = of_members ms before

-- of an object that began at the tokens `old` these members are read, and these tokens are left
pub record MembersSoFar (depth : ℕ) (old left : List Token) (found : List Entry) : Type 0 where
  pub most : ℕ
  pub enough : length left ≤ most
  pub behind : length left ≤ length old
  pub given : (ds : Members) (rest : List Token) → Gives (behind_those (members_view found)) (members (value depth) most left) (Some ds) rest
      → Gives (behind_those no_members) (members (value depth) (length old) old) (Some ds) rest
  pub refused : Refuses (behind_those (members_view found)) (members (value depth) most left) → Refuses (behind_those no_members) (members (value depth) (length old) old)

pub members_begin : (depth : ℕ) (old : List Token) (found : List Entry) → found ≡ [] → MembersSoFar depth old old found
members_begin depth old found empty = record {
  most = length old;
  enough = omega arith;
  behind = omega arith;
  given = λ ds rest g. subst (λ es. Gives (behind_those (members_view es)) (members (value depth) (length old) old) (Some ds) rest) empty g;
  refused = λ none. subst (λ es. Refuses (behind_those (members_view es)) (members (value depth) (length old) old)) empty none;
}

later_refused : (k : List ℕ) (j : json.Json) (d : Data) (before : Members) → of_json j ≡ Some d → (found : Option (json.Members × List Token)) → Refuses (behind_those (put k d before)) found
    → Refuses (behind_those before) (parse_map (json.member k j) found)
later_refused k j d before is None none = tt
later_refused k j d before is (Some p) none = ap (option_and_then (λ e. of_members p.0 (put k e before))) is ∙ none

no_member : (k : List ℕ) (j : json.Json) (before : Members) → of_json j ≡ None → (found : Option (json.Members × List Token)) → Refuses (behind_those before) (parse_map (json.member k j) found)
no_member k j before none None = tt
no_member k j before none (Some p) = ap (option_and_then (λ e. of_members p.0 (put k e before))) none

first_refused : (k : List ℕ) (before : Members) (more : Parse json.Members) (found : Option (json.Json × List Token)) → Refuses of_json found
    → Refuses (behind_those before) (option_and_then (λ q. parse_map (json.member k q.0) (more q.1)) found)
first_refused k before more None none = tt
first_refused k before more (Some q) none = no_member k q.0 before none (more q.1)

member_refused : (depth most : ℕ) (before : Members) (k : List ℕ) (left mid : List Token) → read_key left ≡ Some (Some k, mid) → Refuses of_json (value depth mid)
    → Refuses (behind_those before) (members (value depth) most left)
unfolding members
member_refused depth zero before k left mid key none = tt
member_refused depth (suc n) before k left mid key none =
    subst (λ o. Refuses (behind_those before) (option_and_then (λ q. members_step (value depth) (members (value depth) n) q.0 q.1) o)) (sym key)
    (first_refused k before (members (value depth) n) (value depth mid) none)

module _ (depth : ℕ) (old left : List Token) (found : List Entry) (far : MembersSoFar depth old left found) where
  pub members_turn : (mid new : List Token) (name : String Global) (v : Value) (more : List Entry) → read_key left ≡ Some (Some (string_bytes name), mid)
      → Gives of_json (value depth mid) (Some (view v)) new → length new < length mid → more ≡ insert_entry string_cmp found name v → MembersSoFar depth old new more
  members_turn mid new name v more key one shorter is =
      let k = string_bytes name in
      let less : length mid < length left = read_key-shorter left (Some k) mid key in
      let parts : members (value depth) far.most left ≡ parse_map (json.member k one.0) (members (value depth) (far.most - 1) new) = members_more (value depth) far.most k left mid new one.0 (omega (arith, far.enough)) key one.1 in
      let seen : members_view more ≡ put k (view v) (members_view found) = ap members_view is ∙ members_view-insert_entry found name v in
      record {
        most = far.most - 1;
        enough = omega (arith, far.enough);
        behind = omega (arith, far.behind);
        given = λ ds rest g.
            far.given ds rest (
              json.member k one.0 g.0,
              parts ∙ ap (parse_map (json.member k one.0)) g.1,
              ap (option_and_then (λ e. of_members g.0 (put k e (members_view found)))) one.2 ∙ ap (of_members g.0) (sym seen) ∙ g.2,
            );
        refused = λ none.
            far.refused (subst (Refuses (behind_those (members_view found))) (sym parts)
            (later_refused k one.0 (view v) (members_view found) one.2 (members (value depth) (far.most - 1) new)
            (subst (λ ms. Refuses (behind_those ms) (members (value depth) (far.most - 1) new)) seen none)));
      }

  pub members_stop : (mid : List Token) (k : List ℕ) → read_key left ≡ Some (Some k, mid) → Refuses of_json (value depth mid) → Refuses (behind_those no_members) (members (value depth) (length old) old)
  members_stop mid k key none = far.refused (member_refused depth far.most (members_view found) k left mid key none)

  pub no_key : read_key left ≡ None → Refuses (behind_those no_members) (members (value depth) (length old) old)
  no_key key = far.refused (subst (Refuses (behind_those (members_view found))) (sym (members_no_key (value depth) far.most left key)) tt)

  pub members_over : (new : List Token) → read_key left ≡ Some (None, new) → Gives (behind_those no_members) (members (value depth) (length old) old) (Some (members_view found)) new
  members_over new key = far.given (members_view found) new (json.no_members, members_end (value depth) far.most left new far.enough key, refl)

  pub members_shorter : (new : List Token) → read_key left ≡ Some (None, new) → length new < length old
  members_shorter new key = omega (arith, read_key-shorter left None new key, far.behind)
