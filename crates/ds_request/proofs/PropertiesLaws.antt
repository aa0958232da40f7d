-- Properties whose names ascend, read one after another from the tokens of an object.
use Rattle.std.proofs.Common.{◌≡◌, ℕ, ◌<◌, List, [], ◌∷◌, ◌++◌, length, true, Some, None, Ok, Ordering, Less, Equal, Greater}
use Rattle.std.proofs.Common.{nat_cmp, IsTrue, refl, sym, ap, subst, ◌∙◌}
use Rattle.std.specs.Option.{option_to_list}
use Rattle.std.specs.Ordering.{is_lt, ordering_reverse, match_ordering}
use Rattle.std.specs.Cmp.Lexicographic.{slice_cmp}
use Rattle.std.proofs.lemmas.Bool.{and_from, and_parts}
use Rattle.std.proofs.lemmas.Cmp.{nat_list_cmp_total}
use Rattle.json.specs.Token.{Token}
use Rattle.json.specs.Json.{read_key}
use Rattle.serde_json.specs.Data.{Data, object, Members, no_members, member, put}
use Rattle.ds_base.specs.KeyOrder.{bytes_cmp}
use Rattle.ds_entity.specs.declared.entity.Property.{Property}
use Rattle.ds_entity.specs.Entities.{names_ascend}
use Rattle.ds_json_reading.specs.Reading.{and_then, read_as, each_member_of}
use Rattle.ds_line_reading.specs.Parts.{IsRead, AreMembers}
use Rattle.ds_line_reading.proofs.PartLaws.{ObjectSoFar, object_begin, object_turn, object_over, object_shorter}
use Rattle.ds_request.specs.Common.{AreProperties, AreBelow}
use Rattle.ds_request.specs.Entities.{property_of, properties_of}

is_less : (o : Ordering) → is_lt o ≡ true → o ≡ Less
is_less Less h = refl
is_less Equal h = absurd cc
is_less Greater h = absurd cc

below_more : (a b c : List ℕ) → is_lt (bytes_cmp a b) ≡ true → is_lt (bytes_cmp b c) ≡ true → is_lt (bytes_cmp a c) ≡ true
below_more a b c h k = ap is_lt (nat_list_cmp_total.trans a b c (is_less (bytes_cmp a b) h) (is_less (bytes_cmp b c) k))

all_below : (ps : List Property) (low high : List ℕ) → AreBelow low ps → is_lt (bytes_cmp low high) ≡ true → AreBelow high ps
all_below [] low high all less = tt
all_below (p ∷ ps) low high all less = (below_more p.name low high all.0 less, all_below ps low high all.1 less)

below_behind : (ps : List Property) (p : Property) (name : List ℕ) → AreBelow name ps → is_lt (bytes_cmp p.name name) ≡ true → AreBelow name (ps ++ p ∷ [])
below_behind [] p name all less = (less, tt)
below_behind (q ∷ ps) p name all less = (all.0, below_behind ps p name all.1 less)

ascend_behind : (ps : List Property) (p : Property) → names_ascend ps ≡ true → AreBelow p.name ps → names_ascend (ps ++ p ∷ []) ≡ true
ascend_behind [] p h below = refl
ascend_behind (q ∷ []) p h below = and_from (is_lt (bytes_cmp q.name p.name)) true below.0 refl
ascend_behind (q ∷ r ∷ ps) p h below =
    let parts = and_parts (is_lt (bytes_cmp q.name r.name)) (names_ascend (r ∷ ps)) h in
    and_from (is_lt (bytes_cmp q.name r.name)) (names_ascend (r ∷ ps ++ p ∷ [])) parts.0 (ascend_behind (r ∷ ps) p parts.1 below.1)

-- a member whose name is above all others goes last
put_behind : (ms : Members) (ps : List Property) (name : List ℕ) (d : Data) (p : Property) → AreProperties ms ps → AreBelow name ps → property_of name d ≡ Ok (Some p) → name ≡ p.name
    → AreProperties (put name d ms) (ps ++ p ∷ [])
put_behind no_members [] name d p all below read named = (named, read, tt)
put_behind no_members (q ∷ ps) name d p all below read named = absurd all
put_behind (member l e ms) [] name d p all below read named = absurd all
put_behind (member l e ms) (q ∷ ps) name d p all below read named =
    let above : slice_cmp nat_cmp name l ≡ Greater = ap (slice_cmp nat_cmp name) all.0 ∙ (nat_list_cmp_total.antisymm name q.name ∙ ap ordering_reverse (is_less (bytes_cmp q.name name) below.0)) in
    subst (λ o. AreProperties (match_ordering o (member name d (member l e ms)) (member l d ms) (member l e (put name d ms))) (q ∷ (ps ++ p ∷ []))) (sym above)
    (all.0, all.1, put_behind ms ps name d p all.2 below.1 read named)

pub properties_read : (ms : Members) (ps : List Property) → AreProperties ms ps → properties_of (object ms) ≡ Ok ps
properties_read ms ps all = each ms ps all where
  each : (ms : Members) (ps : List Property) → AreProperties ms ps → each_member_of property_of ms ≡ Ok ps
  each no_members [] all = refl
  each no_members (p ∷ ps) all = absurd all
  each (member l e ms) [] all = absurd all
  each (member l e ms) (p ∷ ps) all =
      ap (λ r. and_then r (λ x. read_as (λ xs. option_to_list x ++ xs) (each_member_of property_of ms))) all.1 ∙ ap (read_as (λ xs. p ∷ xs)) (each ms ps all.2)

-- of an object that began at the tokens `old` these properties are read, the last of this name
pub record PropertiesSoFar (depth : ℕ) (old left : List Token) (last : List ℕ) (found : List Property) : Type 0 where
  pub members : Members
  pub far : ObjectSoFar depth old left members
  pub all : AreProperties members found
  pub ascending : names_ascend found ≡ true
  pub above : (name : List ℕ) → is_lt (bytes_cmp last name) ≡ true → AreBelow name found

pub properties_begin : (depth : ℕ) (old : List Token) (last : List ℕ) (found : List Property) → found ≡ [] → PropertiesSoFar depth old old last found
properties_begin depth old last found empty = subst (PropertiesSoFar depth old old last) (sym empty) (record {
  members = no_members;
  far = object_begin depth old;
  all = tt;
  ascending = refl;
  above = λ name h. tt;
})

module _ (depth : ℕ) (old left : List Token) (last : List ℕ) (found : List Property) (so : PropertiesSoFar depth old left last found) where
  pub properties_turn : (mid new : List Token) (name : List ℕ) (p : Property) (longer : List Property) → read_key left ≡ Some (Some name, mid) → is_lt (bytes_cmp last name) ≡ true
      → IsRead depth (property_of name) mid (Some p) new → p.name ≡ name → longer ≡ found ++ p ∷ [] → PropertiesSoFar depth old new name longer
  properties_turn mid new name p longer key less one named is = subst (PropertiesSoFar depth old new name) (sym is) (record {
    members = put name one.0 so.members;
    far = object_turn depth old left so.members so.far mid new name one.0 key one.1 one.3;
    all = put_behind so.members found name one.0 p so.all (so.above name less) one.2 (sym named);
    ascending = ascend_behind found p so.ascending (subst (λ n. AreBelow n found) (sym named) (so.above name less));
    above = λ next h. below_behind found p next (all_below found name next (so.above name less) h) (subst (λ n. is_lt (bytes_cmp n next) ≡ true) (sym named) h);
  })

  pub properties_over : (new : List Token) → read_key left ≡ Some (None, new)
      → (ms : Members) × AreMembers depth no_members old ms new × (length new < length old) × AreProperties ms found × IsTrue (names_ascend found)
  properties_over new key = (so.members, object_over depth old left so.members so.far new key, object_shorter depth old left so.members so.far new key, so.all, so.ascending)
