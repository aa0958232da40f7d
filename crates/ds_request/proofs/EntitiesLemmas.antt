-- The names of a put's properties ascend, as the keys of a map do.
use Rattle.std.proofs.Common.{◌≡◌, ℕ, List, [], ◌∷◌, ◌++◌, Bool, true, false, Result, Ok, Err, Less, Global, String, string_bytes}
use Rattle.std.proofs.Common.{string_cmp, nat_cmp, cond, IsTrue, not, ◌||◌, refl, subst}
use Rattle.std.specs.Prelude.{⊤}
use Rattle.std.specs.Option.{option_to_list}
use Rattle.std.specs.Cmp.Lexicographic.{slice_cmp}
use Rattle.std.specs.List.{AllByRecursion}
use Rattle.std.specs.List.Sorted.{IsStrictlySortedBy}
use Rattle.std.specs.Map.{keys_of}
use Rattle.serde_json.specs.Data.{Data, Members, member}
use Rattle.serde_json.specs.View.{view, members_view}
use Rattle.serde_json.proofs.Views.{Entry}
use Rattle.ds_base.specs.declared.value.Value.{Value}
use Rattle.ds_entity.specs.declared.entity.Property.{Property}
use Rattle.ds_base.specs.Keys.{is_name, is_reserved}
use Rattle.ds_entity.specs.Entities.{names_ascend}
use Rattle.ds_json_reading.specs.declared.refusal.Refusal.{Refusal}
use Rattle.ds_json_reading.specs.declared.refusal.Refusal.TheVariants as refusal
use Rattle.ds_json_reading.specs.Reading.{and_then, read_as, each_member_of}
use Rattle.ds_json_reading.specs.Values.{property_values_of}
use Rattle.ds_request.specs.Entities.{property_with, property_of}

-- a name that is below the first property's
abbrev IsBelowFirst : List ℕ → List Property → Type 0
IsBelowFirst name [] = ⊤
IsBelowFirst name (p ∷ ps) = slice_cmp nat_cmp name p.name ≡ Less

-- a property, or none, before others
abbrev before : List ℕ → Bool × List Value → List Property → List Property
before name p ps = option_to_list (property_with name p) ++ ps

below_before : (first name : List ℕ) (indexed : Bool) (vs : List Value) (ps : List Property) → slice_cmp nat_cmp first name ≡ Less → IsBelowFirst first ps → IsBelowFirst first (before name (indexed, vs) ps)
below_before first name indexed [] ps h below = below
below_before first name indexed (v ∷ vs) ps h below = h

ascend_first : (p : Property) (ps : List Property) → IsBelowFirst p.name ps → IsTrue (names_ascend ps) → IsTrue (names_ascend (p ∷ ps))
ascend_first p [] below h = refl
ascend_first p (q ∷ ps) below h = rw (below, h) refl

ascend_before : (name : List ℕ) (indexed : Bool) (vs : List Value) (ps : List Property) → IsBelowFirst name ps → IsTrue (names_ascend ps) → IsTrue (names_ascend (before name (indexed, vs) ps))
ascend_before name indexed [] ps below h = h
ascend_before name indexed (v ∷ vs) ps below h = ascend_first (record { name = name; indexed = indexed; values = v ∷ vs }) ps below h

-- an object that was read: its first member and the others were
record IsRead (name : List ℕ) (rest : Result (List Property) Refusal) (ps : List Property) : Type 0 where
  pub first : Bool × List Value
  pub others : List Property
  pub others_read : rest ≡ Ok others
  pub all_read : before name first others ≡ ps

is_read_of : (b : Bool) (name : List ℕ) (r : Result (Bool × List Value) Refusal) (rest : Result (List Property) Refusal) (ps : List Property)
    → and_then (cond b (Err refusal.Value) (read_as (property_with name) r)) (λ x. read_as (λ xs. option_to_list x ++ xs) rest) ≡ Ok ps → IsRead name rest ps
is_read_of true name r rest ps h = absurd cc
is_read_of false name (Err e) rest ps h = absurd cc
is_read_of false name (Ok p) (Err e) ps h = absurd cc
is_read_of false name (Ok p) (Ok qs) ps h = record { first = p; others = qs; others_read = refl; all_read = cc }

is_read : (name : List ℕ) (d : Data) (ms : Members) (ps : List Property) → each_member_of property_of (member name d ms) ≡ Ok ps → IsRead name (each_member_of property_of ms) ps
is_read name d ms ps h = is_read_of (not (is_name name) || is_reserved name) name (property_values_of d) (each_member_of property_of ms) ps h

properties_below : (first : String Global) (es : List Entry) (ps : List Property) → AllByRecursion (λ y. string_cmp first y ≡ Less) (keys_of es) → each_member_of property_of (members_view es) ≡ Ok ps → IsBelowFirst (string_bytes first) ps
properties_below first [] ps below h = let e : [] ≡ ps = cc in subst (IsBelowFirst (string_bytes first)) e tt
properties_below first (e ∷ es) ps below h =
    let r = is_read (string_bytes e.0) (view e.1) (members_view es) ps h in
    subst (IsBelowFirst (string_bytes first)) r.all_read
    (below_before (string_bytes first) (string_bytes e.0) r.first.0 r.first.1 r.others below.0 (properties_below first es r.others below.1 r.others_read))

-- the properties of a map's members have ascending names, as the map's keys ascend
pub properties_ascend : (es : List Entry) (ps : List Property) → IsStrictlySortedBy string_cmp (keys_of es) → each_member_of property_of (members_view es) ≡ Ok ps → IsTrue (names_ascend ps)
unfolding IsStrictlySortedBy
properties_ascend [] ps sorted h = let e : [] ≡ ps = cc in subst (λ qs. IsTrue (names_ascend qs)) e refl
properties_ascend (e ∷ es) ps sorted h =
    let r = is_read (string_bytes e.0) (view e.1) (members_view es) ps h in
    subst (λ qs. IsTrue (names_ascend qs)) r.all_read
    (ascend_before (string_bytes e.0) r.first.0 r.first.1 r.others (properties_below e.0 es r.others sorted.0 r.others_read) (properties_ascend es r.others sorted.1 r.others_read))
