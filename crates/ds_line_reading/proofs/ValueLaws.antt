-- Values, and the one value of a property.
use Rattle.std.proofs.Common.{◌≡◌, ℕ, ◌-◌, ◌<◌, List, [], ◌∷◌, length, Bool, true, false, cond, codes, Some, None, Result, Ok, Err, refl, sym, ap, subst, ◌∙◌, arith}
use Rattle.std.specs.Str.{bytes_eq}
use Rattle.std.proofs.lemmas.Slice.Eq.{bytes_eq-Decides}
use Rattle.json.specs.Token.{Token}
use Rattle.json.specs.Json.{read_key}
use Rattle.json.proofs.Grammar.{read_key-shorter}
use Rattle.serde_json.specs.Data.{Data, null, boolean, number, string, array, object, no_members, member, put}
use Rattle.ds_base.specs.declared.value.Value.{Value}
use Rattle.ds_base.specs.Values.{is_faulty_value}
use Rattle.ds_json_reading.specs.declared.refusal.Refusal.{Refusal}
use Rattle.ds_json_reading.specs.declared.refusal.Refusal.TheVariants as refusal
use Rattle.ds_json_reading.specs.Reading.{and_then, read_as}
use Rattle.ds_json_reading.specs.Values.{tagged_value_of, value_of, values_of, property_value_of, property_values_of}
use Rattle.ds_line_reading.specs.Parts.{IsRead}
use Rattle.ds_line_reading.proofs.PartLaws.{members_over, members_then, object_given}

-- an object of one member, whose name tells the value's type
pub tagged_read : (depth : ℕ) (old mid behind new : List Token) (name : List ℕ) (v : Value) → 0 < depth → read_key old ≡ Some (Some name, mid)
    → IsRead (depth - 1) (tagged_value_of name) mid v behind → read_key behind ≡ Some (None, new) → IsRead depth value_of (Token.begin_object ∷ old) v new
tagged_read depth old mid behind new name v some key one over =
    let inner = depth - 1 in (
      object (member name one.0 no_members),
      object_given depth (Token.begin_object ∷ old) old new (member name one.0 no_members) refl some
          (members_then inner no_members old mid behind new name one.0 (member name one.0 no_members) key one.1 one.3 (members_over inner (member name one.0 no_members) behind new over)),
      one.2,
      omega (arith, read_key-shorter old (Some name) mid key, one.3, read_key-shorter behind None new over),
    )

abbrev indexed : List Value → Bool × List Value
indexed vs = (true, vs)

abbrev unindexed : List Value → Bool × List Value
unindexed vs = (false, vs)

single : (d : Data) (v : Value) → value_of d ≡ Ok v → is_faulty_value true v ≡ false
    → read_as indexed (read_as (λ w. w ∷ []) (property_value_of true d)) ≡ Ok (true, v ∷ [])
single d v is sound =
    ap (λ r. read_as indexed (read_as (λ w. w ∷ []) (and_then r (λ w. cond (is_faulty_value true w) (Err refusal.Value) (Ok w))))) is
    ∙ ap (λ b. read_as indexed (read_as (λ w. w ∷ []) (cond b (Err refusal.Value) (Ok v)))) sound

-- a tag that says that indexes don't hold the values is that of no value
not_unindexed : (name : List ℕ) (d : Data) (v : Value) (b : Bool) → bytes_eq name (codes "unindexed") ≡ b → tagged_value_of name d ≡ Ok v → b ≡ false
not_unindexed name d v false named is = refl
not_unindexed name d v true named is =
    let same : name ≡ codes "unindexed" = (bytes_eq-Decides name (codes "unindexed")).0 named in
    let none : Err refusal.Value ≡ Ok v = subst (λ n. tagged_value_of n d ≡ Ok v) same is in
    absurd cc

-- the one value of a property that indexes hold
pub property_read : (d : Data) (v : Value) → value_of d ≡ Ok v → is_faulty_value true v ≡ false → property_values_of d ≡ Ok (true, v ∷ [])
property_read null v is sound = single null v is sound
property_read (boolean b) v is sound = single (boolean b) v is sound
property_read (number n) v is sound = single (number n) v is sound
property_read (string s) v is sound = single (string s) v is sound
property_read (array ds) v is sound = absurd cc
property_read (object no_members) v is sound = absurd cc
property_read (object (member name d (member next e ms))) v is sound = absurd cc
property_read (object (member name d no_members)) v is sound =
    ap (λ b. cond b (read_as unindexed (values_of false d)) (read_as indexed (values_of true (object (member name d no_members)))))
    (not_unindexed name d v (bytes_eq name (codes "unindexed")) refl is)
    ∙ single (object (member name d no_members)) v is sound
