-- A value, and the values of a property, that are shown are read back as they are.
use Rattle.std.proofs.Common.{◌≡◌, ℕ, pos, negsuc, ◌^◌, ◌<◌, ◌≤◌, List, [], ◌∷◌, length, Bool, true}
use Rattle.std.proofs.Common.{false, cond, Some, refl, ap, ◌∙◌, arith, lt-ltb, le-leb, inl, inr}
use Rattle.std.specs.Prelude.{Result, Ok, Err, codes, All, FitsSigned, slice_index}
use Rattle.std.specs.Int.{w64}
use Rattle.std.specs.List.{list_any}
use Rattle.std.specs.Option.{ok_or}
use Rattle.std.specs.Result.{result_ok}
use Rattle.std.proofs.lemmas.Bool.{or_parts, ltb-false, cases_lt}
use Rattle.std.proofs.lemmas.List.{get_or_past}
use Rattle.std.proofs.lemmas.List.Elements.{All-head, All-tail}
use Rattle.base64.specs.Engines.{standard}
use Rattle.base64.specs.GeneralPurpose.{IsBytes, IsConsistent}
use Rattle.base64.proofs.EngineFacts.{decode_of-encode_of}
use Rattle.ds_base.specs.Bytes.{AreBytes}
use Rattle.ds_base.specs.Values.{is_faulty_value}
use Rattle.ds_base.specs.Limits.{greatest_rating}
use Rattle.ds_base.specs.declared.value.Value.{Value}
use Rattle.ds_base.specs.declared.value.Value.TheVariants as value
use Rattle.ds_json_reading.specs.declared.refusal.Refusal.{Refusal}
use Rattle.ds_json_reading.specs.declared.refusal.Refusal.TheVariants as refusal
use Rattle.ds_json_reading.specs.Reading.{and_then, read_as, each_of, integer_of, up_to}
use Rattle.ds_json_reading.specs.Values.{base64_of, value_of, property_value_of, values_of, property_values_of}
use Rattle.ds_json_printing.specs.Printing.{integer, natural, base64_data, value_data, value_items, values_data, tagged}
use Rattle.ds_journal_text.specs.Lawful.{IsLawfulValue}
use Rattle.ds_journal_text.proofs.KeysBack.{key_back}

integer_back : (z : _) → FitsSigned w64 z → integer_of (integer z) ≡ Some z
integer_back (pos n) h = let small : n < 2 ^ 63 = omega (arith, h.sfits) in rw (lt-ltb n 9223372036854775808 small) refl
integer_back (negsuc n) h = refl

rating_back : (n : ℕ) → n ≤ greatest_rating → up_to greatest_rating (natural n) ≡ Some n
rating_back n h =
    let small : n < 2 ^ 63 = omega arith in
    rw (lt-ltb n 9223372036854775808 small, le-leb n greatest_rating h) refl

each_byte : (bs : List ℕ) → AreBytes bs → IsBytes bs
each_byte bs h i = elim (cases_lt i (length bs)) [ inl below ↦ h i 0 below | inr past ↦ (let zero : slice_index bs i ≡ 0 = get_or_past bs i 0 past in omega arith) ]

consistent : IsConsistent standard
consistent = refl

base64_back : (bs : List ℕ) → AreBytes bs → base64_of (base64_data bs) ≡ Some bs
base64_back bs h = ap result_ok (decode_of-encode_of standard bs consistent (each_byte bs h))

pub value_back : (v : Value) (indexed : Bool) → IsLawfulValue v → is_faulty_value indexed v ≡ false → value_of (value_data v) ≡ Ok v
value_back value.Null indexed h sound = refl
value_back (value.Int (pos n)) indexed h sound = ap (λ o. read_as value.Int (ok_or o refusal.Value)) (integer_back (pos n) h)
value_back (value.Int (negsuc n)) indexed h sound = refl
value_back (value.Date n) indexed h sound = ap (λ o. read_as value.Date (ok_or o refusal.Value)) (integer_back n h)
value_back (value.Rating n) indexed h sound =
    ap (λ o. read_as value.Rating (ok_or o refusal.Value)) (rating_back n (ltb-false greatest_rating n sound))
value_back (value.Bool b) indexed h sound = refl
value_back (value.Bytes s) indexed h sound = ap (λ o. read_as value.Bytes (ok_or o refusal.Value)) (base64_back s h)
value_back (value.Str s) indexed h sound = refl
value_back (value.Text s) indexed h sound = refl
value_back (value.Blob s) indexed h sound = ap (λ o. read_as value.Blob (ok_or o refusal.Value)) (base64_back s h)
value_back (value.Key k) indexed h sound = ap (read_as value.Key) (key_back k h.rules)

property_value_back : (indexed : Bool) (v : Value) → IsLawfulValue v → is_faulty_value indexed v ≡ false → property_value_of indexed (value_data v) ≡ Ok v
property_value_back indexed v h sound =
    let given : Result Value Refusal = Ok v in
    let refused : Result Value Refusal = Err refusal.Value in
    ap (λ o. and_then o (λ v. cond (is_faulty_value indexed v) (Err refusal.Value) (Ok v))) (value_back v indexed h sound)
    ∙ ap (λ b. cond b refused given) sound

each_back : (indexed : Bool) (vs : List Value) → All IsLawfulValue vs → list_any (is_faulty_value indexed) vs ≡ false → each_of (property_value_of indexed) (value_items vs) ≡ Ok vs
each_back indexed [] h sound = refl
each_back indexed (v ∷ vs) h sound =
    let p = or_parts _ _ sound in
    ap (λ o. and_then o (λ x. read_as (λ xs. x ∷ xs) (each_of (property_value_of indexed) (value_items vs))))
    (property_value_back indexed v (All-head IsLawfulValue v vs h) p.0)
    ∙ ap (read_as (λ xs. v ∷ xs)) (each_back indexed vs (All-tail IsLawfulValue v vs h) p.1)

-- no value is shown as an array
one_value : (indexed : Bool) (v : Value) → values_of indexed (value_data v) ≡ read_as (λ x. x ∷ []) (property_value_of indexed (value_data v))
one_value indexed value.Null = refl
one_value indexed (value.Int n) = refl
one_value indexed (value.Date n) = refl
one_value indexed (value.Rating n) = refl
one_value indexed (value.Bool b) = refl
one_value indexed (value.Bytes s) = refl
one_value indexed (value.Str s) = refl
one_value indexed (value.Text s) = refl
one_value indexed (value.Blob s) = refl
one_value indexed (value.Key k) = refl

values_back : (indexed : Bool) (vs : List Value) → All IsLawfulValue vs → list_any (is_faulty_value indexed) vs ≡ false → values_of indexed (values_data vs) ≡ Ok vs
values_back indexed [] h sound = refl
values_back indexed (v ∷ []) h sound =
    one_value indexed v
    ∙ ap (read_as (λ x. x ∷ [])) (property_value_back indexed v (All-head IsLawfulValue v [] h) (or_parts _ _ sound).0)
values_back indexed (v ∷ w ∷ vs) h sound = each_back indexed (v ∷ w ∷ vs) h sound

-- no value is shown as an object whose member says that it isn't indexed
indexed_one : (v : Value) → property_values_of (value_data v) ≡ read_as (λ vs. (true, vs)) (values_of true (value_data v))
indexed_one value.Null = refl
indexed_one (value.Int n) = refl
indexed_one (value.Date n) = refl
indexed_one (value.Rating n) = refl
indexed_one (value.Bool b) = refl
indexed_one (value.Bytes s) = refl
indexed_one (value.Str s) = refl
indexed_one (value.Text s) = refl
indexed_one (value.Blob s) = refl
indexed_one (value.Key k) = refl

indexed_values : (vs : List Value) → property_values_of (values_data vs) ≡ read_as (λ vs. (true, vs)) (values_of true (values_data vs))
indexed_values [] = refl
indexed_values (v ∷ []) = indexed_one v
indexed_values (v ∷ w ∷ vs) = refl

-- the values of a property, and whether indexes hold them
pub property_values_back : (indexed : Bool) (vs : List Value) → All IsLawfulValue vs → list_any (is_faulty_value indexed) vs ≡ false
    → property_values_of (cond indexed (values_data vs) (tagged (codes "unindexed") (values_data vs))) ≡ Ok (indexed, vs)
property_values_back true vs h sound = indexed_values vs ∙ ap (read_as (λ vs. (true, vs))) (values_back true vs h sound)
property_values_back false vs h sound = ap (read_as (λ vs. (false, vs))) (values_back false vs h sound)
