-- The index of named arguments, name by name.
use Rattle.std.proofs.Common.{◌≡◌, ℕ, ◌+◌, ◌<◌, Bool, true, false, cond, List, ◌∷◌, length, drop, get_or, Some, Bor, sym, ap, ◌∙◌}
use Rattle.std.specs.Prelude.{option_map, bytes_eq}
use Rattle.std.specs.BTreeMap.{BTreeMap, get_by, Updates}
use Rattle.std.specs.declared.cmp.Ordering.{Ordering}
use Rattle.std.specs.Cmp.Lexicographic.{slice_cmp}
use Rattle.std.specs.Ordering.{nat_cmp}
use Rattle.std.proofs.lemmas.List.{drop_more}
use Rattle.std.proofs.lemmas.Map.Text.{is_eq-slice_cmp}
use Rattle.ds_base.specs.declared.value.Value.{Value}
use Rattle.ds_base.specs.declared.named_value.NamedValue.{NamedValue}
use Rattle.ds_gql.specs.Arguments.{IsIndex}
use Rattle.ds_gql.specs.Steps.{first_named}

-- a list from a place on
pub drop_at : {A : Type 0} (xs : List A) (i : ℕ) (x : A) → i < length xs → x ≡ get_or xs i x → drop i xs ≡ x ∷ drop (i + 1) xs
drop_at xs i x within is = drop_more xs i x within ∙ ap (λ y. y ∷ drop (i + 1) xs) (sym is)

abbrev pub str_cmp : Bor (List ℕ) → Bor (List ℕ) → Ordering
str_cmp x y = slice_cmp nat_cmp x.now y.now

abbrev value_now : Bor Value → Value
value_now v = v.now

-- one earlier argument, whose value is put in the place of a later one
pub index_more : (names : List NamedValue) (i : ℕ) (x : NamedValue) (old new : BTreeMap (Bor (List ℕ)) (Bor Value)) (k : Bor (List ℕ)) (v : Bor Value)
    → i < length names → x ≡ get_or names i x → k.now ≡ x.name → v.now ≡ x.value → Updates str_cmp old new k (Some v) → IsIndex (drop (i + 1) names) old → IsIndex (drop i names) new
index_more names i x old new k v within is key_is value_is updates so_far name =
    let q : Bor (List ℕ) = record { ref_ptr = (0, 0); now = name } in
    let same_test = is_eq-slice_cmp k.now name ∙ ap (λ (n : List ℕ). bytes_eq n name) key_is in
    ap (option_map value_now) (updates.0 q)
    ∙ ap (λ b. option_map value_now (cond b (Some v) (get_by (λ (m : Bor (List ℕ)). slice_cmp nat_cmp name m.now) old))) same_test
    ∙ chosen (bytes_eq x.name name)
    ∙ sym (ap (λ (ns : List NamedValue). first_named ns name) (drop_at names i x within is)) where
      chosen : (b : Bool) → option_map value_now (cond b (Some v) (get_by (λ (m : Bor (List ℕ)). slice_cmp nat_cmp name m.now) old)) ≡ cond b (Some x.value) (first_named (drop (i + 1) names) name)
      chosen true = ap Some value_is
      chosen false = so_far name
