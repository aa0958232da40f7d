-- A set of names, read as the list of its names.
use Rattle.std.proofs.Common.{◌≡◌, ℕ, List, [], ◌∷◌, ◌||◌, map, refl, sym, ap, ◌∙◌, Bor}
use Rattle.std.specs.Prelude.{bytes_eq}
use Rattle.std.specs.List.{list_any}
use Rattle.std.specs.Cmp.Lexicographic.{slice_cmp}
use Rattle.std.specs.declared.cmp.Ordering.{Ordering}
use Rattle.std.specs.Ordering.{nat_cmp}
use Rattle.std.specs.BTreeMap.{is_at}
use Rattle.std.specs.BTreeSet.{insert_key}
use Rattle.std.proofs.lemmas.Map.Text.{is_eq-slice_cmp}
use Rattle.ds_base.specs.KeyOrderLaws.{bytes_cmp-same}
use Rattle.ds_base.specs.SortingLaws.{list_any-insert_key}
use Rattle.ds_query.specs.Reasons.{has_name}

abbrev pub now_of : Bor (List ℕ) → List ℕ
now_of n = n.now

abbrev pub str_cmp : Bor (List ℕ) → Bor (List ℕ) → Ordering
str_cmp x y = slice_cmp nat_cmp x.now y.now

pub contains-has_name : (keys : List (Bor (List ℕ))) (name : List ℕ) → list_any (is_at (λ (k : Bor (List ℕ)). slice_cmp nat_cmp name k.now)) keys ≡ has_name (map now_of keys) name
contains-has_name [] name = refl
contains-has_name (k ∷ ks) name = λ i. is_eq-slice_cmp name k.now i || contains-has_name ks name i

has_name-map : (keys : List (Bor (List ℕ))) (n : List ℕ) → has_name (map now_of keys) n ≡ list_any (λ (k : Bor (List ℕ)). bytes_eq n k.now) keys
has_name-map [] n = refl
has_name-map (k ∷ ks) n = ap (λ b. bytes_eq n k.now || b) (has_name-map ks n)

-- a set with one more name has it, and those from before
pub has_name-insert_key : (keys : List (Bor (List ℕ))) (k : Bor (List ℕ)) (n : List ℕ) → has_name (map now_of (insert_key str_cmp keys k)) n ≡ (bytes_eq n k.now || has_name (map now_of keys) n)
has_name-insert_key keys k n =
    has_name-map (insert_key str_cmp keys k) n
    ∙ list_any-insert_key str_cmp (λ (x : Bor (List ℕ)). bytes_eq n x.now) (λ x y e. ap (bytes_eq n) (bytes_cmp-same x.now y.now e)) keys k
    ∙ ap (λ b. bytes_eq n k.now || b) (sym (has_name-map keys n))
