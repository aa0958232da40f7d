-- Products that stop at a greatest number.
use Rattle.std.proofs.Common.{◌≡◌, ℕ, zero, suc, ◌+◌, ◌*◌, ◌<◌, ◌≤◌, inl, inr, List, [], ◌∷◌, length, get_or, drop, map, min}
use Rattle.std.proofs.Common.{ap, sym, ◌∙◌, arith, refl}
use Rattle.std.specs.Prelude.{sum_by}
use Rattle.std.proofs.lemmas.List.{drop_more, drop_all}
use Rattle.std.proofs.lemmas.List.Sums.{sum_by-cons}
use Rattle.std.proofs.Math.Nat.{mul_assoc}
use Rattle.std.proofs.lemmas.Bool.{cases_lt}
use Rattle.ds_entity.specs.declared.entity.Property.{Property}
use Rattle.ds_rows.specs.IndexedValues.{value_count}
use Rattle.ds_base.specs.Limits.{greatest_told}
use Rattle.ds_rows.specs.Counts.{product}

-- one factor that is stopped, and the product with the others stopped
pub capped : (a p most : ℕ) → min (min a most * p) most ≡ min (a * p) most
capped a p most = elim (cases_lt a most) [
  | inl below ↦ ap (λ n. min (n * p) most) (omega arith)
  | inr above ↦ by p above
] where
  by : (p : ℕ) → most ≤ a → min (min a most * p) most ≡ min (a * p) most
  by zero above = omega arith
  by (suc p) above =
      let whole : min a most ≡ most = omega arith in
      ap (λ n. min (n * suc p) most) whole ∙ omega arith

-- one more factor of those that are left
pub product_step : {X : Type 0} (f : X → ℕ) (xs : List X) (i count next most whole : ℕ) (x : X) → i < length xs → x ≡ get_or xs i x
    → min (count * product (map f (drop i xs))) most ≡ whole → next ≡ min (count * f x) most
    → min (next * product (map f (drop (i + 1) xs))) most ≡ whole
product_step f xs i count next most whole x within is so_far more =
    let rest : product (map f (drop i xs)) ≡ f x * product (map f (drop (i + 1) xs)) =
    ap (λ ys. product (map f ys)) (drop_more xs i x within) ∙ ap (λ y. f y * product (map f (drop (i + 1) xs))) (sym is) in
    ap (λ n. min (n * product (map f (drop (i + 1) xs))) most) more
    ∙ capped (count * f x) (product (map f (drop (i + 1) xs))) most
    ∙ ap (λ n. min n most) (mul_assoc count (f x) (product (map f (drop (i + 1) xs))) ∙ ap (λ n. count * n) (sym rest)) ∙ so_far

-- no factor is left
pub product_done : {X : Type 0} (f : X → ℕ) (xs : List X) (i count most whole : ℕ) → length xs ≤ i → count ≤ most
    → min (count * product (map f (drop i xs))) most ≡ whole → count ≡ whole
product_done f xs i count most whole all told so_far =
    let left : product (map f (drop i xs)) ≡ 1 = ap (λ ys. product (map f ys)) (drop_all i xs all) in
    let one : count ≡ min (count * 1) most = omega arith in
    one ∙ ap (λ n. min (count * n) most) (sym left) ∙ so_far

-- two rows for each value, count by count and property by property
pub two_each : (ps : List Property) → sum_by (λ n. 2 * n) (map value_count ps) ≡ sum_by (λ p. 2 * value_count p) ps
two_each [] = refl
two_each (p ∷ ps) =
    sum_by-cons (λ (n : ℕ). 2 * n) (value_count p) (map value_count ps) ∙ ap (λ n. 2 * value_count p + n) (two_each ps)
    ∙ sym (sum_by-cons (λ (p : Property). 2 * value_count p) p ps)

-- the rows of the properties and those of the composite indexes
pub counts_joined : (a b single composite added count : ℕ) → single ≡ min (1 + a) greatest_told → composite ≡ min b greatest_told
    → added ≡ min (single + composite) 18446744073709551615 → count ≡ min added greatest_told → count ≡ min (1 + a + b) greatest_told
counts_joined a b single composite added count p q r s = omega arith
