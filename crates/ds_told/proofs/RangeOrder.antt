-- The numbers of a range rise, so that they are what sorting them gives.
use Rattle.std.proofs.Common.{◌≡◌, ℕ, zero, suc, ◌+◌, ◌<◌, ◌≤◌, ◌⊎◌, inl, inr, List, [], ◌∷◌, ◌++◌, length, take, get_or, refl, ap, sym}
use Rattle.std.proofs.Common.{◌∙◌, arith, false}
use Rattle.std.specs.List.{range_with_len}
use Rattle.std.specs.List.Sorted.{IsSorted, IsPermutation}
use Rattle.std.specs.Cmp.{nat_cmp_is}
use Rattle.std.specs.FinMap.{nat_cmp-IsAntisymmetric}
use Rattle.std.specs.Ordering.{is_gt, nat_cmp}
use Rattle.std.specs.declared.cmp.Ordering.TheVariants.{Less, Equal, Greater}
use Rattle.std.proofs.Math.Seq.{take-suc}
use Rattle.std.proofs.lemmas.Bool.{cases_lt}
use Rattle.std.proofs.lemmas.Cmp.{nat_cmp_total}
use Rattle.std.proofs.lemmas.List.Sorted.{IsPermutation-trans, IsPermutation-sym}
use Rattle.ds_base.specs.SortingLaws.{Ascends, NoneBefore, IsSorted-from_Ascends, same_sorted}
use Rattle.ds_told.proofs.Joining.{range-append}

not_above : (x y : ℕ) → x ≤ y → is_gt (nat_cmp x y) ≡ false
not_above x y low = by (cases_lt x y) where
  by : (x < y) ⊎ (y ≤ x) → is_gt (nat_cmp x y) ≡ false
  by (inl below) = sym (ap is_gt (nat_cmp_is x y Less below))
  by (inr above) = sym (ap is_gt (nat_cmp_is x y Equal (let same : x ≡ y = omega (arith, low, above) in same)))

none_before : (x a n : ℕ) → x ≤ a → NoneBefore nat_cmp x (range_with_len a n)
none_before x a zero low = tt
none_before x a (suc n) low = (not_above x a low, none_before x (a + 1) n (omega (arith, low)))

rises : (a n : ℕ) → Ascends nat_cmp (range_with_len a n)
rises a zero = tt
rises a (suc n) = (none_before a (a + 1) n (omega arith), rises (a + 1) n)

-- what sorting numbers gives is the range exactly where they are its numbers
pub sorted_range : (xs ys : List ℕ) (a n : ℕ) → IsPermutation xs ys → IsSorted nat_cmp ys → IsPermutation xs (range_with_len a n)
    → ys ≡ range_with_len a n
sorted_range xs ys a n moved up are =
    same_sorted nat_cmp_total nat_cmp-IsAntisymmetric ys (range_with_len a n) up (IsSorted-from_Ascends nat_cmp_total (range_with_len a n) (rises a n))
    (IsPermutation-trans ys xs (range_with_len a n) (IsPermutation-sym xs ys moved) are)

-- one number more
pub take-range : (xs : List ℕ) (i : ℕ) → i < length xs → take i xs ≡ range_with_len 1 i → get_or xs i 0 ≡ i + 1
    → take (i + 1) xs ≡ range_with_len 1 (i + 1)
take-range xs i within so_far is =
    ap (λ k. take k xs) (let k : i + 1 ≡ suc i = omega arith in k)
    ∙ take-suc xs i 0 within
    ∙ ap (λ ns. ns ++ get_or xs i 0 ∷ []) so_far
    ∙ ap (λ n. range_with_len 1 i ++ n ∷ []) (is ∙ (let n : i + 1 ≡ 1 + i = omega arith in n))
    ∙ sym (range-append 1 i 1)
