-- What callers learn from numbers that were drawn each once.
use Rattle.std.proofs.Common.{◌≡◌, ℕ, ◌+◌, ◌-◌, ◌<◌, ◌≤◌, List, subst, sym, arith, get_or}
use Rattle.std.specs.Prelude.{All}
use mathlib.Core.Logic.{dite}
use native.Mathlib.Decide.{dec_le}
use Rattle.std.proofs.lemmas.List.FromFn.{length-range_with_len, get_or-range_with_len}
use Rattle.std.proofs.lemmas.List.Sorted.{All-permutation, IsPermutation-sym}
use Rattle.ds_draw.specs.Draws.{numbers, HasEachOnce}

pub HasEachOnce-same : (a b to : ℕ) (xs ys : List ℕ) → a ≡ b → xs ≡ ys → HasEachOnce a to xs → HasEachOnce b to ys
HasEachOnce-same a b to xs ys from same h = subst (λ n. HasEachOnce n to ys) from (subst (λ l. HasEachOnce a to l) same h)

-- each drawn number is one of those that were to be drawn
pub All-HasEachOnce : (P : ℕ → Type 0) (from to : ℕ) (drawn : List ℕ) → HasEachOnce from to drawn → ((n : ℕ) → from ≤ n → n < to → P n) → All P drawn
All-HasEachOnce P from to drawn each holds = All-permutation P (numbers from to) drawn each inside
  where
    inside : All P (numbers from to)
    inside k d short =
        let below : k < to - from = omega (arith, length-range_with_len from (to - from)) in
        subst P (sym (get_or-range_with_len from (to - from) k d below)) (holds (from + k) (omega arith) (omega arith))

-- where each drawn number is below a bound, the numbers end at or below it
pub HasEachOnce-ends : (from to most : ℕ) (drawn : List ℕ) → HasEachOnce from to drawn → from ≤ most → All (λ n. n < most) drawn → to ≤ most
HasEachOnce-ends from to most drawn each low below = dite (dec_le to from) (λ (none_left : to ≤ from). omega arith) (λ some_left.
    (let all = All-permutation (λ n. n < most) drawn (numbers from to) (IsPermutation-sym (numbers from to) drawn each) below in
    let last : ℕ = (to - from) - 1 in
    let inside : last < to - from = omega arith in
    let is = get_or-range_with_len from (to - from) last 0 inside in
    let here : get_or (numbers from to) last 0 < most = all last 0 (omega (arith, length-range_with_len from (to - from))) in
    omega arith))
