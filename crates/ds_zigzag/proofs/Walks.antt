-- How the steps of a walk's calls add up, from any start.
use Rattle.std.proofs.Common.{◌≡◌, ℕ, ◌+◌, ◌*◌, ◌<◌, ◌≤◌, Bool, true, false, List, length, refl, arith}
use Rattle.std.specs.Prelude.{Option, Some, None, Result, Ok, Err, IsTrue, IsFalse, IfOk, OnErr}
use Rattle.std.proofs.Math.Nat.{mul-le-mul_left}
use Rattle.ds_zigzag.specs.Spans.{is_below, is_above}
use Rattle.ds_zigzag.specs.CommonStrings.{IsNextCommon, least_count, total_count}
use Rattle.ds_zigzag.specs.Walks.{IsWalked, steps_to_end}
use Rattle.ds_zigzag.proofs.Order.{below_back, not_false, not_both, not_below_itself}
use Rattle.ds_zigzag.proofs.SpanLaws.{above-onward, least_count-joined, total_count-joined, least_count-some}

-- not every string is above one
not_all_above : (s : List ℕ) → ((x : List ℕ) → is_above None x ≡ true → is_above (Some s) x ≡ true) → ⊥
not_all_above s h = not_both (is_below s s) (h s refl) (not_below_itself s)

-- one more answer
pub walk_on : (n : ℕ) (start last : Option (List ℕ)) (strings passed : List (List (List ℕ))) (begun now now' : ℕ) (a : List ℕ) → 0 < length strings → IsNextCommon last strings a → IsWalked n start last strings passed begun now → now' ≤ now + n * (least_count last (Some a) strings + 1) + total_count last (Some a) passed → IsWalked n start (Some a) strings passed begun now'
walk_on n start last strings passed begun now now' a some h w cost = record {
  onward = λ x b. w.onward x (above-onward last a x h.above b);
  within = by start last w h cost (least_count-some last a strings some h.common h.above);
} where
  by : (start last : Option (List ℕ)) → IsWalked n start last strings passed begun now → IsNextCommon last strings a → now' ≤ now + n * (least_count last (Some a) strings + 1) + total_count last (Some a) passed → 1 ≤ least_count last (Some a) strings → now' ≤ begun + (n * (2 * least_count start (Some a) strings) + total_count start (Some a) passed)
  by (Some s) None w h cost one = absurd (not_all_above s w.onward)
  by None None w h cost one =
      let within : now ≤ begun = omega (arith, w.within) in
      let twice : least_count None (Some a) strings + 1 ≤ 2 * least_count None (Some a) strings = omega arith in
      let times = mul-le-mul_left n twice in
      omega arith
  by start (Some b) w h cost one =
      let before_a = not_false (is_below a b) (below_back b a h.above) in
      let least = least_count-joined start b (Some a) w.onward before_a strings in
      let total = total_count-joined start b (Some a) w.onward before_a passed in
      let so_far = w.within in
      let twice : 2 * least_count start (Some b) strings + (least_count (Some b) (Some a) strings + 1) ≤ 2 * least_count start (Some a) strings = omega arith in
      let times = mul-le-mul_left n twice in
      omega arith

-- a last call, without an answer
pub walk_ended : (n : ℕ) (start last : Option (List ℕ)) (strings passed : List (List (List ℕ))) (begun now now' : ℕ) → IsWalked n start last strings passed begun now → now' ≤ now + n * (least_count last None strings + 2) + total_count last None passed → now' ≤ begun + steps_to_end n start strings passed
walk_ended n (Some s) None strings passed begun now now' w cost = absurd (not_all_above s w.onward)
walk_ended n None None strings passed begun now now' w cost =
    let within : now ≤ begun = omega (arith, w.within) in
    let twice : least_count None None strings + 2 ≤ 2 * least_count None None strings + 2 = omega arith in
    let times = mul-le-mul_left n twice in
    omega arith
walk_ended n start (Some b) strings passed begun now now' w cost =
    let least = least_count-joined start b None w.onward refl strings in
    let total = total_count-joined start b None w.onward refl passed in
    let so_far = w.within in
    let twice : 2 * least_count start (Some b) strings + (least_count (Some b) None strings + 2) ≤ 2 * least_count start None strings + 2 = omega arith in
    let times = mul-le-mul_left n twice in
    omega arith

-- what was walked is within what a walk to the end may take
pub walk_within : (n : ℕ) (start last : Option (List ℕ)) (strings passed : List (List (List ℕ))) (begun now : ℕ) → IsWalked n start last strings passed begun now → now ≤ begun + steps_to_end n start strings passed
walk_within n start last strings passed begun now w = walk_ended n start last strings passed begun now now w (omega arith)

-- ---- the same of a call's result

module _ {E : Type 0} (n : ℕ) (last : Option (List ℕ)) (strings passed : List (List (List ℕ))) (now now' : ℕ) (a : List ℕ) (some : 0 < length strings) where
  pub called_on : (r : Result Bool E) → IfOk r (λ b. IsTrue b → IsNextCommon last strings a) → IfOk r (λ b. IsTrue b → now' ≤ now + n * (least_count last (Some a) strings + 1) + total_count last (Some a) passed) → IfOk r (λ b. IsTrue b → (start : Option (List ℕ)) (begun : ℕ) → IsWalked n start last strings passed begun now → IsWalked n start (Some a) strings passed begun now')
  called_on (Ok b) common cost = λ t start begun w. walk_on n start last strings passed begun now now' a some (common t) w (cost t)
  called_on (Err e) common cost = tt

  pub called_within : (r : Result Bool E) → IfOk r (λ b. IsTrue b → IsNextCommon last strings a) → IfOk r (λ b. IsTrue b → now' ≤ now + n * (least_count last (Some a) strings + 1) + total_count last (Some a) passed) → IfOk r (λ b. IsFalse b → now' ≤ now + n * (least_count last None strings + 2) + total_count last None passed) → OnErr r (now' ≤ now + n * (least_count last None strings + 2) + total_count last None passed) → (start : Option (List ℕ)) (begun : ℕ) → IsWalked n start last strings passed begun now → now' ≤ begun + steps_to_end n start strings passed
  called_within (Ok true) common answered none refused start begun w =
      walk_within n start (Some a) strings passed begun now' (walk_on n start last strings passed begun now now' a some (common refl) w (answered refl))
  called_within (Ok false) common answered none refused start begun w = walk_ended n start last strings passed begun now now' w (none refl)
  called_within (Err e) common answered none refused start begun w = walk_ended n start last strings passed begun now now' w refused
