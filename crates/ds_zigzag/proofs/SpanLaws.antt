-- How counts of strings add up from one answer to the next: what lies between two answers, and what lies after the last.
use Rattle.std.proofs.Common.{◌≡◌, ℕ, ◌+◌, ◌<◌, ◌≤◌, Bool, true, false, List, [], ◌∷◌, length, get_or, refl, arith}
use Rattle.std.specs.Prelude.{◌&&◌, not, Option, Some, None}
use Rattle.std.proofs.lemmas.List.Sums.{sum_by-cons}
use Rattle.ds_zigzag.specs.Spans.{is_below, is_above, is_within, count_between}
use Rattle.ds_zigzag.specs.CommonStrings.{IsCommon, least_count, total_count}
use Rattle.ds_zigzag.proofs.Order.{not_false, was_false, not_both, not_below_itself, below_below, upto_upto}
use Rattle.ds_zigzag.proofs.Counts.{count_by-cons, count_by-lt, weight}
use Rattle.ds_base.specs.LeastLaws.{least_at, least_le}
use Rattle.ds_zigzag.proofs.Seeks.{both_true}

-- a string above one that is above `after`
pub above-onward : (after : Option (List ℕ)) (a x : List ℕ) → is_above after a ≡ true → is_below a x ≡ true → is_above after x ≡ true
above-onward None a x h g = refl
above-onward (Some b) a x h g = below_below b a x h g

-- a string that isn't above one that isn't above `last`
pub within-back : (last : Option (List ℕ)) (a x : List ℕ) → is_within last a ≡ true → is_below a x ≡ false → is_within last x ≡ true
within-back None a x h g = refl
within-back (Some b) a x h g = not_false (is_below b x) (upto_upto b a x (was_false (is_below b a) h) g)

module _ (after : Option (List ℕ)) (a : List ℕ) (last : Option (List ℕ)) (onward : (x : List ℕ) → is_below a x ≡ true → is_above after x ≡ true) (within : is_within last a ≡ true) where
  at_string : (x : List ℕ) → weight (is_above after x && is_within (Some a) x) + weight (is_above (Some a) x && is_within last x) ≡ weight (is_above after x && is_within last x)
  at_string x = by (is_below a x) refl (onward x) (within-back last a x within) where
    by : (b : Bool) → is_below a x ≡ b → (is_below a x ≡ true → is_above after x ≡ true) → (is_below a x ≡ false → is_within last x ≡ true) → weight (is_above after x && is_within (Some a) x) + weight (is_above (Some a) x && is_within last x) ≡ weight (is_above after x && is_within last x)
    by true q up down =
        let here = up q in
        rw (q, here) (omega arith)
    by false q up down =
        let here = down q in
        rw (q, here) (omega arith)

  -- the strings up to a, and those after it
  pub count_between-joined : (xs : List (List ℕ)) → count_between after (Some a) xs + count_between (Some a) last xs ≡ count_between after last xs
  count_between-joined [] = refl
  count_between-joined (x ∷ xs) =
      let first = count_by-cons (λ y. is_above after y && is_within (Some a) y) x xs in
      let second = count_by-cons (λ y. is_above (Some a) y && is_within last y) x xs in
      let both = count_by-cons (λ y. is_above after y && is_within last y) x xs in
      let here = at_string x in
      let more = count_between-joined xs in
      omega arith

  -- the same over all lists
  pub total_count-joined : (lists : List (List (List ℕ))) → total_count after (Some a) lists + total_count (Some a) last lists ≡ total_count after last lists
  total_count-joined [] = refl
  total_count-joined (xs ∷ lists) =
      let first = sum_by-cons (count_between after (Some a)) xs lists in
      let second = sum_by-cons (count_between (Some a) last) xs lists in
      let both = sum_by-cons (count_between after last) xs lists in
      let here = count_between-joined xs in
      let more = total_count-joined lists in
      omega arith

  -- the least numbers come to no more than the least number
  pub least_count-joined : (lists : List (List (List ℕ))) → least_count after (Some a) lists + least_count (Some a) last lists ≤ least_count after last lists
  least_count-joined [] = omega arith
  least_count-joined (xs ∷ lists) = by (least_at (count_between after last) (xs ∷ lists) (omega arith)) where
    by : (j : ℕ) × (j < length (xs ∷ lists)) × (count_between after last (get_or (xs ∷ lists) j []) ≡ least_count after last (xs ∷ lists)) → least_count after (Some a) (xs ∷ lists) + least_count (Some a) last (xs ∷ lists) ≤ least_count after last (xs ∷ lists)
    by (j, b, e) =
        let first = least_le (count_between after (Some a)) (xs ∷ lists) j b in
        let second = least_le (count_between (Some a) last) (xs ∷ lists) j b in
        let both = count_between-joined (get_or (xs ∷ lists) j []) in
        omega arith

-- a common string above `after` is counted in each list
pub least_count-some : (after : Option (List ℕ)) (a : List ℕ) (lists : List (List (List ℕ))) → 0 < length lists → IsCommon lists a → is_above after a ≡ true → 1 ≤ least_count after (Some a) lists
least_count-some after a lists some common above = by (least_at (count_between after (Some a)) lists some) where
  by : (j : ℕ) × (j < length lists) × (count_between after (Some a) (get_or lists j []) ≡ least_count after (Some a) lists) → 1 ≤ least_count after (Some a) lists
  by (j, b, e) =
      let here = both_true (is_above after a) (not (is_below a a)) above (not_false (is_below a a) (not_below_itself a)) in
      let counted = count_by-lt (λ x. false) (λ x. is_above after x && is_within (Some a) x) (get_or lists j []) a (common j [] b) refl here (λ x q. absurd (not_both false q refl)) in
      omega arith
