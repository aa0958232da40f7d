-- Counting the entries of all shards until there are many.
use Rattle.std.proofs.Common.{◌≡◌, ℕ, ◌+◌, ◌-◌, ◌<◌, ◌≤◌, List, length, map, take, get_or, ap, sym, ◌∙◌, arith, Option}
use Rattle.std.specs.Prelude.{sum}
use Rattle.std.specs.List.{slice_get}
use Rattle.std.specs.Option.{option_map, unwrap_or}
use Rattle.std.proofs.lemmas.List.{length-map}
use Rattle.std.proofs.lemmas.List.Sums.{sum_by_more, sum_by_more_le}
use Rattle.std.proofs.lemmas.Option.{slice_get-map, unwrap_or-slice_get}

module _ {A : Type 0} (lists : List (List A)) where
  -- a shard's count, as it is told
  pub count_told : (k : ℕ) (told : Option ℕ) → told ≡ option_map length (slice_get lists k)
      → unwrap_or told 0 ≡ get_or (map length lists) k 0
  count_told k told is =
      ap (λ (o : Option ℕ). unwrap_or o 0) (is ∙ sym (slice_get-map length lists k)) ∙ unwrap_or-slice_get (map length lists) k 0

  -- one shard more leaves so much less
  pub less_left : (k left most count : ℕ) → k < length lists → count ≡ get_or (map length lists) k 0
      → left + sum (take k (map length lists)) ≡ most → count ≤ left → (left - count) + sum (take (k + 1) (map length lists)) ≡ most
  less_left k left most count below is so_far within =
      omega (arith, within, so_far, is, sum_by_more (λ (n : ℕ). n) (map length lists) k 0 (omega (arith, below, length-map lists length)))

  -- more than is left makes too many
  pub too_many : (k left most count : ℕ) → k < length lists → count ≡ get_or (map length lists) k 0
      → left + sum (take k (map length lists)) ≡ most → left < count → most < sum (map length lists)
  too_many k left most count below is so_far more =
      omega (arith, more, so_far, is, sum_by_more_le (λ (n : ℕ). n) (map length lists) k 0 (omega (arith, below, length-map lists length)))
