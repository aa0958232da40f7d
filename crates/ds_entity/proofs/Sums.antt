-- Sums that stop at a greatest number.
use Rattle.std.proofs.Common.{◌≡◌, ℕ, ◌+◌, ◌<◌, List, length, get_or, take, min, ap, arith}
use Rattle.std.specs.Prelude.{sum_by}
use Rattle.std.proofs.lemmas.List.Sums.{sum_by_more}

-- the capped sum so far, and one more capped term
pub capped_step : {X : Type 0} (f : X → ℕ) (xs : List X) (i base size part next most : ℕ) (x : X) → i < length xs → x ≡ get_or xs i x → size ≡ min (base + sum_by f (take i xs)) most → part ≡ min (f x) most → next ≡ min (size + part) most → next ≡ min (base + sum_by f (take (i + 1) xs)) most
capped_step f xs i base size part next most x in_range is so_far term added =
    omega (arith, sum_by_more f xs i x in_range, ap f is)
