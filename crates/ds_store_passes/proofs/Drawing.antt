-- Ids that were drawn are below the counter.
use Rattle.std.proofs.Common.{ℕ, zero, suc, ◌+◌, ◌-◌, ◌<◌, ◌≤◌, List, ◌++◌, arith}
use Rattle.std.specs.Prelude.{All}
use Rattle.std.specs.List.{range_with_len}
use Rattle.std.proofs.lemmas.List.Elements.{All-nil, All-cons, All-append, All-weaker}
use Rattle.ds_draw.specs.Draws.{numbers}

range-below : (from many bound : ℕ) → from + many ≤ bound → All (λ id. id < bound) (range_with_len from many)
range-below from zero bound le = All-nil (λ id. id < bound)
range-below from (suc many) bound le =
    All-cons (λ id. id < bound) from (range_with_len (from + 1) many) (omega (arith, le)) (range-below (from + 1) many bound (omega (arith, le)))

-- the next ones as those before
pub drawn_below : (drawn : List ℕ) (next count : ℕ) → All (λ id. id < next) drawn
    → All (λ id. id < next + count) (drawn ++ numbers next (next + count))
drawn_below drawn next count below =
    All-append (λ id. id < next + count) drawn (numbers next (next + count))
    (All-weaker (λ id. id < next) (λ id. id < next + count) (λ id lt. omega (arith, lt)) drawn below)
    (range-below next (next + count - next) (next + count) (omega arith))
