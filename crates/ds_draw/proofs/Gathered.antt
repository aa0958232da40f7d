-- What a seat knows into which others were joined.
use Rattle.std.proofs.Common.{◌≡◌, ◌<◌, ◌≤◌, List, [], ◌∷◌, ◌++◌, length}
use Rattle.std.specs.Prelude.{All}
use Rattle.std.proofs.lemmas.List.Elements.{All-head, All-tail}
use Rattle.ds_draw.specs.declared.rule.Known.{Known}
use Rattle.ds_draw.specs.Draws.{SeatView, draws_of}

-- The seat has a part, the draws and at least the counter of each of these seats, of which there is one at least.
pub record Gathered (seats : List SeatView) (v : Known) : Type 0 where
  pub some : 0 < length seats
  pub parts : v.parts ≡ length seats
  pub draws : v.drawn ≡ draws_of seats
  pub counters : All (λ s. s.counter ≤ v.counter) seats

-- what holds of each element holds of one in the middle
pub All-middle : {X : Type 0} (P : X → Type 0) (xs : List X) (x : X) (ys : List X) → All P ((xs ++ x ∷ []) ++ ys) → P x
All-middle P [] x ys h = All-head P x ys h
All-middle P (z ∷ xs) x ys h = All-middle P xs x ys (All-tail P z ((xs ++ x ∷ []) ++ ys) h)
