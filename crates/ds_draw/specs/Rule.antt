-- The rule that every step on the word keeps, and what each kind of step does to a seat.
use Rattle.std.specs.Prelude.{◌≡◌, ◌≢◌, ℕ, ◌+◌, ◌-◌, ◌^◌, ◌<◌, ◌≤◌, max, ◌==◌, List, [], ◌++◌, length, slice_index, sum_by, count_by}
use mathlib.Core.Option.{some}
use lib.ListN.{get_elem?}
use Rattle.atomic_table.specs.Table.{State, Me, Step}
use Rattle.ds_draw.specs.declared.rule.Known.{Known}
use Rattle.ds_draw.specs.declared.rule.Start.{Start}
use Rattle.ds_draw.specs.Draws.{numbers}

-- how often the number stands in the list
abbrev pub times : ℕ → List ℕ → ℕ
times n drawn = count_by (λ x. x == n) drawn

-- what the first seat knows: it stands for all seats, and knows the number that the word began at
abbrev pub opens : Start → Known
opens start = record { parts = start.seats; drawn = []; counter = start.first }

-- a seat that was joined into another: it stands for no seat, has no draws and the counter 0
abbrev pub spent_seat : Known
spent_seat = record { parts = 0; drawn = []; counter = 0 }

-- a look: the counter rises to the number that was found
abbrev pub looked : Known → ℕ → Known
looked v found = record { parts = v.parts; drawn = v.drawn; counter = found }

-- a draw: the numbers from `from` up to but without `to` are the seat's, and `to` is its counter
abbrev pub drew : Known → ℕ → ℕ → Known
drew v from to = record { parts = v.parts; drawn = v.drawn ++ numbers from to; counter = to }

-- a split: the old seat gives up one of its parts
abbrev pub split_left : Known → Known
split_left v = record { parts = v.parts - 1; drawn = v.drawn; counter = v.counter }

-- a split: the new seat has that part, no draws, and knows the word that the old one knew
abbrev pub split_right : Known → Known
split_right v = record { parts = 1; drawn = []; counter = v.counter }

-- a join: the draws of both stand in one seat, the other's first
abbrev pub joined : Known → Known → Known
joined v w = record { parts = v.parts + w.parts; drawn = w.drawn ++ v.drawn; counter = max v.counter w.counter }

-- The rule. The word is between the number that it began at and 2^63 - 1. The parts of all seats are the seats that it
-- was made with. The draws of all seats are the numbers from the first one below the word, each once. No seat's
-- counter is above the word. A spent seat has no draws and the counter 0.
pub record IsKept {S : Type 0} (start : Start) (s : State S Known) : Type 0 where
  pub one_word : length s.words ≡ 1
  pub begins : start.first ≤ slice_index s.words 0
  pub limit : slice_index s.words 0 < 2 ^ 63
  pub parts : sum_by (λ v. v.parts) s.views ≡ start.seats
  pub each_once : (n : ℕ) → sum_by (λ v. times n v.drawn) s.views ≡ times n (numbers start.first (slice_index s.words 0))
  pub counters : (by : ℕ) (v : Known) → get_elem? s.views by ≡ some v → v.counter ≤ slice_index s.words 0
  pub spent : (by : ℕ) (v : Known) → get_elem? s.views by ≡ some v → v.parts ≡ 0 → (v.drawn ≡ []) × (v.counter ≡ 0)

-- what a look tells: the number found isn't below the seat's counter and below 2^63, and is the counter from now on
abbrev pub Looks : {S : Type 0} → Step S → Me S Known → ℕ → Me S Known → Type 0
Looks step me found after = (me.0.counter ≤ found) × (found < 2 ^ 63) × (after ≡ (looked me.0 found, me.1))

-- what an exchange tells: the number found isn't below the seat's counter; where it is the expected one the seat drew,
-- and else it was a look
abbrev pub Draws : {S : Type 0} → Step S → Me S Known → ℕ → Me S Known → Type 0
Draws step me found after = (me.0.counter ≤ found) × (found ≡ step.first → after ≡ (drew me.0 step.first step.second, me.1))
    × (found ≢ step.first → after ≡ (looked me.0 found, me.1))
