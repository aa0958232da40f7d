-- A disk in memory: the calls that it keeps, the states that they make, and what a crash may leave in each.
use Rattle.std.specs.Prelude.{◌≡◌, ℕ, zero, suc, ◌+◌, ◌^◌, ◌<◌, ◌≤◌, max, Bool, false, cond, not, ◌||◌, ◌==◌, nat_le}
use Rattle.std.specs.Prelude.{List, [], ◌∷◌, ◌++◌, length, take, drop, map, slice_index, slice_index_or, Option, Some, None, unwrap_or}
use Rattle.std.specs.List.{list_any}
use Rattle.ds_io.specs.Faults.{next_count}
use Rattle.ds_disk.specs.Crashes.{written, length_written}
use Rattle.ds_disk.specs.declared.call.Change.{Change}
use Rattle.ds_disk.specs.declared.call.Change.TheVariants.{Look, Write, Cut, Sync}
use Rattle.ds_disk.specs.declared.call.Call.{Call}

-- The state between two calls: the contents; of each place below the least length since the last sync the byte that a
-- crash leaves there, or none where it may leave any; and the greatest length since then.
pub record StateParts : Type 0 where
  pub contents : List ℕ
  pub stays : List (Option ℕ)
  pub greatest : ℕ

-- after a sync
abbrev pub at_rest : List ℕ → StateParts
at_rest contents = record { contents = contents; stays = map (λ byte. Some byte) contents; greatest = length contents }

-- What a crash may leave: a length from the least to the greatest, with each byte that stays in its place.
pub record IsImage (state : StateParts) (image : List ℕ) : Type 0 where
  pub no_shorter : length state.stays ≤ length image
  pub no_longer : length image ≤ state.greatest
  pub same : (i byte : ℕ) → slice_index_or state.stays i None ≡ Some byte → slice_index image i ≡ byte

-- the n places from `place` on, as far as there are so many, may hold any bytes
abbrev pub wiped : List (Option ℕ) → ℕ → ℕ → List (Option ℕ)
wiped [] place n = []
wiped (slot ∷ stays) (suc place) n = slot ∷ wiped stays place n
wiped (slot ∷ stays) zero (suc n) = None ∷ wiped stays zero n
wiped (slot ∷ stays) zero zero = slot ∷ stays

-- The state after a call. One that fails leaves the contents, and makes the images that the same call would, before a sync.
abbrev pub after_change : StateParts → Change → Bool → StateParts
after_change s Look failed = s
after_change s (Write place piece) failed = record {
  contents = cond failed s.contents (written s.contents place piece);
  stays = wiped s.stays place (length piece);
  greatest = max s.greatest (length_written s.contents place piece);
}
after_change s (Cut n) failed = record {
  contents = cond failed s.contents (take n s.contents);
  stays = take n s.stays;
  greatest = s.greatest;
}
after_change s Sync failed = cond failed s (at_rest s.contents)

-- the state after these calls, the first of them first
abbrev pub state_after : StateParts → List Call → StateParts
state_after s [] = s
state_after s (call ∷ calls) = state_after (after_change s call.change call.failed) calls

-- the bytes of a list, where none stays in their places, and zeros where the list has none
abbrev pub filled : List (Option ℕ) → List ℕ → List ℕ
filled [] wish = wish
filled (slot ∷ stays) wish = unwrap_or slot (slice_index wish 0) ∷ filled stays (drop 1 wish)

-- the image that is nearest to this list of bytes
abbrev pub image_by : StateParts → List ℕ → List ℕ
image_by s wish = filled s.stays (take s.greatest wish)

-- a write ends at a place that a number of 64 bits has
abbrev pub IsBelowLimit : Change → Type 0
IsBelowLimit (Write place piece) = place + length piece < 2 ^ 64
IsBelowLimit Look = Unit {0}
IsBelowLimit (Cut n) = Unit {0}
IsBelowLimit Sync = Unit {0}

-- What a disk held at first, and its calls since then.
pub record HistoryParts : Type 0 where
  pub first : List ℕ
  pub calls : List Call

-- with one call more
abbrev pub with_call : HistoryParts → Change → Bool → HistoryParts
with_call h change failed = record { first = h.first; calls = h.calls ++ (record { change = change; failed = failed }) ∷ [] }

-- A disk in memory: what it held at first, its calls since then, the numbers of those that fail, where the first call is 1,
-- the length that it has room for, how many calls it answers before it stops, its count of faults, and whether the last call
-- lacked memory.
pub record DiskParts : Type 0 where
  pub first : List ℕ
  pub calls : List Call
  pub fails : List ℕ
  pub room : ℕ
  pub stop : ℕ
  pub faults : ℕ
  pub lacks : Bool

-- before its first call
abbrev pub fresh : List ℕ → List ℕ → ℕ → ℕ → DiskParts
fresh contents numbers most last = record {
  first = contents;
  calls = [];
  fails = numbers;
  room = most;
  stop = last;
  faults = 0;
  lacks = false;
}

-- its state
abbrev pub state_of : DiskParts → StateParts
state_of d = state_after (at_rest d.first) d.calls

-- what a crash at some moment from the t-th call on might have left
abbrev pub LeftSince : List ℕ → List Call → ℕ → List ℕ → Type 0
LeftSince first calls t image = (k : ℕ) × (t ≤ k) × (k ≤ length calls) × IsImage (state_after (at_rest first) (take k calls)) image

-- it has stopped
abbrev pub is_stopped : DiskParts → Bool
is_stopped d = nat_le d.stop (length d.calls)

-- the next call is one of those that fail
abbrev pub is_due : DiskParts → Bool
is_due d = list_any (λ number. number == next_count (length d.calls)) d.fails

-- there is no room for the piece
abbrev pub is_too_large : DiskParts → ℕ → List ℕ → Bool
is_too_large d place piece = not (nat_le (place + length piece) d.room)

-- After one more call: one that is refused isn't kept and changes nothing, and one that is due fails.
abbrev pub after_call : DiskParts → Change → Bool → Bool → DiskParts
after_call d change refused lacks = record {
  first = d.first;
  calls = cond refused d.calls (d.calls ++ (record { change = change; failed = is_due d }) ∷ []);
  fails = d.fails;
  room = d.room;
  stop = d.stop;
  faults = cond (refused || is_due d) (next_count d.faults) d.faults;
  lacks = lacks;
}
