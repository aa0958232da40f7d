-- What the calls of a disk do to its contents, and what a crash may make of them.
use Rattle.std.specs.Prelude.{◌≡◌, ◌⊎◌, ℕ, ◌+◌, ◌-◌, ◌<◌, ◌≤◌, min, max, List, [], ◌∷◌, ◌++◌, length, take, drop, replicate, slice_index}

-- the first n bytes, with zeros where there are fewer
abbrev pub padded : List ℕ → ℕ → List ℕ
padded contents n = take n contents ++ replicate (n - length contents) 0

-- The contents after a piece was written at a place: over what was there and past the end, with zeros in a gap between
-- the end and the place. An empty piece changes nothing.
abbrev pub written : List ℕ → ℕ → List ℕ → List ℕ
written contents place [] = contents
written contents place (byte ∷ bytes) = padded contents place ++ (byte ∷ bytes) ++ drop (place + length (byte ∷ bytes)) contents

-- their number
abbrev pub length_written : List ℕ → ℕ → List ℕ → ℕ
length_written contents place [] = length contents
length_written contents place (byte ∷ bytes) = max (length contents) (place + length (byte ∷ bytes))

-- What a write that isn't synced may make of an image: any bytes in the n places from `place` on, and past its end up to
-- `most`, the length of the contents that were written. All else stays.
pub record Torn (place n most : ℕ) (old new : List ℕ) : Type 0 where
  pub no_shorter : length old ≤ length new
  pub no_longer : length new ≤ max (length old) most
  pub before : (i : ℕ) → i < length old → i < place → slice_index new i ≡ slice_index old i
  pub behind : (i : ℕ) → i < length old → place + n ≤ i → slice_index new i ≡ slice_index old i

-- What a cut to n bytes that isn't synced may make of an image: any length down to n, and any bytes from there on, as
-- what was cut may still be there. The first n bytes stay.
pub record Cut (n : ℕ) (old new : List ℕ) : Type 0 where
  pub no_shorter : min n (length old) ≤ length new
  pub no_longer : length new ≤ length old
  pub front : (i : ℕ) → i < length new → i < n → slice_index new i ≡ slice_index old i

-- each new image is an old one after a step
abbrev pub Follows : (List ℕ → List ℕ → Type 0) → (List ℕ → Type 0) → (List ℕ → Type 0) → Type 0
Follows step old new = (image : List ℕ) → new image → (before : List ℕ) × old before × step before image

-- each new image is an old one
abbrev pub NoOthers : (List ℕ → Type 0) → (List ℕ → Type 0) → Type 0
NoOthers old new = (image : List ℕ) → new image → old image

-- a crash leaves these contents and nothing else
abbrev pub Only : List ℕ → (List ℕ → Type 0) → Type 0
Only contents images = (image : List ℕ) → images image → image ≡ contents

-- Time goes on: a crash since t might have left what it might have left before, or what it may leave now.
pub record Elapses (before now : ℕ) (past since : ℕ → List ℕ → Type 0) (images : List ℕ → Type 0) : Type 0 where
  pub later : before ≤ now
  pub nothing_else : (t : ℕ) (image : List ℕ) → t ≤ before → since t image → past t image ⊎ images image
  pub keeps : (t : ℕ) (image : List ℕ) → t ≤ before → past t image → since t image

-- A crash at any moment since old, inside a call or between two, leaves an image that has P.
pub record LeavesOnly {D : Type 0} (moment : D → ℕ) (left_since : D → ℕ → List ℕ → Type 0) (old new : D) (P : List ℕ
    → Type 0) : Type 0 where
  pub later : moment old ≤ moment new
  pub each : (image : List ℕ) → left_since new (moment old) image → P image
  -- for a run that began earlier
  pub before : (t : ℕ) (image : List ℕ) → t ≤ moment old → left_since new t image → left_since old t image ⊎ P image
