-- That a disk in memory is honest: what each call makes of its state and of the images that a crash may leave.
use Rattle.std.specs.Prelude.{◌≡◌, ◌⊎◌, ℕ, zero, suc, ◌+◌, ◌<◌, ◌≤◌, max, List, [], ◌∷◌, length, Option, Some, None, unwrap_or}
use Rattle.std.proofs.Common.{arith, inl, inr, ⊎_elim, get_or, refl, ap}
use Rattle.ds_disk.specs.Memory.{wiped, filled}

-- what stays where nothing was written, and how many places there are
pub length-wiped : (stays : List (Option ℕ)) (place n : ℕ) → length (wiped stays place n) ≡ length stays
length-wiped [] place n = refl
length-wiped (slot ∷ stays) (suc place) n = ap suc (length-wiped stays place n)
length-wiped (slot ∷ stays) zero (suc n) = ap suc (length-wiped stays zero n)
length-wiped (slot ∷ stays) zero zero = refl

pub wiped_before : (stays : List (Option ℕ)) (place n i : ℕ) → i < place → get_or (wiped stays place n) i None ≡ get_or stays i None
wiped_before [] place n i before = refl
wiped_before (slot ∷ stays) (suc place) n zero before = refl
wiped_before (slot ∷ stays) (suc place) n (suc i) before = wiped_before stays place n i (omega arith)
wiped_before (slot ∷ stays) zero n i before = absurd (omega arith)

pub wiped_past : (stays : List (Option ℕ)) (place n i : ℕ) → place + n ≤ i → get_or (wiped stays place n) i None ≡ get_or stays i None
wiped_past [] place n i past = refl
wiped_past (slot ∷ stays) (suc place) n zero past = absurd (omega arith)
wiped_past (slot ∷ stays) (suc place) n (suc i) past = wiped_past stays place n i (omega arith)
wiped_past (slot ∷ stays) zero (suc n) zero past = absurd (omega arith)
wiped_past (slot ∷ stays) zero (suc n) (suc i) past = wiped_past stays zero n i (omega arith)
wiped_past (slot ∷ stays) zero zero i past = refl

-- a place that stays in spite of a write is outside it
pub wiped_outside : (stays : List (Option ℕ)) (place n i byte : ℕ) → get_or (wiped stays place n) i None ≡ Some byte
    → (get_or stays i None ≡ Some byte) × ((i < place) ⊎ (place + n ≤ i))
wiped_outside [] place n i byte is = cc
wiped_outside (slot ∷ stays) (suc place) n zero byte is = (is, inl (omega arith))
wiped_outside (slot ∷ stays) (suc place) n (suc i) byte is =
    let rest = wiped_outside stays place n i byte is in
    (rest.0, ⊎_elim (λ before. inl (omega (arith, before))) (λ past. inr (omega (arith, past))) rest.1)
wiped_outside (slot ∷ stays) zero (suc n) zero byte is = cc
wiped_outside (slot ∷ stays) zero (suc n) (suc i) byte is =
    let rest = wiped_outside stays zero n i byte is in
    (rest.0, ⊎_elim (λ before. absurd (omega (arith, before))) (λ past. inr (omega (arith, past))) rest.1)
wiped_outside (slot ∷ stays) zero zero i byte is = (is, inr (omega arith))

-- what a filled list has
pub length-filled : (stays : List (Option ℕ)) (wish : List ℕ) → length (filled stays wish) ≡ max (length stays) (length wish)
length-filled [] wish = omega arith
length-filled (slot ∷ stays) [] = omega (arith, length-filled stays [])
length-filled (slot ∷ stays) (byte ∷ wish) = omega (arith, length-filled stays wish)

pub filled_at : (stays : List (Option ℕ)) (wish : List ℕ) (i : ℕ)
    → get_or (filled stays wish) i 0 ≡ unwrap_or (get_or stays i None) (get_or wish i 0)
filled_at [] wish i = refl
filled_at (slot ∷ stays) [] zero = refl
filled_at (slot ∷ stays) (byte ∷ wish) zero = refl
filled_at (slot ∷ stays) [] (suc i) = filled_at stays [] i
filled_at (slot ∷ stays) (byte ∷ wish) (suc i) = filled_at stays wish i
