-- What callers may know of the definitions beside the clauses: their values in std's words, which have lemmas of their own.
use Rattle.std.proofs.Common.{◌≡◌, ℕ, ◌+◌, ◌-◌, ◌==◌, ◌<◌, List, [], ◌∷◌, cond, eqb, length, refl, ap, ap₂, ◌∙◌, arith, Bool, true, false}
use Rattle.std.proofs.Common.{not}
use Rattle.std.proofs.lemmas.List.{length-map}
use Rattle.std.specs.List.{common_prefix_len, position_or_len}
use lib.Lanes.{Each1, zip2}
use Rattle.ds_lanes.specs.Kernels.{complement, common_prefix, first_visible, first_zero, is_visible}

-- the branches of a choice, the other way round
cond_not : (b : Bool) (x y : ℕ) → cond b x y ≡ cond (not b) y x
cond_not true x y = refl
cond_not false x y = refl

pub first_zero_is_position : (bytes : List ℕ) → first_zero bytes ≡ position_or_len (λ b. b == 0) bytes
first_zero_is_position [] = refl
first_zero_is_position (b ∷ bs) = ap (λ n. cond (eqb b 0) 0 (1 + n)) (first_zero_is_position bs) ∙ cond_not (eqb b 0) 0 _

pub common_prefix_is_len : (xs ys : List ℕ) → common_prefix xs ys ≡ common_prefix_len (λ x y. x == y) xs ys
common_prefix_is_len [] ys = refl
common_prefix_is_len (x ∷ xs) [] = refl
common_prefix_is_len (x ∷ xs) (y ∷ ys) = ap (λ n. cond (eqb x y) (1 + n) 0) (common_prefix_is_len xs ys)

pub first_visible_is_position : (fs ts : List ℕ) (at : ℕ) → first_visible fs ts at ≡ position_or_len (λ seen. seen) (zip2 (λ f t. is_visible f t at) fs ts)
first_visible_is_position [] ts at = refl
first_visible_is_position (f ∷ fs) [] at = refl
first_visible_is_position (f ∷ fs) (t ∷ ts) at =
    ap (λ n. cond (is_visible f t at) 0 (1 + n)) (first_visible_is_position fs ts at) ∙ cond_not (is_visible f t at) 0 _

pub length-complement : (bytes : List ℕ) → length (complement bytes) ≡ length bytes
length-complement bytes = length-map bytes (λ b. 255 - b)

turned_back : (b : ℕ) → b < 256 → 255 - (255 - b) ≡ b
turned_back b lt = omega arith

-- bytes that are turned round twice are as they were
pub complement-complement : (bytes : List ℕ) → Each1 (λ b. b < 256) bytes → complement (complement bytes) ≡ bytes
complement-complement [] fits = refl
complement-complement (b ∷ bs) fits = ap₂ (λ x xs. x ∷ xs) (turned_back b fits.0) (complement-complement bs fits.1)
