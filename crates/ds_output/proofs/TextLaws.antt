-- Texts that stand one behind the other.
use Rattle.std.proofs.Common.{◌≡◌, ℕ, zero, suc, ◌+◌, ◌-◌, ◌<◌, ◌≤◌, List, [], ◌∷◌, ◌++◌, length, drop, refl, ap, sym, ◌∙◌}
use Rattle.std.proofs.Common.{arith}
use Rattle.std.proofs.Common.{get_or}
use Rattle.std.proofs.Common.{Some}
use Rattle.std.specs.Prelude.{flat_map, slice_get}
use Rattle.std.proofs.lemmas.List.Elements.{All-head, All-tail}
use Rattle.ds_base.specs.Buffers.{BufferParts}
use Rattle.ds_output.specs.Unsent.{AreEmpty}

abbrev pub all_bytes : List BufferParts → List ℕ
all_bytes texts = flat_map (λ (text : BufferParts). text.bytes) texts

pub bytes-empty : (texts : List BufferParts) → AreEmpty texts → all_bytes texts ≡ []
bytes-empty [] h = refl
bytes-empty (t ∷ texts) h =
    ap (λ bs. bs ++ all_bytes texts) (All-head (λ (text : BufferParts). text.bytes ≡ []) t texts h)
    ∙ bytes-empty texts (All-tail (λ (text : BufferParts). text.bytes ≡ []) t texts h)

-- the first of some texts
pub bytes-there : (texts : List BufferParts) (k : ℕ) (t : BufferParts) → k < length texts → t ≡ get_or texts k t
    → all_bytes (drop k texts) ≡ t.bytes ++ all_bytes (drop (k + 1) texts)
bytes-there texts k t below is =
    by texts k below is ∙ ap (λ n. t.bytes ++ all_bytes (drop n texts)) (let e : suc k ≡ k + 1 = omega arith in e) where
      by : (all : List BufferParts) (j : ℕ) → j < length all → t ≡ get_or all j t
          → all_bytes (drop j all) ≡ t.bytes ++ all_bytes (drop (suc j) all)
      by [] j low there = absurd (omega (arith, low))
      by (u ∷ all) zero low there = ap (λ (v : BufferParts). v.bytes ++ all_bytes all) (sym there)
      by (u ∷ all) (suc j) low there = by all j (omega (arith, low)) there

pub drop-part : (n : ℕ) (xs ys : List ℕ) → n ≤ length xs → drop n (xs ++ ys) ≡ drop n xs ++ ys
drop-part zero xs ys within = refl
drop-part (suc n) [] ys within = absurd (omega (arith, within))
drop-part (suc n) (x ∷ xs) ys within = drop-part n xs ys (omega (arith, within))

-- what is left of the first text, and the others
pub bytes-left : (texts : List BufferParts) (k taken : ℕ) (t : BufferParts) → k < length texts → t ≡ get_or texts k t
    → taken ≤ length t.bytes → drop taken (all_bytes (drop k texts)) ≡ drop taken t.bytes ++ all_bytes (drop (k + 1) texts)
bytes-left texts k taken t below is within =
    ap (drop taken) (bytes-there texts k t below is) ∙ drop-part taken t.bytes (all_bytes (drop (k + 1) texts)) within

-- ---- bytes at a place

pub get-first : (xs ys : List ℕ) (i : ℕ) → i < length xs → slice_get (xs ++ ys) i ≡ slice_get xs i
get-first [] ys i below = absurd (omega (arith, below))
get-first (x ∷ xs) ys zero below = refl
get-first (x ∷ xs) ys (suc i) below = get-first xs ys i (omega (arith, below))

pub get-later : (xs ys : List ℕ) (i : ℕ) → length xs ≤ i → slice_get (xs ++ ys) i ≡ slice_get ys (i - length xs)
get-later [] ys i from = ap (slice_get ys) (let e : i ≡ i - 0 = omega arith in e)
get-later (x ∷ xs) ys zero from = absurd (omega (arith, from))
get-later (x ∷ xs) ys (suc i) from =
    get-later xs ys i (omega (arith, from)) ∙ ap (slice_get ys) (let e : i - length xs ≡ suc i - suc (length xs) = omega arith in e)

pub get-there : (xs : List ℕ) (i : ℕ) → i < length xs → slice_get xs i ≡ Some (get_or xs i 0)
get-there [] i below = absurd (omega (arith, below))
get-there (x ∷ xs) zero below = refl
get-there (x ∷ xs) (suc i) below = get-there xs i (omega (arith, below))

-- ---- loops over texts

pub byte-found : (texts : List BufferParts) (k left place : ℕ) (t : BufferParts) → k < length texts → t ≡ get_or texts k t
    → left < length t.bytes → slice_get (all_bytes (drop k texts)) left ≡ slice_get (all_bytes texts) place
    → slice_get t.bytes left ≡ slice_get (all_bytes texts) place
byte-found texts k left place t below there within is =
    sym (get-first t.bytes (all_bytes (drop (k + 1) texts)) left within)
    ∙ sym (ap (λ bs. slice_get bs left) (bytes-there texts k t below there)) ∙ is

pub byte-passed : (texts : List BufferParts) (k left place : ℕ) (t : BufferParts) → k < length texts → t ≡ get_or texts k t
    → length t.bytes ≤ left → slice_get (all_bytes (drop k texts)) left ≡ slice_get (all_bytes texts) place
    → slice_get (all_bytes (drop (k + 1) texts)) (left - length t.bytes) ≡ slice_get (all_bytes texts) place
byte-passed texts k left place t below there from is =
    sym (get-later t.bytes (all_bytes (drop (k + 1) texts)) left from)
    ∙ sym (ap (λ bs. slice_get bs left) (bytes-there texts k t below there)) ∙ is
