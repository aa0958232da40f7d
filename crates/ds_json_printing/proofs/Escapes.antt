-- Runs of bytes that stand for themselves in a string.
use Rattle.std.proofs.Common.{◌≡◌, ℕ, Bool, true, not, ◌&&◌, ◌==◌, nat_le, ◌+◌, ◌-◌, ◌<◌, ◌≤◌, List, [], ◌∷◌, ◌++◌, length, take, drop}
use Rattle.std.proofs.Common.{get_or, append_assoc, append-nil, sym, ap, refl, ◌∙◌, arith}
use Rattle.std.proofs.lemmas.List.{drop_more, take_more, take-append-drop, take_all, length-drop}
use Rattle.std.proofs.Math.Seq.{take-add}
use Rattle.std.proofs.lemmas.Bool.Decides.{nat_tests}
use Rattle.json.specs.Print.{escape_byte, escape}

-- neither a control character nor a quote nor a backslash
abbrev pub is_plain : ℕ → Bool
is_plain b = (nat_le 32 b && not (b == 34)) && not (b == 92)

pub is_plain-escape : (b : ℕ) → is_plain b ≡ true → escape_byte b ≡ b ∷ []
unfolding escape_byte
is_plain-escape b h = grind (arith, nat_tests)

pub escape-append : (xs ys : List ℕ) → escape (xs ++ ys) ≡ escape xs ++ escape ys
escape-append [] ys = refl
escape-append (x ∷ xs) ys = ap (λ (l : List ℕ). escape_byte x ++ l) (escape-append xs ys) ∙ sym (append_assoc (escape_byte x) (escape xs) (escape ys))

-- two runs are one
pub plain-append : (xs ys : List ℕ) → escape xs ≡ xs → escape ys ≡ ys → escape (xs ++ ys) ≡ xs ++ ys
plain-append xs ys a b = rw (escape-append xs ys, a, b) refl

-- a run is one byte longer
pub plain-more : (s : List ℕ) (i : ℕ) → i < length s → escape (take i s) ≡ take i s → escape_byte (get_or s i 0) ≡ get_or s i 0 ∷ []
    → escape (take (i + 1) s) ≡ take (i + 1) s
plain-more s i lt run one =
    let more : take (i + 1) s ≡ take i s ++ get_or s i 0 ∷ [] = take_more s i 0 lt in
    let last : escape (get_or s i 0 ∷ []) ≡ get_or s i 0 ∷ [] = rw one (append-nil (get_or s i 0 ∷ [])) in
    rw more (plain-append (take i s) (get_or s i 0 ∷ []) run last)

-- a run is longer by a chunk, which ends at j
pub plain-chunk : (s : List ℕ) (i n j : ℕ) → j ≡ i + n → escape (take i s) ≡ take i s → escape (take (j - i) (drop i s)) ≡ take (j - i) (drop i s)
    → escape (take j s) ≡ take j s
plain-chunk s i n j e run chunk =
    let len : j - i ≡ n = omega arith in
    let whole : take j s ≡ take i s ++ take n (drop i s) = ap (λ (k : ℕ). take k s) e ∙ take-add i n s in
    rw whole (plain-append (take i s) (take n (drop i s)) run (rw len at chunk))

-- a run, the byte behind it, and the rest
pub escape-stop : (s : List ℕ) (i : ℕ) → i < length s → escape (take i s) ≡ take i s
    → take i s ++ (escape_byte (get_or s i 0) ++ escape (take (length s - (i + 1)) (drop (i + 1) s))) ≡ escape s
escape-stop s i lt run =
    let more : drop i s ≡ get_or s i 0 ∷ drop (i + 1) s = drop_more s i 0 lt in
    let all : take (length s - (i + 1)) (drop (i + 1) s) ≡ drop (i + 1) s = take_all (length s - (i + 1)) (drop (i + 1) s) (omega (arith, length-drop (i + 1) s)) in
    let parts : escape s ≡ escape (take i s) ++ escape (drop i s) = ap escape (sym (take-append-drop i s)) ∙ escape-append (take i s) (drop i s) in
    rw all (sym (parts ∙ rw (run, more) refl))

-- the last run
pub escape-end : (s : List ℕ) (i : ℕ) → length s ≤ i → escape (take i s) ≡ take i s → s ≡ escape s
escape-end s i le run =
    let all : take i s ≡ s = take_all i s le in
    sym (rw all at run)
