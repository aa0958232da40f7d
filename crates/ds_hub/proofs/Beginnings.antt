-- Lists that begin a list.
use Rattle.std.proofs.Common.{◌≡◌, ℕ, ◌≤◌, List, [], ◌∷◌, ◌++◌, length, refl, ap, sym, ◌∙◌, arith, append_assoc, length-append}
use Rattle.std.proofs.lemmas.List.{append-nil}
use Rattle.std.proofs.lemmas.Bool.{leb-true, le-leb}
use Rattle.std.specs.Prelude.{IsTrue, ◌↔◌}
use Rattle.std.proofs.Math.Dec.{leb}
use mathlib.Core.List.{IsPrefix}

module _ {O : Type 0} where
  pub begins_itself : (xs : List O) → IsPrefix xs xs
  begins_itself xs = ([], append-nil xs)

  pub begins_more : (xs ys : List O) → IsPrefix xs (xs ++ ys)
  begins_more xs ys = (ys, refl)

  pub begins_through : (xs ys zs : List O) → IsPrefix xs ys → IsPrefix ys zs → IsPrefix xs zs
  begins_through xs ys zs p q = (p.0 ++ q.0, sym (append_assoc xs p.0 q.0) ∙ (ap (λ w. w ++ q.0) p.1 ∙ q.1))

  -- of two beginnings of one list the shorter begins the longer
  pub begins_longer : (xs ys zs : List O) → IsPrefix xs zs → IsPrefix ys zs → length xs ≤ length ys → IsPrefix xs ys
  begins_longer [] ys zs p q le = (ys, refl)
  begins_longer (x ∷ xs) [] zs p q le = absurd (omega arith)
  begins_longer (x ∷ xs) (y ∷ ys) [] p q le = absurd (cc (p.1))
  begins_longer (x ∷ xs) (y ∷ ys) (z ∷ zs) p q le =
      let heads : x ≡ y = cc (p.1, q.1) in
      let rest = begins_longer xs ys zs (p.0, cc (p.1)) (q.0, cc (q.1)) (omega arith) in
      (rest.0, cc (heads, rest.1))

  pub begins_no_longer : (xs ys : List O) → IsPrefix xs ys → length xs ≤ length ys
  begins_no_longer xs ys p = omega (arith, sym (ap length p.1) ∙ length-append xs p.0)

  -- a beginning as long as the whole is the whole
  pub begins_whole : (xs ys : List O) → IsPrefix xs ys → length ys ≤ length xs → xs ≡ ys
  begins_whole [] [] p le = refl
  begins_whole [] (y ∷ ys) p le = absurd (omega arith)
  begins_whole (x ∷ xs) [] p le = absurd (cc (p.1))
  begins_whole (x ∷ xs) (y ∷ ys) p le =
      let rest = begins_whole xs ys (p.0, cc (p.1)) (omega arith) in cc (p.1, rest)

  -- which of two beginnings of one list begins the other is told by their lengths
  pub begins_by_length : (xs ys zs : List O) (m n : ℕ) → m ≡ length xs → n ≡ length ys → IsPrefix xs zs → IsPrefix ys zs → IsTrue (leb m n) ↔ IsPrefix xs ys
  begins_by_length xs ys zs m n lm ln p q = (
    (λ t. begins_longer xs ys zs p q (let le : m ≤ n = leb-true m n t in omega arith)),
    (λ b. le-leb m n (let le = begins_no_longer xs ys b in omega arith)),
  )
