-- Lists that begin a list, and lists that grow side by side.
use Rattle.std.proofs.Common.{◌≡◌, ℕ, zero, suc, ◌+◌, ◌≤◌, List, [], ◌∷◌, ◌++◌, length, map, set, get_or, refl, ap, sym, ◌∙◌, arith}
use Rattle.std.proofs.Common.{append_assoc, length-append, subst, ◌⊎◌, inl, inr}
use Rattle.std.proofs.lemmas.List.{append-nil}
use mathlib.Core.List.{IsPrefix}
use Rattle.ds_hub.specs.Growing.{AreLonger}

module _ {O : Type 0} where
  pub begins_itself : (xs : List O) → IsPrefix xs xs
  begins_itself xs = ([], append-nil xs)

  pub begins_more : (xs ys : List O) → IsPrefix xs (xs ++ ys)
  begins_more xs ys = (ys, refl)

  pub begins_through : (xs ys zs : List O) → IsPrefix xs ys → IsPrefix ys zs → IsPrefix xs zs
  begins_through xs ys zs p q = (p.0 ++ q.0, sym (append_assoc xs p.0 q.0) ∙ (ap (λ w. w ++ q.0) p.1 ∙ q.1))

  -- of two beginnings of one list the shorter begins the longer
  pub begins_longer : (xs ys zs : List O) → IsPrefix xs zs → IsPrefix ys zs → length xs ≤ length ys → IsPrefix xs ys
  begins_longer [] ys zs p q le = (ys, refl)
  begins_longer (x ∷ xs) [] zs p q le = absurd (omega arith)
  begins_longer (x ∷ xs) (y ∷ ys) [] p q le = absurd (cc (p.1))
  begins_longer (x ∷ xs) (y ∷ ys) (z ∷ zs) p q le =
      let heads : x ≡ y = cc (p.1, q.1) in
      let rest = begins_longer xs ys zs (p.0, cc (p.1)) (q.0, cc (q.1)) (omega arith) in
      (rest.0, cc (heads, rest.1))

  pub begins_no_longer : (xs ys : List O) → IsPrefix xs ys → length xs ≤ length ys
  begins_no_longer xs ys p = omega (arith, sym (ap length p.1) ∙ length-append xs p.0)

  -- a beginning as long as the whole is the whole
  pub begins_whole : (xs ys : List O) → IsPrefix xs ys → length ys ≤ length xs → xs ≡ ys
  begins_whole [] [] p le = refl
  begins_whole [] (y ∷ ys) p le = absurd (omega arith)
  begins_whole (x ∷ xs) [] p le = absurd (cc (p.1))
  begins_whole (x ∷ xs) (y ∷ ys) p le =
      let rest = begins_whole xs ys (p.0, cc (p.1)) (omega arith) in cc (p.1, rest)

module _ {E : Type 0} where
  pub longer_itself : (xs : List (List E)) → AreLonger xs xs
  longer_itself [] = tt
  longer_itself (x ∷ xs) = (begins_itself x, longer_itself xs)

  pub longer_through : (xs ys zs : List (List E)) → AreLonger xs ys → AreLonger ys zs → AreLonger xs zs
  longer_through [] [] [] h k = tt
  longer_through [] [] (z ∷ zs) h k = absurd k
  longer_through [] (y ∷ ys) zs h k = absurd h
  longer_through (x ∷ xs) [] zs h k = absurd h
  longer_through (x ∷ xs) (y ∷ ys) [] h k = absurd k
  longer_through (x ∷ xs) (y ∷ ys) (z ∷ zs) h k = (begins_through x y z h.0 k.0, longer_through xs ys zs h.1 k.1)

  -- one list grows
  pub longer_at : {X : Type 0} (f : X → List E) (xs : List X) (i : ℕ) (y d : X)
      → IsPrefix (f (get_or xs i d)) (f y) → AreLonger (map f xs) (map f (set xs i y))
  longer_at f [] i y d p = tt
  longer_at f (x ∷ xs) zero y d p = (p, longer_itself (map f xs))
  longer_at f (x ∷ xs) (suc i) y d p = (begins_itself (f x), longer_at f xs i y d p)

-- who learns a list that isn't shorter than what was known knows that list
pub learnt_all : {E : Type 0} (old new told : List E) → IsPrefix told new → (new ≡ old) ⊎ (new ≡ told) → length old ≤ length told
    → new ≡ told
learnt_all old new told begins (inl same) le = same ∙ sym (begins_whole told old (subst (IsPrefix told) same begins) le)
learnt_all old new told begins (inr is) le = is
