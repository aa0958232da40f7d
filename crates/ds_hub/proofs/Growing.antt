-- Lists that grow side by side.
use Rattle.std.proofs.Common.{ℕ, zero, suc, ◌+◌, ◌<◌, ◌≢◌, List, [], ◌∷◌, map, set, length, get_or, sym, subst, arith, get_or-set_same}
use Rattle.std.proofs.Common.{get_or-set_other, below_more}
use Rattle.std.specs.List.{AllWithin}
use mathlib.Core.List.{IsPrefix}
use Rattle.ds_hub.specs.Growing.{AreLonger}
use Rattle.ds_hub.proofs.Beginnings.{begins_itself, begins_through}

module _ {E : Type 0} where
  pub longer_itself : (xs : List (List E)) → AreLonger xs xs
  longer_itself [] = tt
  longer_itself (x ∷ xs) = (begins_itself x, longer_itself xs)

  pub longer_through : (xs ys zs : List (List E)) → AreLonger xs ys → AreLonger ys zs → AreLonger xs zs
  longer_through [] [] [] h k = tt
  longer_through [] [] (z ∷ zs) h k = absurd k
  longer_through [] (y ∷ ys) zs h k = absurd h
  longer_through (x ∷ xs) [] zs h k = absurd h
  longer_through (x ∷ xs) (y ∷ ys) [] h k = absurd k
  longer_through (x ∷ xs) (y ∷ ys) (z ∷ zs) h k = (begins_through x y z h.0 k.0, longer_through xs ys zs h.1 k.1)

  -- one list more grows
  pub longer_set : {X : Type 0} (f : X → List E) (olds : List (List E)) (xs : List X) (i : ℕ) (y d : X)
      → AreLonger olds (map f xs) → IsPrefix (f (get_or xs i d)) (f y) → AreLonger olds (map f (set xs i y))
  longer_set f olds [] i y d h p = h
  longer_set f [] (x ∷ xs) i y d h p = absurd h
  longer_set f (o ∷ olds) (x ∷ xs) zero y d h p = (begins_through o (f x) (f y) h.0 p, h.1)
  longer_set f (o ∷ olds) (x ∷ xs) (suc i) y d h p = (h.0, longer_set f olds xs i y d h.1 p)

-- what holds of the elements below i, and of the one that is written at i
pub within_set : {X : Type 0} (P : X → Type 0) (xs : List X) (i : ℕ) (y : X) → i < length xs → AllWithin P xs 0 i → P y → AllWithin P (set xs i y) 0 (i + 1)
within_set P xs i y lt h p k d low high =
    below_more (λ k. P (get_or (set xs i y) k d)) i
    (λ k less. let ne : k ≢ i = omega arith in subst P (sym (get_or-set_other xs i k y d ne)) (h k d (omega arith) less))
    (subst P (sym (get_or-set_same xs i y d lt)) p)
    k high
