-- What is popped off a list of equals.
use Rattle.std.proofs.Common.{◌≡◌, List, [], ◌∷◌, ◌++◌, refl, subst}

module _ {A : Type 0} where
  abbrev pub IsAll : A → List A → Type 0
  IsAll x [] = Unit {0}
  IsAll x (y ∷ ys) = (y ≡ x) × IsAll x ys

  split : (x : A) (ys : List A) (z : A) → IsAll x (ys ++ z ∷ []) → IsAll x ys × (z ≡ x)
  split x [] z h = (tt, h.0)
  split x (y ∷ ys) z h = let rest = split x ys z h.1 in ((h.0, rest.0), rest.1)

  pub popped : (x : A) (all rest : List A) (last : A) → IsAll x all → all ≡ rest ++ last ∷ [] → IsAll x rest × (last ≡ x)
  popped x all rest last h is = split x rest last (subst (IsAll x) is h)
