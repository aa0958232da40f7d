-- A list and its last element.
use Rattle.std.proofs.Common.{◌≡◌, List, [], ◌∷◌, ◌++◌, refl, sym}

head-is : {A : Type 0} {x y : A} {xs ys : List A} → x ∷ xs ≡ y ∷ ys → x ≡ y
head-is is = cc

tail-is : {A : Type 0} {x y : A} {xs ys : List A} → x ∷ xs ≡ y ∷ ys → xs ≡ ys
tail-is is = cc

never-empty : {A : Type 0} (xs : List A) (x : A) → xs ++ x ∷ [] ≡ [] → ⊥
never-empty [] x is = cc
never-empty (y ∷ xs) x is = cc

-- two lists with a last element are the same in both parts
pub last_split : {A : Type 0} (xs ys : List A) (x y : A) → xs ++ x ∷ [] ≡ ys ++ y ∷ [] → (xs ≡ ys) × (x ≡ y)
last_split [] [] x y is = (refl, head-is is)
last_split [] (b ∷ ys) x y is = absurd (never-empty ys y (sym (tail-is is)))
last_split (a ∷ xs) [] x y is = absurd (never-empty xs x (tail-is is))
last_split (a ∷ xs) (b ∷ ys) x y is =
    let others = last_split xs ys x y (tail-is is) in
    ((λ i. head-is is i ∷ others.0 i), others.1)
