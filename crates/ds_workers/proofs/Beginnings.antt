-- Beginnings of one list, and the last of a list.
use Rattle.std.proofs.Common.{◌≡◌, List, [], ◌∷◌, ◌++◌, length, refl, ap, sym, arith, Some}
use mathlib.Core.List.{IsPrefix}
use Rattle.ds_workers.specs.Marks.{last_of}

module _ {E : Type 0} where
  -- two beginnings of one list that are as long are the same
  pub same_beginning : (xs ys zs : List E) → IsPrefix xs zs → IsPrefix ys zs → length xs ≡ length ys → xs ≡ ys
  same_beginning [] [] zs p q long = refl
  same_beginning [] (y ∷ ys) zs p q long = absurd (omega (arith, long))
  same_beginning (x ∷ xs) [] zs p q long = absurd (omega (arith, long))
  same_beginning (x ∷ xs) (y ∷ ys) [] p q long = absurd (cc (p.1))
  same_beginning (x ∷ xs) (y ∷ ys) (z ∷ zs) p q long =
      let heads : x ≡ y = cc (p.1, q.1) in
      let rest = same_beginning xs ys zs (p.0, cc (p.1)) (q.0, cc (q.1)) (omega (arith, long)) in cc (heads, rest)

  -- a beginning as long as the whole is the whole
  pub whole_beginning : (xs ys : List E) → IsPrefix xs ys → length ys ≡ length xs → xs ≡ ys
  whole_beginning xs ys p long = same_beginning xs ys ys p ([], append-nil ys) (sym long) where
    append-nil : (zs : List E) → zs ++ [] ≡ zs
    append-nil [] = refl
    append-nil (z ∷ zs) = ap (λ (w : List E). z ∷ w) (append-nil zs)

  pub last_behind : (xs : List E) (x : E) → last_of (xs ++ x ∷ []) ≡ Some x
  last_behind [] x = refl
  last_behind (y ∷ []) x = refl
  last_behind (y ∷ (z ∷ zs)) x = last_behind (z ∷ zs) x
