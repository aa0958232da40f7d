-- What holds place by place, with one element more behind.
use Rattle.std.proofs.Common.{◌≡◌, suc, List, [], ◌∷◌, ◌++◌, length, refl, ap, sym, subst}
use Rattle.ds_workers.specs.Each.{EachOf}

pub each_behind : {A : Type 0} (Holds : A → A → Type 0) (xs ys : List A) (x y : A) → EachOf Holds xs ys → Holds x y
    → EachOf Holds (xs ++ x ∷ []) (ys ++ y ∷ [])
each_behind Holds [] [] x y each last = (last, tt)
each_behind Holds [] (v ∷ ys) x y each last = absurd each
each_behind Holds (u ∷ xs) [] x y each last = absurd each
each_behind Holds (u ∷ xs) (v ∷ ys) x y each last = (each.0, each_behind Holds xs ys x y each.1 last)

pub each_length : {A : Type 0} (Holds : A → A → Type 0) (xs ys : List A) → EachOf Holds xs ys → length ys ≡ length xs
each_length Holds [] [] each = refl
each_length Holds [] (v ∷ ys) each = absurd each
each_length Holds (u ∷ xs) [] each = absurd each
each_length Holds (u ∷ xs) (v ∷ ys) each = ap suc (each_length Holds xs ys each.1)

-- with one element more, which stood behind the others before and stands there again
pub each_and_last : {A : Type 0} (Holds : A → A → Type 0) (all xs ys now : List A) (x y : A) → all ≡ xs ++ x ∷ []
    → EachOf Holds xs ys → Holds x y → now ≡ ys ++ y ∷ [] → EachOf Holds all now
each_and_last Holds all xs ys now x y before each last after =
    subst (EachOf Holds all) (sym after) (subst (λ (us : List _). EachOf Holds us (ys ++ y ∷ [])) (sym before)
    (each_behind Holds xs ys x y each last))
