-- The scans of a plan, one after another.
use Rattle.std.proofs.Common.{◌≡◌, ℕ, ◌+◌, ◌<◌, List, [], ◌∷◌, ◌++◌, map, take, get_or, length, sym, ap, ◌∙◌}
use Rattle.std.proofs.lemmas.List.{take_more, map-append}

pub one_more_made : {A B : Type 0} (f : A → B) (xs : List A) (i : ℕ) (x : A) (items items' : List B) (y : B) → i < length xs → x
    ≡ get_or xs i x
    → items ≡ map f (take i xs) → items' ≡ items ++ y ∷ [] → y ≡ f x → items' ≡ map f (take (i + 1) xs)
one_more_made f xs i x items items' y below at_i made pushed is =
    pushed ∙ (λ t. made t ++ (is ∙ ap f at_i) t ∷ []) ∙ sym (ap (map f) (take_more xs i x below)
    ∙ map-append f (take i xs) (get_or xs i x ∷ []))
