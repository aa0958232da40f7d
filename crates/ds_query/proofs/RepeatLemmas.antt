-- Names that repeat, looked for from the front with those that were seen.
use Rattle.std.proofs.Common.{◌≡◌, ℕ, List, [], ◌∷◌, Bool, true, false, not, ◌||◌, refl, sym, ap, ◌∙◌, drop, length, get_or, ◌<◌, ◌+◌}
use Rattle.std.proofs.Common.{add-one}
use Rattle.std.proofs.Math.Seq.{drop-cons}
use Rattle.std.specs.Prelude.{bytes_eq}
use Rattle.std.specs.List.{list_any}
use Rattle.std.specs.Cmp.Lexicographic.{nat_list_eq_equiv}
use Rattle.ds_query.specs.Reasons.{has_name, repeats}

or_interchange : (a b c d : Bool) → ((a || b) || (c || d)) ≡ ((a || c) || (b || d))
or_interchange true b c d = refl
or_interchange false true true d = refl
or_interchange false true false d = refl
or_interchange false false c d = refl

or_regroup : (a b r : Bool) → (a || (b || r)) ≡ ((b || a) || r)
or_regroup true true r = refl
or_regroup true false r = refl
or_regroup false true r = refl
or_regroup false false r = refl

-- no name was seen before the first
pub repeats-start : (names : List (List ℕ)) → repeats names ≡ (list_any (has_name []) names || repeats names)
repeats-start names = rw (none names) refl where
  none : (names : List (List ℕ)) → list_any (has_name []) names ≡ false
  none [] = refl
  none (n ∷ ns) = none ns

-- where the seen names gain n, the names seen among `rest` are those from before and n
any_seen : (seen new : List (List ℕ)) (n : List ℕ) → ((m : List ℕ) → has_name new m ≡ (bytes_eq m n || has_name seen m)) → (rest : List (List ℕ)) → list_any (has_name new) rest ≡ (has_name rest n || list_any (has_name seen) rest)
any_seen seen new n gains [] = refl
any_seen seen new n gains (m ∷ ms) =
    (λ i. (gains m ∙ ap (λ b. b || has_name seen m) (nat_list_eq_equiv.symm m n)) i || any_seen seen new n gains ms i) ∙ or_interchange (bytes_eq n m) (has_name seen m) (has_name ms n) (list_any (has_name seen) ms)

-- a name that wasn't seen is seen from now on
pub repeats-step : (seen new : List (List ℕ)) (n : List ℕ) (rest : List (List ℕ)) → has_name seen n ≡ false → ((m : List ℕ) → has_name new m ≡ (bytes_eq m n || has_name seen m)) → (list_any (has_name seen) (n ∷ rest) || repeats (n ∷ rest)) ≡ (list_any (has_name new) rest || repeats rest)
repeats-step seen new n rest fresh gains =
    ap (λ b. (b || list_any (has_name seen) rest) || (has_name rest n || repeats rest)) fresh ∙ or_regroup (list_any (has_name seen) rest) (has_name rest n) (repeats rest)
    ∙ ap (λ b. b || repeats rest) (sym (any_seen seen new n gains rest))

fresh_from : (b r : Bool) → r ≡ not b → r ≡ true → b ≡ false
fresh_from true r e h = cc
fresh_from false r e h = refl

pub repeats-more : (names seen new : List (List ℕ)) (i : ℕ) (n d : List ℕ) (added : Bool) → i < length names → n ≡ get_or names i d → added ≡ not (has_name seen n) → added ≡ true → ((m : List ℕ) → has_name new m ≡ (bytes_eq m n || has_name seen m))
    → repeats names ≡ (list_any (has_name seen) (drop i names) || repeats (drop i names)) → repeats names ≡ (list_any (has_name new) (drop (i + 1) names) || repeats (drop (i + 1) names))
repeats-more names seen new i n d added inside here said is_new gains before =
    let front : drop i names ≡ n ∷ drop (i + 1) names = rw (here, add-one) (drop-cons names i d inside) in
    before ∙ ap (λ ns. list_any (has_name seen) ns || repeats ns) front ∙ repeats-step seen new n (drop (i + 1) names) (fresh_from (has_name seen n) added said is_new) gains
