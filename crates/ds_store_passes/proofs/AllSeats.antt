-- The seats of all passes, taken out one after another.
use Rattle.std.proofs.Common.{◌≡◌, ℕ, ◌≤◌, List, [], ◌∷◌, ◌++◌, map, refl, ap, sym, ◌∙◌, subst, arith, append_assoc, All}
use Rattle.std.proofs.lemmas.List.{append-nil}
use Rattle.std.proofs.lemmas.Grind.{flat_map-append}
use Rattle.std.proofs.lemmas.List.Elements.{All-nil, All-cons, All-head, All-tail}
use Rattle.std.specs.Prelude.{flat_map}

module _ {S P : Type 0} {A : Type 0} (f : S → List A) (h : P → List A) where
  -- what the seats so far have and the passes that are left is what all have, where a seat has what its pass has
  pub taken-one : (seats : List S) (s : S) (p : P) (left : List P) (all : List A) → flat_map f seats ++ flat_map h (p ∷ left) ≡ all
      → f s ≡ h p → flat_map f (seats ++ s ∷ []) ++ flat_map h left ≡ all
  taken-one [] s p left all before same = ap (λ xs. (xs ++ []) ++ flat_map h left) same
      ∙ ap (λ xs. xs ++ flat_map h left) (append-nil (h p)) ∙ before
  taken-one (t ∷ seats) s p left all before same =
      append_assoc (f t) (flat_map f (seats ++ s ∷ [])) (flat_map h left)
      ∙ ap (λ xs. f t ++ xs) (taken-one seats s p left (flat_map f seats ++ flat_map h (p ∷ left)) refl same)
      ∙ sym (append_assoc (f t) (flat_map f seats) (flat_map h (p ∷ left)))
      ∙ before

  -- once none is left, and the last seat has nothing
  pub taken-all : (seats : List S) (last : S) (left : List P) (all : List A) (whole : List S) → left ≡ []
      → flat_map f seats ++ flat_map h left ≡ all
      → f last ≡ [] → whole ≡ seats ++ last ∷ [] → flat_map f whole ≡ all
  taken-all seats last left all whole none before nothing is =
      ap (flat_map f) is
      ∙ flat_map-append f seats (last ∷ [])
      ∙ ap (λ xs. flat_map f seats ++ (xs ++ [])) nothing
      ∙ ap (λ ps. flat_map f seats ++ flat_map h ps) (sym none)
      ∙ before

module _ {S : Type 0} (Q : S → Type 0) where
  all-front : (xs ys : List S) → All Q (xs ++ ys) → All Q xs
  all-front [] ys all = All-nil Q
  all-front (x ∷ xs) ys all = All-cons Q x xs (All-head Q x (xs ++ ys) all) (all-front xs ys (All-tail Q x (xs ++ ys) all))

module _ {S P : Type 0} (f : S → ℕ) (h : P → ℕ) where
  pub counted-one : (seats : List S) (s : S) (p : P) (left : List P) (all : List ℕ) → map f seats ++ map h (p ∷ left) ≡ all
      → f s ≡ h p → map f (seats ++ s ∷ []) ++ map h left ≡ all
  counted-one [] s p left all before same = ap (λ n. n ∷ map h left) same ∙ before
  counted-one (t ∷ seats) s p left all before same =
      ap (λ xs. f t ∷ xs) (counted-one seats s p left (map f seats ++ map h (p ∷ left)) refl same) ∙ before

  -- what bounds all seats bounds all passes
  pub counted-all : (seats : List S) (passes : List P) (n : ℕ) → map f seats ≡ map h passes → All (λ s. f s ≤ n) seats
      → All (λ p. h p ≤ n) passes
  counted-all [] [] n same low = All-nil (λ p. h p ≤ n)
  counted-all [] (p ∷ ps) n same low = absurd (cc same)
  counted-all (s ∷ ss) [] n same low = absurd (cc same)
  counted-all (s ∷ ss) (p ∷ ps) n same low =
      let head : f s ≡ h p = cc same in
      let here : f s ≤ n = All-head (λ t. f t ≤ n) s ss low in
      All-cons (λ q. h q ≤ n) p ps (omega (arith, head, here))
      (counted-all ss ps n (cc same) (All-tail (λ t. f t ≤ n) s ss low))

  pub counted-end : (seats : List S) (last : S) (left passes : List P) (whole : List S) (n : ℕ) → left ≡ []
      → map f seats ++ map h left ≡ map h passes → whole ≡ seats ++ last ∷ [] → All (λ s. f s ≤ n) whole → All (λ p. h p ≤ n) passes
  counted-end seats last left passes whole n none counted is low =
      let same : map f seats ≡ map h passes =
      sym (append-nil (map f seats)) ∙ ap (λ ps. map f seats ++ map h ps) (sym none) ∙ counted in
      counted-all seats passes n same (all-front (λ s. f s ≤ n) seats (last ∷ []) (subst (All (λ s. f s ≤ n)) is low))
