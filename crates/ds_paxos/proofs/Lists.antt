-- Members of lists, and lists of numbers that are all different.
use Rattle.std.proofs.Common.{◌≡◌, ◌⊎◌, inl, inr, ℕ, ◌*◌, ◌<◌, ◌≤◌, arith, List, [], ◌∷◌, ◌++◌, length, length-append, Bool, true, false}
use Rattle.std.proofs.Common.{◌||◌, eqb, refl, sym, subst}
use Rattle.std.proofs.lemmas.Bool.Decides.{eqb_tells}
use Rattle.std.proofs.lemmas.Map.Steps.{length-le_from_distinct_below}
use Rattle.std.specs.List.{AllByRecursion, IsDistinct, list_any}

abbrev pub Member : {A : Type 0} → A → List A → Type 0
Member {A = A} x [] = ⊥
Member {A = A} x (y ∷ ys) = (x ≡ y) ⊎ Member x ys

module _ {A : Type 0} where
  pub member_left : (x : A) (xs ys : List A) → Member x xs → Member x (xs ++ ys)
  member_left x [] ys m = absurd m
  member_left x (y ∷ xs) ys (inl e) = inl e
  member_left x (y ∷ xs) ys (inr m) = inr (member_left x xs ys m)

  pub member_right : (x : A) (xs ys : List A) → Member x ys → Member x (xs ++ ys)
  member_right x [] ys m = m
  member_right x (y ∷ xs) ys m = inr (member_right x xs ys m)

  pub member_cases : (x : A) (xs ys : List A) → Member x (xs ++ ys) → Member x xs ⊎ Member x ys
  member_cases x [] ys m = inr m
  member_cases x (y ∷ xs) ys (inl e) = inl (inl e)
  member_cases x (y ∷ xs) ys (inr m) = elim (member_cases x xs ys m) [ inl l ↦ inl (inr l) | inr r ↦ inr r ]

  -- what is true of all and of one more is true of the list with that one at its end
  pub each_more : (P : A → Type 0) (xs : List A) (y : A) → ((x : A) → Member x xs → P x) → P y → (x : A) → Member x (xs ++ y ∷ []) → P x
  each_more P xs y each last x m = elim (member_cases x xs (y ∷ []) m) [
    | inl l ↦ each x l
    | inr r ↦ elim r [ inl e ↦ subst P (sym e) last | inr none ↦ absurd none ]
  ]

-- no number comes twice
abbrev pub Apart : List ℕ → Type 0
Apart [] = Unit {0}
Apart (x ∷ xs) = (Member x xs → ⊥) × Apart xs

-- a member of the list, or not
pub tells : (x : ℕ) (xs : List ℕ) → Member x xs ⊎ (Member x xs → ⊥)
tells x [] = inr (λ m. m)
tells x (y ∷ ys) = elim (eqb_tells x y) [
  | inl same ↦ inl (inl same.1)
  | inr other ↦ elim (tells x ys) [ inl m ↦ inl (inr m) | inr none ↦ inr (λ m. elim m [ inl e ↦ other.1 e | inr l ↦ none l ]) ]
]

pub apart_more : (xs : List ℕ) (y : ℕ) → Apart xs → (Member y xs → ⊥) → Apart (xs ++ y ∷ [])
apart_more [] y a none = ((λ m. m), tt)
apart_more (x ∷ xs) y a none = (
  (λ m. elim (member_cases x xs (y ∷ []) m) [
    | inl l ↦ a.0 l
    | inr r ↦ elim r [ inl e ↦ none (inl (sym e)) | inr l ↦ l ]
  ]),
  apart_more xs y a.1 (λ m. none (inr m)),
)

pub apart_append : (xs ys : List ℕ) → Apart xs → Apart ys → ((k : ℕ) → Member k xs → Member k ys → ⊥) → Apart (xs ++ ys)
apart_append [] ys a b none = b
apart_append (x ∷ xs) ys a b none =
    ((λ m. elim (member_cases x xs ys m) [ inl l ↦ a.0 l | inr r ↦ none x (inl refl) r ]), apart_append xs ys a.1 b (λ k l r. none k (inr l) r))

-- the test finds a member
pub member_of_any : (x : ℕ) (xs : List ℕ) → list_any (eqb x) xs ≡ true → Member x xs
member_of_any x [] h = absurd (cc h)
member_of_any x (y ∷ ys) h = elim (eqb_tells x y) [
  | inl same ↦ inl same.1
  | inr other ↦ inr (member_of_any x ys (subst (λ (b : Bool). (b || list_any (eqb x) ys) ≡ true) other.0 h))
]

none_equal : (x : ℕ) (xs : List ℕ) → (Member x xs → ⊥) → AllByRecursion (λ y. eqb x y ≡ false) xs
none_equal x [] none = tt
none_equal x (y ∷ ys) none =
    (elim (eqb_tells x y) [ inl same ↦ absurd (none (inl same.1)) | inr other ↦ other.0 ], none_equal x ys (λ m. none (inr m)))

distinct : (xs : List ℕ) → Apart xs → IsDistinct eqb xs
unfolding IsDistinct
distinct [] a = tt
distinct (x ∷ xs) a = (none_equal x xs a.0, distinct xs a.1)

-- different numbers below n are at most n
pub at_most : (n : ℕ) (xs : List ℕ) → Apart xs → ((k : ℕ) → Member k xs → k < n) → length xs ≤ n
at_most n xs a below = length-le_from_distinct_below xs n (distinct xs a) (λ q h. below q (member_of_any q xs h))

find_shared : (xs ys : List ℕ) → ((k : ℕ) × (Member k xs × Member k ys)) ⊎ ((k : ℕ) → Member k xs → Member k ys → ⊥)
find_shared [] ys = inr (λ k l r. l)
find_shared (x ∷ xs) ys = elim (tells x ys) [
  | inl m ↦ inl (x, (inl refl, m))
  | inr none ↦ elim (find_shared xs ys) [
    | inl found ↦ inl (found.0, (inr found.1.0, found.1.1))
    | inr apart ↦ inr (λ k l r. elim l [ inl e ↦ none (subst (λ (j : ℕ). Member j ys) e r) | inr deep ↦ apart k deep r ])
  ]
]

-- Two majorities of n members share a member.
pub shared : (n : ℕ) (xs ys : List ℕ) → Apart xs → Apart ys → ((k : ℕ) → Member k xs → k < n) → ((k : ℕ) → Member k ys → k < n)
    → n < 2 * length xs → n < 2 * length ys → (k : ℕ) × (Member k xs × Member k ys)
shared n xs ys a b below beneath most many = elim (find_shared xs ys) [
  | inl found ↦ found
  | inr none ↦
      let within = at_most n (xs ++ ys) (apart_append xs ys a b none) (λ k m. elim (member_cases k xs ys m) [ inl l ↦ below k l | inr r ↦ beneath k r ]) in
      let total = length-append xs ys in
      absurd (omega (arith, within, total))
]
