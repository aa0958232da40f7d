-- Small laws of tests, and of names among things that have one.
use Rattle.std.proofs.Common.{◌≡◌, ℕ, List, [], ◌∷◌, Bool, true, false, ◌&&◌, ◌||◌, not, cond, filter, refl, sym, ap, ◌∙◌}
use Rattle.std.specs.Prelude.{bytes_eq}
use Rattle.std.specs.List.{list_any, list_all}
use Rattle.std.specs.Cmp.Lexicographic.{nat_list_eq_equiv}
use Rattle.std.proofs.lemmas.Slice.Eq.{bytes_eq-Decides}

-- ---- tests

pub or_false : (b : Bool) → (b || false) ≡ b
or_false true = refl
or_false false = refl

pub or_true : (b : Bool) → (b || true) ≡ true
or_true true = refl
or_true false = refl

pub and_false : (b : Bool) → (b && false) ≡ false
and_false true = refl
and_false false = refl

pub or_assoc : (a b c : Bool) → ((a || b) || c) ≡ (a || (b || c))
or_assoc true b c = refl
or_assoc false b c = refl

pub or_neither : (a b : Bool) → (a || b) ≡ false → (a ≡ false) × (b ≡ false)
or_neither true b e = absurd (cc e)
or_neither false b e = (refl, e)

pub and_both : (a b : Bool) → (a && b) ≡ true → (a ≡ true) × (b ≡ true)
and_both true b e = (refl, e)
and_both false b e = absurd (cc e)

-- of a conjunction that fails, the other part fails where one holds
pub and_other : (a b : Bool) → (a && b) ≡ false → a ≡ true → b ≡ false
and_other true b e h = e
and_other false b e h = absurd (cc h)

pub and_first : (a b : Bool) → (a && b) ≡ false → b ≡ true → a ≡ false
and_first true b e h = absurd (cc (e, h))
and_first false b e h = refl

pub not_false : (b : Bool) → not b ≡ false → b ≡ true
not_false true e = refl
not_false false e = absurd (cc e)

pub not_true : (b : Bool) → not b ≡ true → b ≡ false
not_true true e = absurd (cc e)
not_true false e = refl

-- a test that can't hold fails
pub refuted : (b : Bool) → (b ≡ true → ⊥) → b ≡ false
refuted true h = absurd (h refl)
refuted false h = refl

pub true≢false : true ≡ false → ⊥
true≢false e = cc

-- ---- names

pub name_is : (m n : List ℕ) → bytes_eq m n ≡ true → m ≡ n
name_is m n = (bytes_eq-Decides m n).0

pub name_itself : (n : List ℕ) → bytes_eq n n ≡ true
name_itself n = nat_list_eq_equiv.refl n

pub name_symm : (m n : List ℕ) → bytes_eq m n ≡ bytes_eq n m
name_symm = nat_list_eq_equiv.symm

-- two names that a test tells apart
pub names_apart : (g : List ℕ → Bool) (m n : List ℕ) → g m ≡ true → g n ≡ false → bytes_eq m n ≡ false
names_apart g m n h k = refuted (bytes_eq m n) (λ e. true≢false (sym h ∙ ap g (name_is m n e) ∙ k))

-- ---- things with names

module _ {A : Type 0} (f : A → List ℕ) where
  -- is there a thing of this name?
  abbrev pub among : List A → List ℕ → Bool
  among xs n = list_any (λ x. bytes_eq n (f x)) xs

  -- what holds of each name that is among them holds of each thing's name
  pub all_from_among : (g : List ℕ → Bool) (xs : List A) → ((n : List ℕ) → among xs n ≡ true → g n ≡ true) → list_all (λ x. g (f x)) xs ≡ true
  all_from_among g [] h = refl
  all_from_among g (x ∷ xs) h =
      λ i. h (f x) (ap (λ b. b || among xs (f x)) (name_itself (f x))) i && all_from_among g xs (λ n e. h n (ap (λ b. bytes_eq n (f x) || b) e ∙ or_true (bytes_eq n (f x)))) i

  -- a test that holds of none doesn't hold of a name that is among them
  pub none_among : (g : List ℕ → Bool) (xs : List A) (n : List ℕ) → list_any (λ x. g (f x)) xs ≡ false → among xs n ≡ true → g n ≡ false
  none_among g [] n none e = absurd (true≢false (sym e))
  none_among g (x ∷ xs) n none e = at (bytes_eq n (f x)) refl (none_among g xs n (or_neither (g (f x)) (list_any (λ y. g (f y)) xs) none).1) where
    at : (b : Bool) → bytes_eq n (f x) ≡ b → (among xs n ≡ true → g n ≡ false) → g n ≡ false
    at true same later = ap g (name_is n (f x) same) ∙ (or_neither (g (f x)) (list_any (λ y. g (f y)) xs) none).0
    at false other later = later (sym (ap (λ b. b || among xs n) other) ∙ e)

  -- nothing is there where no name is
  pub nothing_among : (xs : List A) → ((n : List ℕ) → among xs n ≡ false) → xs ≡ []
  nothing_among [] h = refl
  nothing_among (x ∷ xs) h = absurd (true≢false (sym (ap (λ b. b || among xs (f x)) (name_itself (f x))) ∙ h (f x)))

  -- a filter by name keeps the names that pass
  pub among-filter : (p : List ℕ → Bool) (xs : List A) (n : List ℕ) → p n ≡ true → among (filter (λ x. p (f x)) xs) n ≡ among xs n
  among-filter p [] n h = refl
  among-filter p (x ∷ xs) n h = at (p (f x)) refl (among-filter p xs n h) where
    at : (b : Bool) → p (f x) ≡ b → among (filter (λ y. p (f y)) xs) n ≡ among xs n → among (cond b (x ∷ filter (λ y. p (f y)) xs) (filter (λ y. p (f y)) xs)) n ≡ (bytes_eq n (f x) || among xs n)
    at true e later = ap (λ b. bytes_eq n (f x) || b) later
    at false e later = later ∙ ap (λ b. b || among xs n) (sym (names_apart p n (f x) h e))

  -- and leaves out the others
  pub among-filter_out : (p : List ℕ → Bool) (xs : List A) (n : List ℕ) → p n ≡ false → among (filter (λ x. p (f x)) xs) n ≡ false
  among-filter_out p [] n h = refl
  among-filter_out p (x ∷ xs) n h = at (p (f x)) refl (among-filter_out p xs n h) where
    at : (b : Bool) → p (f x) ≡ b → among (filter (λ y. p (f y)) xs) n ≡ false → among (cond b (x ∷ filter (λ y. p (f y)) xs) (filter (λ y. p (f y)) xs)) n ≡ false
    at true e later = (λ i. (name_symm n (f x) ∙ names_apart p (f x) n e h) i || later i)
    at false e later = later

-- ---- filters of filters

pub filter_filter : {A : Type 0} (p r : A → Bool) → ((x : A) → p x ≡ true → r x ≡ true) → (xs : List A) → filter p (filter r xs) ≡ filter p xs
filter_filter p r h [] = refl
filter_filter p r h (x ∷ xs) = at (r x) refl (p x) refl (filter_filter p r h xs) where
  at : (b : Bool) → r x ≡ b → (c : Bool) → p x ≡ c → filter p (filter r xs) ≡ filter p xs → filter p (cond b (x ∷ filter r xs) (filter r xs)) ≡ cond c (x ∷ filter p xs) (filter p xs)
  at true e c k later = (λ i. cond (k i) (x ∷ later i) (later i))
  at false e true k later = absurd (true≢false (sym (h x k) ∙ e))
  at false e false k later = later

pub filter_all : {A : Type 0} (p : A → Bool) (xs : List A) → list_all p xs ≡ true → filter p xs ≡ xs
filter_all p [] h = refl
filter_all p (x ∷ xs) h =
    let both = and_both (p x) (list_all p xs) h in
    (λ i. cond (both.0 i) (x ∷ filter p xs) (filter p xs)) ∙ ap (λ ys. x ∷ ys) (filter_all p xs both.1)

pub list_all-filter : {A : Type 0} (p r : A → Bool) (xs : List A) → list_all p xs ≡ true → list_all p (filter r xs) ≡ true
list_all-filter p r [] h = refl
list_all-filter p r (x ∷ xs) h = let both = and_both (p x) (list_all p xs) h in at both (r x) (list_all-filter p r xs both.1) where
  at : (p x ≡ true) × (list_all p xs ≡ true) → (b : Bool) → list_all p (filter r xs) ≡ true → list_all p (cond b (x ∷ filter r xs) (filter r xs)) ≡ true
  at both true later = λ i. both.0 i && later i
  at both false later = later
