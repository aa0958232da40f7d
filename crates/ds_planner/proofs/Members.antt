-- Members of a list, and tests of all or some of them.
use Rattle.std.proofs.Common.{◌≡◌, ◌⊎◌, inl, inr, ℕ, zero, suc, ◌<◌, length, get_or, arith, List, [], ◌∷◌, ◌++◌, map, Bool, true, false}
use Rattle.std.proofs.Common.{◌&&◌, ◌||◌, not, cond, refl, sym, ap, ◌∙◌, subst, Some, None}
use Rattle.std.specs.Prelude.{filter, flat_map}
use Rattle.std.specs.List.{list_any, list_all, find, Contains}

abbrev pub Member : {A : Type 0} → A → List A → Type 0
Member {A = A} x [] = ⊥
Member {A = A} x (y ∷ ys) = (x ≡ y) ⊎ Member x ys

-- ---- tests

pub both : (a b : Bool) → (a && b) ≡ true → (a ≡ true) × (b ≡ true)
both true b e = (refl, e)
both false b e = absurd (cc e)

pub join : (a b : Bool) → a ≡ true → b ≡ true → (a && b) ≡ true
join a b h k = λ i. h i && k i

pub or_true : (b : Bool) → (b || true) ≡ true
or_true true = refl
or_true false = refl

pub or_cases : (a b : Bool) → (a || b) ≡ true → (a ≡ true) ⊎ (b ≡ true)
or_cases true b e = inl refl
or_cases false b e = inr e

pub not_true : (b : Bool) → not b ≡ true → b ≡ false
not_true true e = absurd (cc e)
not_true false e = refl

pub refuted : (b : Bool) → (b ≡ true → ⊥) → b ≡ false
refuted true h = absurd (h refl)
refuted false h = refl

pub true_false : (A : Type 0) (b : Bool) → b ≡ true → b ≡ false → A
true_false A b h k = absurd (cc (sym h ∙ k))

-- ---- members

module _ {A : Type 0} where
  pub some_member : (p : A → Bool) (xs : List A) → list_any p xs ≡ true → (x : A) × (Member x xs × (p x ≡ true))
  some_member p [] h = absurd (cc h)
  some_member p (x ∷ xs) h = elim (or_cases (p x) (list_any p xs) h) [
    | inl e ↦ (x, (inl refl, e))
    | inr e ↦ let r = some_member p xs e in (r.0, (inr r.1.0, r.1.1))
  ]

  pub any_member : (p : A → Bool) (xs : List A) (x : A) → Member x xs → p x ≡ true → list_any p xs ≡ true
  any_member p [] x m h = absurd m
  any_member p (y ∷ ys) x (inl e) h = ap (λ b. b || list_any p ys) (sym (ap p e) ∙ h)
  any_member p (y ∷ ys) x (inr m) h = ap (λ b. p y || b) (any_member p ys x m h) ∙ or_true (p y)

  pub each_member : (p : A → Bool) (xs : List A) (x : A) → list_all p xs ≡ true → Member x xs → p x ≡ true
  each_member p [] x h m = absurd m
  each_member p (y ∷ ys) x h (inl e) = ap p e ∙ (both (p y) (list_all p ys) h).0
  each_member p (y ∷ ys) x h (inr m) = each_member p ys x (both (p y) (list_all p ys) h).1 m

  pub all_members : (p : A → Bool) (xs : List A) → ((x : A) → Member x xs → p x ≡ true) → list_all p xs ≡ true
  all_members p [] h = refl
  all_members p (x ∷ xs) h = join (p x) (list_all p xs) (h x (inl refl)) (all_members p xs (λ y m. h y (inr m)))

  pub member_left : (xs ys : List A) (x : A) → Member x xs → Member x (xs ++ ys)
  member_left [] ys x m = absurd m
  member_left (z ∷ xs) ys x (inl e) = inl e
  member_left (z ∷ xs) ys x (inr m) = inr (member_left xs ys x m)

  pub member_right : (xs ys : List A) (x : A) → Member x ys → Member x (xs ++ ys)
  member_right [] ys x m = m
  member_right (z ∷ xs) ys x m = inr (member_right xs ys x m)

  pub member_append : (xs ys : List A) (x : A) → Member x (xs ++ ys) → Member x xs ⊎ Member x ys
  member_append [] ys x m = inr m
  member_append (z ∷ xs) ys x (inl e) = inl (inl e)
  member_append (z ∷ xs) ys x (inr m) = elim (member_append xs ys x m) [ inl k ↦ inl (inr k) | inr k ↦ inr k ]

  pub find_member : (p : A → Bool) (xs : List A) (x : A) → find p xs ≡ Some x → Member x xs × (p x ≡ true)
  find_member p [] x h = absurd (cc h)
  find_member p (y ∷ ys) x h = at (find_member p ys x) (p y) refl h where
    at : (find p ys ≡ Some x → Member x ys × (p x ≡ true)) → (b : Bool) → p y ≡ b → cond b (Some y) (find p ys) ≡ Some x → Member x (y ∷ ys) × (p x ≡ true)
    at later true e h = let same : y ≡ x = cc h in (inl (sym same), ap p (sym same) ∙ e)
    at later false e h = let r = later h in (inr r.0, r.1)

  pub find_some : (p : A → Bool) (xs : List A) → list_any p xs ≡ true → (x : A) × (find p xs ≡ Some x)
  find_some p [] h = absurd (cc h)
  find_some p (y ∷ ys) h = at (find_some p ys) (p y) refl h where
    at : (list_any p ys ≡ true → (x : A) × (find p ys ≡ Some x)) → (b : Bool) → p y ≡ b → (b || list_any p ys) ≡ true → (x : A) × (cond (p y) (Some y) (find p ys) ≡ Some x)
    at later true e h = (y, ap (λ b. cond b (Some y) (find p ys)) e)
    at later false e h = let r = later h in (r.0, ap (λ b. cond b (Some y) (find p ys)) e ∙ r.1)

  pub find_none : (p : A → Bool) (xs : List A) → ((x : A) → Member x xs → p x ≡ false) → find p xs ≡ None
  find_none p [] h = refl
  find_none p (y ∷ ys) h = ap (λ b. cond b (Some y) (find p ys)) (h y (inl refl)) ∙ find_none p ys (λ x m. h x (inr m))

  pub none_found : (p : A → Bool) (xs : List A) (x : A) → find p xs ≡ None → Member x xs → p x ≡ false
  none_found p [] x h m = absurd m
  none_found p (y ∷ ys) x h m = at (none_found p ys x) (p y) refl h m where
    at : (find p ys ≡ None → Member x ys → p x ≡ false) → (b : Bool) → p y ≡ b → cond b (Some y) (find p ys) ≡ None → (x ≡ y) ⊎ Member x ys → p x ≡ false
    at later true e h m = absurd (cc h)
    at later false e h (inl same) = ap p same ∙ e
    at later false e h (inr m) = later h m

  pub filter_member : (p : A → Bool) (xs : List A) (x : A) → Member x (filter p xs) → Member x xs × (p x ≡ true)
  filter_member p [] x m = absurd m
  filter_member p (y ∷ ys) x m = at (filter_member p ys x) (p y) refl m where
    at : (Member x (filter p ys) → Member x ys × (p x ≡ true)) → (b : Bool) → p y ≡ b → Member x (cond b (y ∷ filter p ys) (filter p ys)) → Member x (y ∷ ys) × (p x ≡ true)
    at later true e (inl same) = (inl same, ap p same ∙ e)
    at later true e (inr m) = let r = later m in (inr r.0, r.1)
    at later false e m = let r = later m in (inr r.0, r.1)

  pub member_filter : (p : A → Bool) (xs : List A) (x : A) → Member x xs → p x ≡ true → Member x (filter p xs)
  member_filter p [] x m h = absurd m
  member_filter p (y ∷ ys) x m h = at (λ k. member_filter p ys x k h) (p y) refl m where
    at : (Member x ys → Member x (filter p ys)) → (b : Bool) → p y ≡ b → (x ≡ y) ⊎ Member x ys → Member x (cond b (y ∷ filter p ys) (filter p ys))
    at later true e (inl same) = inl same
    at later true e (inr m) = inr (later m)
    at later false e (inl same) = true_false (Member x (filter p ys)) (p y) (sym (ap p same) ∙ h) e
    at later false e (inr m) = later m

module _ {A B : Type 0} where
  pub member_map : (f : A → B) (xs : List A) (x : A) → Member x xs → Member (f x) (map f xs)
  member_map f [] x m = absurd m
  member_map f (y ∷ ys) x (inl e) = inl (ap f e)
  member_map f (y ∷ ys) x (inr m) = inr (member_map f ys x m)

  pub map_member : (f : A → B) (xs : List A) (y : B) → Member y (map f xs) → (x : A) × (Member x xs × (y ≡ f x))
  map_member f [] y m = absurd m
  map_member f (x ∷ xs) y (inl e) = (x, (inl refl, e))
  map_member f (x ∷ xs) y (inr m) = let r = map_member f xs y m in (r.0, (inr r.1.0, r.1.1))

  pub member_flat_map : (f : A → List B) (xs : List A) (x : A) (y : B) → Member x xs → Member y (f x) → Member y (flat_map f xs)
  member_flat_map f [] x y m k = absurd m
  member_flat_map f (z ∷ xs) x y (inl e) k = member_left (f z) (flat_map f xs) y (subst (λ w. Member y (f w)) e k)
  member_flat_map f (z ∷ xs) x y (inr m) k = member_right (f z) (flat_map f xs) y (member_flat_map f xs x y m k)

-- ---- members by their places

pub member_at : {A : Type 0} (xs : List A) (k : ℕ) (d : A) → k < length xs → Member (get_or xs k d) xs
member_at [] k d h = absurd (omega arith)
member_at (x ∷ xs) zero d h = inl refl
member_at (x ∷ xs) (suc k) d h = inr (member_at xs k d (omega arith))

pub contained : {A : Type 0} (xs : List A) (x : A) → Member x xs → Contains xs x
contained [] x m = absurd m
contained (y ∷ xs) x (inl e) = (0, omega arith, sym e)
contained (y ∷ xs) x (inr m) = let c = contained xs x m in (suc c.0, omega (arith, c.1), c.2)

pub member_contained : {A : Type 0} (xs : List A) (x : A) → Contains xs x → Member x xs
member_contained xs x c = subst (λ y. Member y xs) c.2 (member_at xs c.0 x c.1)
