-- Members of lists of which all are so, and of lists that are joined.
use Rattle.std.proofs.Common.{◌⊎◌, inl, inr, List, [], ◌∷◌, refl}
use Rattle.std.specs.Prelude.{flat_map, All}
use Rattle.std.proofs.lemmas.List.Elements.{All-contains, All-nil, All-cons}
use Rattle.ds_planner.proofs.Members.{Member, contained, member_append}

pub all_member : {A : Type 0} (P : A → Type 0) (xs : List A) (x : A) → All P xs → Member x xs → P x
all_member P xs x all m = All-contains P xs x all (contained xs x m)

pub all_from : {A : Type 0} (P : A → Type 0) (xs : List A) → ((x : A) → Member x xs → P x) → All P xs
all_from P [] each = All-nil P
all_from P (x ∷ xs) each = All-cons P x xs (each x (inl refl)) (all_from P xs (λ y m. each y (inr m)))

pub flat_map_member : {A B : Type 0} (f : A → List B) (xs : List A) (y : B) → Member y (flat_map f xs)
    → (x : A) × (Member x xs × Member y (f x))
flat_map_member f [] y m = absurd m
flat_map_member {A = A} f (x ∷ xs) y m = by (member_append (f x) (flat_map f xs) y m) (λ h. flat_map_member f xs y h) where
  by : Member y (f x) ⊎ Member y (flat_map f xs) → (Member y (flat_map f xs) → (z : A) × (Member z xs × Member y (f z)))
      → (z : A) × (Member z (x ∷ xs) × Member y (f z))
  by (inl h) more = (x, (inl refl, h))
  by (inr h) more = let r = more h in (r.0, (inr r.1.0, r.1.1))
