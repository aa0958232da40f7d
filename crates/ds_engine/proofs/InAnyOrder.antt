-- What is given shard by shard has the elements of what is given branch by branch.
use Rattle.std.proofs.Common.{◌≡◌, List, [], ◌∷◌, ◌++◌, refl, sym, subst, append_assoc}
use Rattle.std.specs.Prelude.{flat_map}
use Rattle.std.specs.List.Sorted.{IsPermutation}
use Rattle.std.proofs.lemmas.List.Sorted.{IsPermutation-refl, IsPermutation-trans, IsPermutation-append_left}
use Rattle.std.proofs.lemmas.List.Sorted.{IsPermutation-append_right, IsPermutation-append_comm}

module _ {X : Type 0} where
  -- the second and the third of four parts change places
  inner : (es bs cs ds : List X) → IsPermutation ((es ++ bs) ++ (cs ++ ds)) ((es ++ cs) ++ (bs ++ ds))
  inner es bs cs ds =
      subst (λ zs. IsPermutation zs ((es ++ cs) ++ (bs ++ ds))) (sym (append_assoc es bs (cs ++ ds)))
      (subst (λ zs. IsPermutation (es ++ (bs ++ (cs ++ ds))) zs) (sym (append_assoc es cs (bs ++ ds)))
      (IsPermutation-append_right es (bs ++ (cs ++ ds)) (cs ++ (bs ++ ds))
      (subst (λ zs. IsPermutation zs (cs ++ (bs ++ ds))) (append_assoc bs cs ds)
      (subst (λ zs. IsPermutation ((bs ++ cs) ++ ds) zs) (append_assoc cs bs ds)
      (IsPermutation-append_left ds (bs ++ cs) (cs ++ bs) (IsPermutation-append_comm bs cs))))))

  none : {B : Type 0} (bs : List B) → flat_map (λ (b : B). let nothing : List X = [] in nothing) bs ≡ []
  none [] = refl
  none (b ∷ bs) = none bs

  -- of each element two parts: the first parts of all and then the second ones
  parted : {B : Type 0} (f g : B → List X) (bs : List B)
      → IsPermutation (flat_map f bs ++ flat_map g bs) (flat_map (λ b. f b ++ g b) bs)
  parted f g [] = IsPermutation-refl []
  parted f g (b ∷ bs) =
      IsPermutation-trans ((f b ++ flat_map f bs) ++ (g b ++ flat_map g bs)) ((f b ++ g b) ++ (flat_map f bs ++ flat_map g bs))
      ((f b ++ g b) ++ flat_map (λ c. f c ++ g c) bs)
      (inner (f b) (flat_map f bs) (g b) (flat_map g bs))
      (IsPermutation-append_right (f b ++ g b) (flat_map f bs ++ flat_map g bs) (flat_map (λ c. f c ++ g c) bs) (parted f g bs))

  -- what two lists give each with each, in either order
  pub either_order : {A B : Type 0} (f : A → B → List X) (es : List A) (bs : List B)
      → IsPermutation (flat_map (λ a. flat_map (f a) bs) es) (flat_map (λ b. flat_map (λ a. f a b) es) bs)
  either_order f [] bs = subst (λ zs. IsPermutation [] zs) (sym (none bs)) (IsPermutation-refl [])
  either_order f (a ∷ es) bs =
      IsPermutation-trans (flat_map (f a) bs ++ flat_map (λ c. flat_map (f c) bs) es)
      (flat_map (f a) bs ++ flat_map (λ b. flat_map (λ c. f c b) es) bs)
      (flat_map (λ b. f a b ++ flat_map (λ c. f c b) es) bs)
      (IsPermutation-append_right (flat_map (f a) bs) (flat_map (λ c. flat_map (f c) bs) es) (flat_map (λ b. flat_map (λ c. f c b) es) bs)
      (either_order f es bs))
      (parted (f a) (λ b. flat_map (λ c. f c b) es) bs)
