-- What holds of each item of a list holds of each of a longer, shorter or mapped one.
use Rattle.std.proofs.Common.{◌≡◌, List, [], ◌∷◌, ◌++◌, map, refl, ap, ◌∙◌, Bool, true, false, cond}
use Rattle.std.specs.Prelude.{filter, flat_map, fold}
use Rattle.std.specs.Ordering.{match_ordering}
use Rattle.std.specs.declared.cmp.Ordering.{Ordering}
use Rattle.std.specs.declared.cmp.Ordering.TheVariants.{Less, Equal, Greater}
use Rattle.std.specs.List.{AllByRecursion}
use Rattle.std.proofs.lemmas.List.{map-append}
use Rattle.std.proofs.lemmas.List.Elements.{filter-append}
use Rattle.ds_base.specs.Sorting.{insert_by, sorted_by}

pub all_of : {X : Type 0} (P : X → Type 0) → ((x : X) → P x) → (xs : List X) → AllByRecursion P xs
all_of P each [] = tt
all_of P each (x ∷ xs) = (each x, all_of P each xs)

pub all-append : {X : Type 0} (P : X → Type 0) (xs ys : List X) → AllByRecursion P xs → AllByRecursion P ys → AllByRecursion P (xs ++ ys)
all-append P [] ys p q = q
all-append P (x ∷ xs) ys p q = (p.0, all-append P xs ys p.1 q)

pub all-filter : {X : Type 0} (P : X → Type 0) (test : X → Bool) (xs : List X) → AllByRecursion P xs → AllByRecursion P (filter test xs)
all-filter P test [] p = tt
all-filter P test (x ∷ xs) p = by (all-filter P test xs p.1) (test x) where
  by : AllByRecursion P (filter test xs) → (b : Bool) → AllByRecursion P (cond b (x ∷ filter test xs) (filter test xs))
  by rest true = (p.0, rest)
  by rest false = rest

pub all-map : {X Y : Type 0} (P : X → Type 0) (Q : Y → Type 0) (g : X → Y) → ((x : X) → P x → Q (g x)) → (xs : List X)
    → AllByRecursion P xs → AllByRecursion Q (map g xs)
all-map P Q g each [] p = tt
all-map P Q g each (x ∷ xs) p = (each x p.0, all-map P Q g each xs p.1)

pub all-flat_map : {X Y : Type 0} (P : Y → Type 0) (f : X → List Y) (xs : List X) → AllByRecursion (λ x. AllByRecursion P (f x)) xs
    → AllByRecursion P (flat_map f xs)
all-flat_map P f [] p = tt
all-flat_map P f (x ∷ xs) p = all-append P (f x) (flat_map f xs) p.0 (all-flat_map P f xs p.1)

-- ---- what each item gives, filtered or mapped

pub filter-flat_map : {X Y : Type 0} (test : Y → Bool) (f : X → List Y) (xs : List X)
    → filter test (flat_map f xs) ≡ flat_map (λ x. filter test (f x)) xs
filter-flat_map test f [] = refl
filter-flat_map test f (x ∷ xs) =
    filter-append test (f x) (flat_map f xs) ∙ ap (λ ys. filter test (f x) ++ ys) (filter-flat_map test f xs)

pub map-flat_map : {X Y Z : Type 0} (g : Y → Z) (f : X → List Y) (xs : List X) → map g (flat_map f xs) ≡ flat_map (λ x. map g (f x)) xs
map-flat_map g f [] = refl
map-flat_map g f (x ∷ xs) = map-append g (f x) (flat_map f xs) ∙ ap (λ ys. map g (f x) ++ ys) (map-flat_map g f xs)

-- ---- in order

pub all-insert : {X : Type 0} (P : X → Type 0) (cmp : X → X → Ordering) (xs : List X) (x : X) → P x → AllByRecursion P xs
    → AllByRecursion P (insert_by cmp xs x)
all-insert P cmp [] x p q = (p, tt)
all-insert P cmp (y ∷ ys) x p q = by (all-insert P cmp ys x p q.1) (cmp x y) where
  by : AllByRecursion P (insert_by cmp ys x) → (r : Ordering)
      → AllByRecursion P (match_ordering r (x ∷ y ∷ ys) (x ∷ y ∷ ys) (y ∷ insert_by cmp ys x))
  by rest Less = (p, q)
  by rest Equal = (p, q)
  by rest Greater = (q.0, rest)

all-folded : {X : Type 0} (P : X → Type 0) (cmp : X → X → Ordering) (done xs : List X) → AllByRecursion P done → AllByRecursion P xs
    → AllByRecursion P (fold (insert_by cmp) done xs)
all-folded P cmp done [] p q = p
all-folded P cmp done (x ∷ xs) p q = all-folded P cmp (insert_by cmp done x) xs (all-insert P cmp done x q.0 p) q.1

pub all-sorted : {X : Type 0} (P : X → Type 0) (cmp : X → X → Ordering) (xs : List X) → AllByRecursion P xs
    → AllByRecursion P (sorted_by cmp xs)
all-sorted P cmp xs q = all-folded P cmp [] xs tt q
