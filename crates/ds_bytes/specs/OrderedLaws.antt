-- What follows where things are written in their order, and how such writings are put together.
use Rattle.std.specs.Prelude.{◌≡◌, ℕ, ◌-◌, ◌<◌, List, [], ◌∷◌, ◌++◌, flat_map, All, refl}
use Rattle.std.proofs.Common.{ap, sym, ◌∙◌, append_assoc, append-nil, arith, suc}
use Rattle.std.proofs.lemmas.List.Elements.{All-head, All-tail}
use Rattle.ds_lanes.specs.Kernels.{complement}
use Rattle.std.specs.declared.cmp.Ordering.{Ordering}
use Rattle.std.specs.declared.cmp.Ordering.TheVariants.{Less, Equal, Greater}
use Rattle.std.specs.Ordering.{ordering_then, ordering_reverse, nat_cmp, MatchOrdering}
use Rattle.std.specs.Cmp.{tied_itself, nat_cmp_total, nat_cmp_is, ranks}
use Rattle.std.specs.Cmp.Lexicographic.{slice_cmp, nat_list_cmp_total}
use Rattle.std.specs.FinMap.{IsAntisymmetric}
use Rattle.ds_base.specs.KeyOrder.{bytes_cmp}
use Rattle.ds_base.specs.KeyOrderLaws.{bytes_cmp-same}
use Rattle.ds_base.specs.OrderLaws.{then-Equal}
use Rattle.ds_bytes.specs.Ordered.{IsOrderedBy}

-- ---- comparisons one after another

pub then-assoc : (p q r : Ordering) → ordering_then (ordering_then p q) r ≡ ordering_then p (ordering_then q r)
then-assoc Less q r = refl
then-assoc Equal q r = refl
then-assoc Greater q r = refl

-- two comparisons answer Equal only where both do
both_Equal : (r s : Ordering) → ordering_then r s ≡ Equal → (r ≡ Equal) × (s ≡ Equal)
both_Equal Less s e = absurd (apart e) where
  apart : Less ≡ Equal → ⊥
  apart e = cc
both_Equal Equal s e = (refl, e)
both_Equal Greater s e = absurd (apart e) where
  apart : Greater ≡ Equal → ⊥
  apart e = cc

pub nat_cmp-self : (n : ℕ) → nat_cmp n n ≡ Equal
nat_cmp-self n = tied_itself nat_cmp_total n

-- what both begin with tells nothing
pub bytes_cmp-front : (front a b : List ℕ) → bytes_cmp (front ++ a) (front ++ b) ≡ bytes_cmp a b
bytes_cmp-front [] a b = refl
bytes_cmp-front (x ∷ xs) a b = ap (λ r. ordering_then r (bytes_cmp (xs ++ a) (xs ++ b))) (nat_cmp-self x) ∙ bytes_cmp-front xs a b

-- ---- what follows

module _ {A : Type 0} {cmp : A → A → Ordering} {Lawful : A → Type 0} {written : A → List ℕ} (ordered : IsOrderedBy cmp Lawful written) where
  -- the order of bytes is the order of the things
  pub orders : (x y : A) → Lawful x → Lawful y → bytes_cmp (written x) (written y) ≡ cmp x y
  orders x y p q =
      (λ i. bytes_cmp (sym (append-nil (written x)) i) (sym (append-nil (written y)) i)) ∙ ordered.compares x y [] [] p q
      ∙ then-Equal (cmp x y)

  -- What is written, followed by anything, is read in one way: different things are written differently, and nothing that
  -- is written begins what is written of another thing.
  pub reads_once : IsAntisymmetric cmp → (x y : A) (a b : List ℕ) → Lawful x → Lawful y → written x ++ a ≡ written y ++ b
      → (x ≡ y) × (a ≡ b)
  reads_once same x y a b p q e =
      let tied : ordering_then (cmp x y) (bytes_cmp a b) ≡ Equal =
      sym (ordered.compares x y a b p q) ∙ ap (λ bs. bytes_cmp (written x ++ a) bs) (sym e)
      ∙ tied_itself nat_list_cmp_total (written x ++ a) in
      let both = both_Equal (cmp x y) (bytes_cmp a b) tied in
      (same x y both.0, bytes_cmp-same a b both.1)

-- ---- how writings are put together

module _ {A : Type 0} {cmp : A → A → Ordering} {Lawful : A → Type 0} {written : A → List ℕ} (ordered : IsOrderedBy cmp Lawful written) where
  -- a byte in front that is always the same
  pub tagged-ordered : (tag : ℕ) → IsOrderedBy cmp Lawful (λ x. tag ∷ written x)
  tagged-ordered tag = record {
    compares = λ x y a b p q. bytes_cmp-front (tag ∷ []) (written x ++ a) (written y ++ b)
        ∙ ordered.compares x y a b p q;
  }

  -- things that are seen as others
  pub seen-ordered : {B : Type 0} (seen : B → A) → IsOrderedBy (λ x y. cmp (seen x) (seen y)) (λ x. Lawful (seen x)) (λ x. written (seen x))
  seen-ordered seen = record { compares = λ x y a b p q. ordered.compares (seen x) (seen y) a b p q }

  -- fewer things
  pub fewer-ordered : (Fewer : A → Type 0) → ((x : A) → Fewer x → Lawful x) → IsOrderedBy cmp Fewer written
  fewer-ordered Fewer has = record { compares = λ x y a b p q. ordered.compares x y a b (has x p) (has y q) }

  -- one thing after another: the first decides, and then the second
  pub joined-ordered : {B : Type 0} {cmp' : B → B → Ordering} {Lawful' : B → Type 0} {written' : B → List ℕ}
      → IsOrderedBy cmp' Lawful' written'
      → IsOrderedBy {A = A × B} (λ x y. ordering_then (cmp x.0 y.0) (cmp' x.1 y.1)) (λ x. Lawful x.0 × Lawful' x.1)
      (λ x. written x.0 ++ written' x.1)
  joined-ordered {cmp' = cmp'} {written' = written'} second = record {
    compares = λ x y a b p q.
        (λ i. bytes_cmp (append_assoc (written x.0) (written' x.1) a i) (append_assoc (written y.0) (written' y.1) b i))
        ∙ ordered.compares x.0 y.0 (written' x.1 ++ a) (written' y.1 ++ b) p.0 q.0
        ∙ ap (λ r. ordering_then (cmp x.0 y.0) r) (second.compares x.1 y.1 a b p.1 q.1)
        ∙ sym (then-assoc (cmp x.0 y.0) (cmp' x.1 y.1) (bytes_cmp a b));
  }

  -- the comparison of two lists
  lists : (end tag : ℕ) → end < tag → (xs ys : List A) (a b : List ℕ) → All Lawful xs → All Lawful ys
      → bytes_cmp ((flat_map (λ x. tag ∷ written x) xs ++ end ∷ []) ++ a)
      ((flat_map (λ x. tag ∷ written x) ys ++ end ∷ []) ++ b) ≡ ordering_then (slice_cmp cmp xs ys) (bytes_cmp a b)
  lists end tag below [] [] a b p q = bytes_cmp-front (end ∷ []) a b
  lists end tag below [] (y ∷ ys) a b p q = ap (λ r. ordering_then r
      (bytes_cmp a (((written y ++ flat_map (λ x. tag ∷ written x) ys) ++ end ∷ []) ++ b))) (sym (nat_cmp_is end tag Less below))
  lists end tag below (x ∷ xs) [] a b p q = ap (λ r. ordering_then r
      (bytes_cmp (((written x ++ flat_map (λ x. tag ∷ written x) xs) ++ end ∷ []) ++ a) b)) (sym (nat_cmp_is tag end Greater below))
  lists end tag below (x ∷ xs) (y ∷ ys) a b p q =
      let rest : List A → List ℕ = λ zs. flat_map (λ z. tag ∷ written z) zs ++ end ∷ [] in
      let regrouped : (z : A) (zs : List A) (c : List ℕ) → (((written z ++ flat_map (λ z. tag ∷ written z) zs) ++ end ∷ []) ++ c) ≡
      written z ++ (rest zs ++ c) = λ z zs c. simp append_assoc in
      bytes_cmp-front (tag ∷ []) (((written x ++ flat_map (λ z. tag ∷ written z) xs) ++ end ∷ []) ++ a)
      (((written y ++ flat_map (λ z. tag ∷ written z) ys) ++ end ∷ []) ++ b)
      ∙ (λ i. bytes_cmp (regrouped x xs a i) (regrouped y ys b i))
      ∙ ordered.compares x y (rest xs ++ a) (rest ys ++ b) (All-head Lawful x xs p) (All-head Lawful y ys q)
      ∙ ap (λ r. ordering_then (cmp x y) r) (lists end tag below xs ys a b (All-tail Lawful x xs p) (All-tail Lawful y ys q))
      ∙ sym (then-assoc (cmp x y) (slice_cmp cmp xs ys) (bytes_cmp a b))

  -- a list of things, each behind the byte `tag`, and then a byte that is below it: so a list comes before its extensions
  pub list-ordered : (end tag : ℕ) → end < tag → IsOrderedBy (slice_cmp cmp) (All Lawful)
      (λ xs. flat_map (λ x. tag ∷ written x) xs ++ end ∷ [])
  list-ordered end tag below = record { compares = lists end tag below }

-- ---- the other direction

-- bytes below 256 taken from 255 compare the other way round
complement_cmp : (x y : ℕ) → x < 256 → y < 256 → nat_cmp (255 - x) (255 - y) ≡ ordering_reverse (nat_cmp x y)
complement_cmp x y p q = by (nat_cmp x y) (ranks x y) where
  by : (r : Ordering) → MatchOrdering r (x < y) (x ≡ y) (y < x) → nat_cmp (255 - x) (255 - y) ≡ ordering_reverse r
  by Less h = sym (nat_cmp_is (255 - x) (255 - y) Greater (omega arith))
  by Equal h = sym (nat_cmp_is (255 - x) (255 - y) Equal (omega arith))
  by Greater h = sym (nat_cmp_is (255 - x) (255 - y) Less (omega arith))

-- where one list begins another, what follows can decide either way
not_begun : (y : ℕ) (ys : List ℕ) (r : Ordering) → ((a b : List ℕ) → bytes_cmp a ((y ∷ ys) ++ b) ≡ ordering_then r (bytes_cmp a b)) → ⊥
not_begun y ys r compares =
    let less : r ≡ Less = sym (then-Equal r) ∙ sym (compares [] []) in
    let greater : nat_cmp (suc y) y ≡ Greater = sym (nat_cmp_is (suc y) y Greater (omega arith)) in
    let one : ordering_then (nat_cmp (suc y) y) (bytes_cmp [] (ys ++ [])) ≡ ordering_then r Greater = compares (suc y ∷ []) [] in
    let both : Greater ≡ Less = sym (ap (λ o. ordering_then o (bytes_cmp [] (ys ++ []))) greater) ∙ one
    ∙ ap (λ o. ordering_then o Greater) less in
    cc

not_begun_by : (x : ℕ) (xs : List ℕ) (r : Ordering) → ((a b : List ℕ) → bytes_cmp ((x ∷ xs) ++ a) b ≡ ordering_then r (bytes_cmp a b)) → ⊥
not_begun_by x xs r compares =
    let greater : r ≡ Greater = sym (then-Equal r) ∙ sym (compares [] []) in
    let less : nat_cmp x (suc x) ≡ Less = sym (nat_cmp_is x (suc x) Less (omega arith)) in
    let one : ordering_then (nat_cmp x (suc x)) (bytes_cmp (xs ++ []) []) ≡ ordering_then r Less = compares [] (suc x ∷ []) in
    let both : Less ≡ Greater = sym (ap (λ o. ordering_then o (bytes_cmp (xs ++ []) [])) less) ∙ one
    ∙ ap (λ o. ordering_then o Less) greater in
    cc

-- two lists of bytes that compare so, whatever follows, compare the other way round where each byte is taken from 255
complements : (xs ys : List ℕ) (r : Ordering) → All (λ b. b < 256) xs → All (λ b. b < 256) ys
    → ((a b : List ℕ) → bytes_cmp (xs ++ a) (ys ++ b) ≡ ordering_then r (bytes_cmp a b))
    → (a b : List ℕ) → bytes_cmp (complement xs ++ a) (complement ys ++ b) ≡ ordering_then (ordering_reverse r) (bytes_cmp a b)
complements [] [] r p q compares a b =
    let equal : r ≡ Equal = sym (then-Equal r) ∙ sym (compares [] []) in
    ap (λ o. ordering_then (ordering_reverse o) (bytes_cmp a b)) (sym equal)
complements [] (y ∷ ys) r p q compares a b = absurd (not_begun y ys r compares)
complements (x ∷ xs) [] r p q compares a b = absurd (not_begun_by x xs r compares)
complements (x ∷ xs) (y ∷ ys) r p q compares a b =
    decided (nat_cmp x y) refl (complements xs ys r (All-tail (λ b. b < 256) x xs p) (All-tail (λ b. b < 256) y ys q)) where
      front : (o : Ordering) → nat_cmp x y ≡ o → nat_cmp (255 - x) (255 - y) ≡ ordering_reverse o
      front o e = complement_cmp x y (All-head (λ b. b < 256) x xs p) (All-head (λ b. b < 256) y ys q) ∙ ap ordering_reverse e

      behind : (o : Ordering) → nat_cmp x y ≡ o → (c d : List ℕ) → ordering_then o (bytes_cmp (xs ++ c) (ys ++ d)) ≡ ordering_then r
          (bytes_cmp c d)
      behind o e c d = ap (λ z. ordering_then z (bytes_cmp (xs ++ c) (ys ++ d))) (sym e) ∙ compares c d

      decided : (o : Ordering) → nat_cmp x y ≡ o
          → (((c d : List ℕ) → bytes_cmp (xs ++ c) (ys ++ d) ≡ ordering_then r (bytes_cmp c d)) → (c d : List ℕ)
          → bytes_cmp (complement xs ++ c) (complement ys ++ d) ≡ ordering_then (ordering_reverse r) (bytes_cmp c d))
          → bytes_cmp (complement (x ∷ xs) ++ a) (complement (y ∷ ys) ++ b) ≡ ordering_then (ordering_reverse r) (bytes_cmp a b)
      decided Less e more =
          let less : Less ≡ r = behind Less e [] [] ∙ then-Equal r in
          ap (λ o. ordering_then o (bytes_cmp (complement xs ++ a) (complement ys ++ b))) (front Less e)
          ∙ ap (λ o. ordering_then (ordering_reverse o) (bytes_cmp a b)) less
      decided Equal e more = ap (λ o. ordering_then o (bytes_cmp (complement xs ++ a) (complement ys ++ b))) (front Equal e)
          ∙ more (behind Equal e) a b
      decided Greater e more =
          let greater : Greater ≡ r = behind Greater e [] [] ∙ then-Equal r in
          ap (λ o. ordering_then o (bytes_cmp (complement xs ++ a) (complement ys ++ b))) (front Greater e)
          ∙ ap (λ o. ordering_then (ordering_reverse o) (bytes_cmp a b)) greater

-- so what is written in its order, each byte taken from 255, is written in the other order
pub complement-ordered : {A : Type 0} {cmp : A → A → Ordering} {Lawful : A → Type 0} {written : A → List ℕ} → IsOrderedBy cmp Lawful written
    → ((x : A) → Lawful x → All (λ b. b < 256) (written x)) → IsOrderedBy (λ x y. ordering_reverse (cmp x y)) Lawful
    (λ x. complement (written x))
complement-ordered {cmp = cmp} {written = written} ordered bytes = record {
  compares = λ x y a b p q. complements (written x) (written y) (cmp x y) (bytes x p) (bytes y q) (λ c d. ordered.compares x y c d p q) a b;
}
