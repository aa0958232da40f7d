-- Laws of any order: what a chain of comparisons answers, and what follows where only equal values tie.
use Rattle.std.specs.Prelude.{◌≡◌, ◌↔◌, refl}
use Rattle.std.proofs.Common.{subst}
use Rattle.std.specs.Bool.{Decides}
use Rattle.std.specs.Cmp.{IsTotalOrder, tied_itself, Equal-is}
use Rattle.std.specs.declared.cmp.Ordering.{Ordering}
use Rattle.std.specs.declared.cmp.Ordering.TheVariants.{Less, Equal, Greater}
use Rattle.std.specs.Ordering.{ordering_then, eq_by_cmp}
use Rattle.std.specs.FinMap.{IsAntisymmetric}

-- a second comparison that finds nothing changes no answer
pub then-Equal : (r : Ordering) → ordering_then r Equal ≡ r
then-Equal Less = refl
then-Equal Equal = refl
then-Equal Greater = refl

-- a chain of two comparisons answers Equal only where both do
pub both_Equal : (r s : Ordering) → ordering_then r s ≡ Equal → (r ≡ Equal) × (s ≡ Equal)
both_Equal Less s e = (e, absurd (Less≢Equal e)) where
  Less≢Equal : Less ≡ Equal → ⊥
  Less≢Equal e = cc
both_Equal Equal s e = (refl, e)
both_Equal Greater s e = (e, absurd (Greater≢Equal e)) where
  Greater≢Equal : Greater ≡ Equal → ⊥
  Greater≢Equal e = cc

-- a total order that answers Equal for equal values alone answers it exactly for them
pub Equal-same : {K : Type 0} {R : K → K → Ordering} → IsTotalOrder R → IsAntisymmetric R → (x y : K) → (R x y ≡ Equal) ↔ (x ≡ y)
Equal-same {R = R} o same x y = (same x y, λ e. subst (λ z. R x z ≡ Equal) e (tied_itself o x))

-- so its test of equality decides whether two values are equal
pub eq_by_cmp-decides : {K : Type 0} {R : K → K → Ordering} → IsTotalOrder R → IsAntisymmetric R → (x y : K)
    → Decides (eq_by_cmp R x y) (x ≡ y)
eq_by_cmp-decides {R = R} o same x y =
    let tied = Equal-same o same x y in
    let test = Equal-is (R x y) in
    (λ e. tied.0 (test.0 e), λ e. test.1 (tied.1 e))
