-- The order of strings as a test: what follows from its laws.
use Rattle.std.proofs.Common.{◌≡◌, ◌≢◌, ℕ, suc, zero, ◌<◌, Bool, true, false, List, [], ◌∷◌, ◌++◌, refl, sym, ◌∙◌, ap, arith}
use Rattle.std.specs.Prelude.{not, Option, Some, None}
use Rattle.std.specs.declared.cmp.Ordering.{Ordering}
use Rattle.std.specs.declared.cmp.Ordering.TheVariants.{Less, Equal, Greater}
use Rattle.std.specs.Ordering.{is_lt, ordering_then, ordering_reverse, nat_cmp, MatchOrdering}
use Rattle.std.specs.Cmp.{IsStrictWeakOrder, nat_cmp_total}
use Rattle.std.specs.Cmp.Lexicographic.{nat_list_cmp_total}
use Rattle.std.proofs.lemmas.Cmp.{tied_itself, ranked}
use Rattle.std.proofs.lemmas.List.MinMax.{ranks_by}
use Rattle.ds_base.specs.KeyOrder.{bytes_cmp}
use Rattle.ds_base.specs.KeyOrderLaws.{bytes_cmp-same}
use Rattle.ds_zigzag.specs.Spans.{is_below, is_from, is_above}
use Rattle.ds_zigzag.specs.Targets.{first_above}

-- a test that isn't false is true
pub true_unless : (b : Bool) → (b ≡ false → ⊥) → b ≡ true
true_unless true h = refl
true_unless false h = absurd (h refl)

pub false_unless : (b : Bool) → (b ≡ true → ⊥) → b ≡ false
false_unless true h = absurd (h refl)
false_unless false h = refl

pub not_both : (b : Bool) → b ≡ true → b ≡ false → ⊥
not_both b t f = cc

pub not_true : (b : Bool) → b ≡ true → not b ≡ false
not_true b e = ap not e

pub not_false : (b : Bool) → b ≡ false → not b ≡ true
not_false b e = ap not e

pub was_false : (b : Bool) → not b ≡ true → b ≡ false
was_false true e = sym e
was_false false e = refl

pub was_true : (b : Bool) → not b ≡ false → b ≡ true
was_true true e = refl
was_true false e = sym e

ranks : IsStrictWeakOrder is_below
ranks = ranks_by nat_list_cmp_total (λ (x : List ℕ). x)

-- no string is below itself
pub not_below_itself : (x : List ℕ) → is_below x x ≡ false
not_below_itself x = ap is_lt (tied_itself nat_list_cmp_total x)

-- x < y, so not y < x
pub below_back : (x y : List ℕ) → is_below x y ≡ true → is_below y x ≡ false
below_back x y h = ranks.one_way x y h

-- z <= y <= x
pub upto_upto : (x y z : List ℕ) → is_below x y ≡ false → is_below y z ≡ false → is_below x z ≡ false
upto_upto x y z h g = ranks.chain x y z h g

-- x <= y < z
pub upto_below : (x y z : List ℕ) → is_below y x ≡ false → is_below y z ≡ true → is_below x z ≡ true
upto_below x y z h g = true_unless (is_below x z) (λ f. not_both (is_below y z) g (ranks.chain y x z h f))

-- x < y <= z
pub below_upto : (x y z : List ℕ) → is_below x y ≡ true → is_below z y ≡ false → is_below x z ≡ true
below_upto x y z h g = true_unless (is_below x z) (λ f. not_both (is_below x y) h (ranks.chain x z y f g))

pub below_below : (x y z : List ℕ) → is_below x y ≡ true → is_below y z ≡ true → is_below x z ≡ true
below_below x y z h g = below_upto x y z h (below_back y z g)

-- two different strings, one of which isn't below the other
pub below_unless_same : (x y : List ℕ) → is_below y x ≡ false → x ≢ y → is_below x y ≡ true
below_unless_same x y h n = by (bytes_cmp x y) (bytes_cmp y x) refl refl where
  by : (r s : Ordering) → r ≡ bytes_cmp x y → s ≡ bytes_cmp y x → is_lt (bytes_cmp x y) ≡ true
  by Less s e f = ap is_lt (sym e)
  by Equal s e f = absurd (n (bytes_cmp-same x y (sym e)))
  by Greater s e f = absurd (greater e)
    where
      greater : Greater ≡ bytes_cmp x y → ⊥
      greater e = not_both (is_below y x) (ap is_lt (nat_list_cmp_total.antisymm y x ∙ ap ordering_reverse (sym e))) h

-- two strings of which neither is below the other
pub same_unless_below : (x y : List ℕ) → is_below x y ≡ false → is_below y x ≡ false → x ≡ y
same_unless_below x y h g = by (bytes_cmp x y) refl where
  by : (r : Ordering) → bytes_cmp x y ≡ r → x ≡ y
  by Less e = absurd (not_both (is_below x y) (ap is_lt e) h)
  by Equal e = bytes_cmp-same x y e
  by Greater e = absurd (not_both (is_below y x) (ap is_lt (nat_list_cmp_total.antisymm y x ∙ ap ordering_reverse e)) g)

-- a number above zero compares so
above_zero : (y : ℕ) → nat_cmp (suc y) 0 ≡ Greater
above_zero y = by (nat_cmp (suc y) 0) refl (ranked (suc y) 0 (nat_cmp (suc y) 0) refl) where
  by : (r : Ordering) → nat_cmp (suc y) 0 ≡ r → MatchOrdering r (suc y < 0) (suc y ≡ 0) (0 < suc y) → r ≡ Greater
  by Less e h = absurd (omega arith)
  by Equal e h = absurd (omega arith)
  by Greater e h = refl

-- the strings above `after` are those that aren't below the first of them
pub above-is_from : (after : Option (List ℕ)) (x : List ℕ) → is_from (first_above after) x ≡ is_above after x
above-is_from None [] = refl
above-is_from None (y ∷ ys) = refl
above-is_from (Some a) x = steps a x where
  then_zero : (y : ℕ) (ys : List ℕ) → not (is_lt (ordering_then (nat_cmp y 0) (bytes_cmp ys []))) ≡ true
  then_zero zero [] = refl
  then_zero zero (z ∷ zs) = refl
  then_zero (suc y) ys = ap (λ r. not (is_lt (ordering_then r (bytes_cmp ys [])))) (above_zero y)

  joined : (r p q : Ordering) → not (is_lt q) ≡ is_lt p → not (is_lt (ordering_then (ordering_reverse r) q)) ≡ is_lt (ordering_then r p)
  joined Less p q h = refl
  joined Equal p q h = h
  joined Greater p q h = refl

  steps : (a x : List ℕ) → not (is_below x (a ++ 0 ∷ [])) ≡ is_below a x
  steps [] [] = refl
  steps [] (y ∷ ys) = then_zero y ys
  steps (b ∷ bs) [] = refl
  steps (b ∷ bs) (y ∷ ys) =
      ap (λ r. not (is_lt (ordering_then r (bytes_cmp ys (bs ++ 0 ∷ []))))) (nat_cmp_total.antisymm y b)
      ∙ joined (nat_cmp b y) (bytes_cmp bs ys) (bytes_cmp ys (bs ++ 0 ∷ [])) (steps bs ys)
