-- The order of rows as a test: what follows from its laws.
use Rattle.std.proofs.Common.{◌≡◌, ◌≢◌, ℕ, Bool, true, false, List, refl, sym, ◌∙◌, ap}
use Rattle.std.specs.Prelude.{not}
use Rattle.std.specs.declared.cmp.Ordering.{Ordering}
use Rattle.std.specs.declared.cmp.Ordering.TheVariants.{Less, Equal, Greater}
use Rattle.std.specs.Ordering.{is_lt, ordering_reverse}
use Rattle.std.specs.Cmp.{IsStrictWeakOrder}
use Rattle.std.specs.Cmp.Lexicographic.{nat_list_cmp_total}
use Rattle.std.proofs.lemmas.Cmp.{tied_itself}
use Rattle.std.proofs.lemmas.List.MinMax.{ranks_by}
use Rattle.ds_base.specs.KeyOrder.{bytes_cmp}
use Rattle.ds_base.specs.KeyOrderLaws.{bytes_cmp-same}
use Rattle.ds_table.specs.Versions.{is_below}
use Rattle.ds_table.specs.Places.{row_before}
use Rattle.ds_table.proofs.Lists.{not_both, true_unless, false_unless, was_false}

ranks : IsStrictWeakOrder is_below
ranks = ranks_by nat_list_cmp_total (λ (x : List ℕ). x)

pub not_below_itself : (x : List ℕ) → is_below x x ≡ false
not_below_itself x = ap is_lt (tied_itself nat_list_cmp_total x)

-- x < y, so not y < x
pub below_back : (x y : List ℕ) → is_below x y ≡ true → is_below y x ≡ false
below_back x y h = ranks.one_way x y h

-- z <= y <= x
pub upto_upto : (x y z : List ℕ) → is_below x y ≡ false → is_below y z ≡ false → is_below x z ≡ false
upto_upto x y z h g = ranks.chain x y z h g

-- x <= y < z
pub upto_below : (x y z : List ℕ) → is_below y x ≡ false → is_below y z ≡ true → is_below x z ≡ true
upto_below x y z h g = true_unless (is_below x z) (λ f. not_both (is_below y z) g (ranks.chain y x z h f))

-- two different rows, one of which isn't below the other
pub below_unless_same : (x y : List ℕ) → is_below y x ≡ false → x ≢ y → is_below x y ≡ true
below_unless_same x y h n = by (bytes_cmp x y) refl where
  by : (r : Ordering) → r ≡ bytes_cmp x y → is_lt (bytes_cmp x y) ≡ true
  by Less e = ap is_lt (sym e)
  by Equal e = absurd (n (bytes_cmp-same x y (sym e)))
  by Greater e = absurd (greater e)
    where
      greater : Greater ≡ bytes_cmp x y → ⊥
      greater e = not_both (is_below y x) (ap is_lt (nat_list_cmp_total.antisymm y x ∙ ap ordering_reverse (sym e))) h

pub same_unless_below : (x y : List ℕ) → is_below x y ≡ false → is_below y x ≡ false → x ≡ y
same_unless_below x y h g = by (bytes_cmp x y) refl where
  by : (r : Ordering) → r ≡ bytes_cmp x y → x ≡ y
  by Less e = absurd (not_both (is_below x y) (ap is_lt (sym e)) h)
  by Equal e = bytes_cmp-same x y (sym e)
  by Greater e = absurd (not_both (is_below y x) (ap is_lt (nat_list_cmp_total.antisymm y x ∙ ap ordering_reverse (sym e))) g)

-- where r comes before another row, so does each q that isn't above r
pub keeps : (o : List ℕ) (s : Bool) (q r : List ℕ) → is_below r q ≡ false → row_before o s r ≡ true → row_before o s q ≡ true
keeps o true q r h t = ap not (upto_upto o r q (was_false (is_below o r) t) h)
keeps o false q r h t = upto_below q r o h t

pub lacks : (o : List ℕ) (s : Bool) (q r : List ℕ) → is_below r q ≡ false → row_before o s q ≡ false → row_before o s r ≡ false
lacks o s q r h f = false_unless (row_before o s r) (λ t. not_both (row_before o s q) (keeps o s q r h t) f)
