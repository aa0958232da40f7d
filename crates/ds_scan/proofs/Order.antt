-- The order of strings as a test, and what it says of strings that begin alike.
use Rattle.std.proofs.Common.{◌≡◌, ℕ, Bool, true, false, List, [], ◌∷◌, ◌++◌, refl, sym, ◌∙◌, ap, arith}
use Rattle.std.specs.Prelude.{◌&&◌, ◌==◌, not, if◌then◌else◌}
use Rattle.std.specs.declared.cmp.Ordering.{Ordering}
use Rattle.std.specs.declared.cmp.Ordering.TheVariants.{Less, Equal, Greater}
use Rattle.std.specs.Ordering.{is_lt, ordering_then, nat_cmp}
use Rattle.std.specs.Cmp.{IsStrictWeakOrder, nat_cmp_total}
use Rattle.std.specs.Cmp.Lexicographic.{nat_list_cmp_total}
use Rattle.std.specs.FinMap.{nat_cmp-IsAntisymmetric}
use Rattle.std.proofs.lemmas.Bool.Decides.{nat_tests}
use Rattle.std.proofs.lemmas.Cmp.{tied_itself}
use Rattle.std.proofs.lemmas.List.MinMax.{ranks_by}
use Rattle.ds_base.specs.KeyOrder.{bytes_cmp}
use Rattle.ds_table.specs.Versions.{is_below}
use Rattle.ds_scan.specs.Ranges.{begins_with, later}

-- ---- tests

pub not_false : (b : Bool) → b ≡ false → not b ≡ true
not_false b e = ap not e

pub was_false : (b : Bool) → not b ≡ true → b ≡ false
was_false true e = sym e
was_false false e = refl

pub first_true : (a b : Bool) → a && b ≡ true → a ≡ true
first_true true b h = refl
first_true false b h = h

pub second_true : (a b : Bool) → a && b ≡ true → b ≡ true
second_true true b h = h
second_true false b h = cc

pub both_true : (a b : Bool) → a ≡ true → b ≡ true → a && b ≡ true
both_true true b h g = g
both_true false b h g = h

-- ---- order

ranks : IsStrictWeakOrder is_below
ranks = ranks_by nat_list_cmp_total (λ (x : List ℕ). x)

-- z <= y <= x
pub upto_upto : (x y z : List ℕ) → is_below x y ≡ false → is_below y z ≡ false → is_below x z ≡ false
upto_upto x y z h g = ranks.chain x y z h g

-- x < y, so not y < x
pub below_back : (x y : List ℕ) → is_below x y ≡ true → is_below y x ≡ false
below_back x y h = ranks.one_way x y h

-- what isn't below the later of two strings is below neither
pub from_later : (low a x : List ℕ) → is_below x (later low a) ≡ false → (is_below x low ≡ false) × (is_below x a ≡ false)
from_later low a x h = by (is_below a low) refl h where
  by : (b : Bool) → is_below a low ≡ b → is_below x (if b then low else a) ≡ false → (is_below x low ≡ false) × (is_below x a ≡ false)
  by true e h = (h, upto_upto x low a h (below_back a low e))
  by false e h = (upto_upto x a low h e, h)

-- and the other way about
pub to_later : (low a x : List ℕ) → is_below x low ≡ false → is_below x a ≡ false → is_below x (later low a) ≡ false
to_later low a x h g = by (is_below a low) where
  by : (b : Bool) → is_below x (if b then low else a) ≡ false
  by true = h
  by false = g

-- ---- strings that begin alike

same_byte : (b c : ℕ) → (b == c) ≡ true → b ≡ c
same_byte b c e = grind (arith, nat_tests)

is_same : (b c : ℕ) → b ≡ c → (b == c) ≡ true
is_same b c e = grind (arith, nat_tests)

-- two strings compare as what follows the same beginning
pub cmp-behind : (p a b : List ℕ) → bytes_cmp (p ++ a) (p ++ b) ≡ bytes_cmp a b
cmp-behind [] a b = refl
cmp-behind (x ∷ p) a b = rw (tied_itself nat_cmp_total x) (cmp-behind p a b)

-- the first byte is the same, as both compare equal
pub equal_byte : (b c : ℕ) → (b == c) ≡ true → nat_cmp c b ≡ Equal
equal_byte b c h = ap (λ n. nat_cmp c n) (same_byte b c h) ∙ tied_itself nat_cmp_total c

pub byte_equal : (b c : ℕ) → nat_cmp c b ≡ Equal → (b == c) ≡ true
byte_equal b c e = is_same b c (sym (nat_cmp-IsAntisymmetric c b e))

-- what stands between two strings that begin alike begins so too
pub between : (p a h r : List ℕ) → is_below r (p ++ a) ≡ false → is_below r (p ++ h) ≡ true → begins_with p r ≡ true
between [] a h r f g = refl
between (b ∷ bs) a h [] f g = cc
between (b ∷ bs) a h (c ∷ cs) f g = by (nat_cmp c b) refl f g (between bs a h cs) where
  by : (r : Ordering) → nat_cmp c b ≡ r → is_lt (ordering_then r (bytes_cmp cs (bs ++ a))) ≡ false → is_lt (ordering_then r (bytes_cmp cs (bs ++ h))) ≡ true
      → (is_below cs (bs ++ a) ≡ false → is_below cs (bs ++ h) ≡ true → begins_with bs cs ≡ true) → (b == c) && begins_with bs cs ≡ true
  by Less e f g more = cc
  by Equal e f g more = both_true (b == c) (begins_with bs cs) (byte_equal b c e) (more f g)
  by Greater e f g more = cc
