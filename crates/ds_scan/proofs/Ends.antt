-- The end of the rows that begin with a prefix.
use Rattle.std.proofs.Common.{◌≡◌, ℕ, zero, suc, ◌+◌, ◌<◌, ◌≤◌, Bool, true, false, List, [], ◌∷◌, ◌++◌, length, take, get_or, refl, sym}
use Rattle.std.proofs.Common.{◌∙◌, ap, arith}
use Rattle.std.specs.Prelude.{◌&&◌, ◌==◌, not, nat_lt, if◌then◌else◌, Option, Some, None}
use Rattle.std.specs.declared.cmp.Ordering.{Ordering}
use Rattle.std.specs.declared.cmp.Ordering.TheVariants.{Less, Equal, Greater}
use Rattle.std.specs.Ordering.{is_lt, ordering_then, nat_cmp, MatchOrdering}
use Rattle.std.specs.Cmp.{nat_cmp_is}
use Rattle.std.specs.FinMap.{nat_cmp-IsAntisymmetric}
use Rattle.std.proofs.lemmas.Bool.Decides.{nat_tests}
use Rattle.std.proofs.lemmas.Cmp.{ranked}
use Rattle.std.proofs.lemmas.List.Elements.{All-head, All-tail}
use Rattle.ds_base.specs.KeyOrder.{bytes_cmp}
use Rattle.ds_table.specs.Versions.{is_below, is_before, in_range}
use Rattle.ds_base.specs.Bytes.{AreBytes}
use Rattle.ds_scan.specs.Ranges.{begins_with, prefix_end, end_behind}
use Rattle.ds_scan.specs.RangeLaws.{begins-is}
use Rattle.ds_scan.proofs.Order.{first_true, second_true, both_true, was_false, not_false, equal_byte, byte_equal, cmp-behind}

-- what begins with a prefix is below its end
pub before_end : (p r : List ℕ) → begins_with p r ≡ true → is_before (prefix_end p) r ≡ true
before_end [] r h = refl
before_end (b ∷ bs) [] h = cc
before_end (b ∷ bs) (c ∷ cs) h = by (prefix_end bs) (before_end bs cs (second_true (b == c) (begins_with bs cs) h)) where
  same : nat_cmp c b ≡ Equal
  same = equal_byte b c (first_true (b == c) (begins_with bs cs) h)

  less : nat_cmp c (b + 1) ≡ Less
  less =
      let e : c ≡ b = nat_cmp-IsAntisymmetric c b same in
      sym (nat_cmp_is c (b + 1) Less (omega (arith, e)))

  risen : (x : Bool) → is_before (if x then Some ((b + 1) ∷ []) else None) (c ∷ cs) ≡ true
  risen true = ap (λ r. is_lt (ordering_then r (bytes_cmp cs []))) less
  risen false = refl

  by : (o : Option (List ℕ)) → is_before o cs ≡ true → is_before (end_behind b o) (c ∷ cs) ≡ true
  by (Some e) i = ap (λ r. is_lt (ordering_then r (bytes_cmp cs e))) same ∙ i
  by None i = risen (nat_lt b 255)

none_below : (cs : List ℕ) → is_below cs [] ≡ false
none_below [] = refl
none_below (c ∷ cs) = refl

-- a greater byte isn't below the next one
not_next : (b c : ℕ) (cs : List ℕ) → b < c → is_below (c ∷ cs) ((b + 1) ∷ []) ≡ false
not_next b c cs h = by (nat_cmp c (b + 1)) (ranked c (b + 1) (nat_cmp c (b + 1)) refl) where
  by : (r : Ordering) → MatchOrdering r (c < b + 1) (c ≡ b + 1) (b + 1 < c) → is_lt (ordering_then r (bytes_cmp cs [])) ≡ false
  by Less k = absurd (omega (arith, h, k))
  by Equal k = none_below cs
  by Greater k = refl

-- bytes that aren't below a string that begins with the prefix, and are below its end, begin with it
pub begins_before : (p s r : List ℕ) → AreBytes r → is_below r (p ++ s) ≡ false → is_before (prefix_end p) r ≡ true → begins_with p r ≡ true
begins_before [] s r a f g = refl
begins_before (b ∷ bs) s [] a f g = cc
begins_before (b ∷ bs) s (c ∷ cs) a f g =
    by (nat_cmp c b) refl (ranked c b (nat_cmp c b) refl) f (prefix_end bs) g (begins_before bs s cs (All-tail (λ b. b < 256) c cs a)) where
      small : c < 256
      small = All-head (λ b. b < 256) c cs a

      behind : (o : Option (List ℕ)) → nat_cmp c b ≡ Equal → is_before (end_behind b o) (c ∷ cs) ≡ true → is_before o cs ≡ true
      behind (Some e) q g = sym (ap (λ r. is_lt (ordering_then r (bytes_cmp cs e))) q) ∙ g
      behind None q g = refl

      beyond : (o : Option (List ℕ)) → nat_cmp c b ≡ Greater → b < c → is_before (end_behind b o) (c ∷ cs) ≡ true → false ≡ true
      beyond (Some e) q k g = sym (ap (λ r. is_lt (ordering_then r (bytes_cmp cs e))) q) ∙ g
      beyond None q k g = risen (nat_lt b 255) refl g where
        risen : (x : Bool) → nat_lt b 255 ≡ x → is_before (if x then Some ((b + 1) ∷ []) else None) (c ∷ cs) ≡ true → false ≡ true
        risen true e g = sym (not_next b c cs k) ∙ g
        risen false e g = absurd (grind (arith, nat_tests, small, k, e))

      by : (r : Ordering) → nat_cmp c b ≡ r → MatchOrdering r (c < b) (c ≡ b) (b < c) → is_lt (ordering_then r (bytes_cmp cs (bs ++ s))) ≡ false
          → (o : Option (List ℕ)) → is_before (end_behind b o) (c ∷ cs) ≡ true → (is_below cs (bs ++ s) ≡ false → is_before o cs ≡ true → begins_with bs cs ≡ true)
          → (b == c) && begins_with bs cs ≡ true
      by Less q k f o g more = cc
      by Equal q k f o g more = both_true (b == c) (begins_with bs cs) (byte_equal b c q) (more f (behind o q g))
      by Greater q k f o g more = let never = beyond o q k g in cc

-- ---- the end that is made

-- the end of the first bytes, of which the last one can't rise: it is left out
pub end-shorter : (p : List ℕ) (n m : ℕ) → n ≡ m + 1 → n ≤ length p → get_or p m 0 ≡ 255 → prefix_end (take m p) ≡ prefix_end (take n p)
end-shorter [] n m e h g = absurd (omega (arith, e, h))
end-shorter (b ∷ bs) zero m e h g = absurd (omega (arith, e))
end-shorter (b ∷ bs) (suc zero) zero e h g = rw g refl
end-shorter (b ∷ bs) (suc (suc n)) zero e h g = absurd (omega (arith, e))
end-shorter (b ∷ bs) (suc n) (suc m) e h g = ap (end_behind b) (end-shorter bs n m (omega (arith, e)) (omega (arith, h)) g)

-- and of which it can
pub end-risen : (p : List ℕ) (n m : ℕ) → n ≡ m + 1 → n ≤ length p → get_or p m 0 < 255 → prefix_end (take n p) ≡ Some (take m p ++ (get_or p m 0 + 1) ∷ [])
end-risen [] n m e h g = absurd (omega (arith, e, h))
end-risen (b ∷ bs) zero m e h g = absurd (omega (arith, e))
end-risen (b ∷ bs) (suc zero) zero e h g = by (nat_lt b 255) refl where
  by : (x : Bool) → nat_lt b 255 ≡ x → (if x then Some ((b + 1) ∷ []) else None) ≡ Some ((b + 1) ∷ [])
  by true q = refl
  by false q = absurd (grind (arith, nat_tests, g, q))
end-risen (b ∷ bs) (suc (suc n)) zero e h g = absurd (omega (arith, e))
end-risen (b ∷ bs) (suc n) (suc m) e h g = ap (end_behind b) (end-risen bs n m (omega (arith, e)) (omega (arith, h)) g)

equal_tests : (a b : Bool) → (a ≡ true → b ≡ true) → (b ≡ true → a ≡ true) → a ≡ b
equal_tests true b f g = sym (f refl)
equal_tests false true f g = g refl
equal_tests false false f g = refl

append_none : (p : List ℕ) → p ++ [] ≡ p
append_none [] = refl
append_none (b ∷ bs) = ap (λ l. b ∷ l) (append_none bs)

from_prefix : (p x : List ℕ) → is_below (p ++ x) p ≡ false
from_prefix p x = ap (λ q. is_below (p ++ x) q) (sym (append_none p)) ∙ (ap is_lt (cmp-behind p x []) ∙ none_below x)

-- bytes are in the range of the prefix exactly where they begin with it
pub range-begins : (p r : List ℕ) → AreBytes r → in_range p (prefix_end p) r ≡ begins_with p r
range-begins p r a = equal_tests (in_range p (prefix_end p) r) (begins_with p r) into out where
  into : in_range p (prefix_end p) r ≡ true → begins_with p r ≡ true
  into h =
      let from = was_false (is_below r p) (first_true (not (is_below r p)) (is_before (prefix_end p) r) h) in
      begins_before p [] r a (ap (λ q. is_below r q) (append_none p) ∙ from) (second_true (not (is_below r p)) (is_before (prefix_end p) r) h)

  out : begins_with p r ≡ true → in_range p (prefix_end p) r ≡ true
  out h =
      both_true (not (is_below r p)) (is_before (prefix_end p) r)
      (not_false (is_below r p) (ap (λ q. is_below q p) (begins-is p r h) ∙ from_prefix p _)) (before_end p r h)
