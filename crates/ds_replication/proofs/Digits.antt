-- What digits write is no less than what stood before them.
use Rattle.std.proofs.Common.{◌≡◌, ℕ, ◌+◌, ◌-◌, ◌*◌, ◌<◌, List, [], ◌∷◌, Bool, true, false, None, cond, arith, refl}
use Rattle.std.proofs.lemmas.Bool.Decides.{nat_tests}
use Rattle.ds_replication.specs.Lines.{at_most, digits_after, greatest_u64, is_digit}

-- a number that is too large stays so
pub too_large : (n : ℕ) (bytes : List ℕ) → greatest_u64 < n → at_most greatest_u64 (digits_after n bytes) ≡ None
too_large n [] large = grind (arith, nat_tests)
too_large n (byte ∷ bytes) large = by (too_large (10 * n + (byte - 48)) bytes (omega arith)) (is_digit byte)
  where
    by : at_most greatest_u64 (digits_after (10 * n + (byte - 48)) bytes) ≡ None → (b : Bool)
        → at_most greatest_u64 (cond b (digits_after (10 * n + (byte - 48)) bytes) None) ≡ None
    by rest true = rest
    by rest false = refl
