-- Lists that begin another, and answers that say more.
use Rattle.std.proofs.Common.{◌≡◌, ◌≤◌, List, length, take, ap, sym, ◌∙◌, arith}
use Rattle.std.proofs.Common.{length-append}
use Rattle.std.specs.Prelude.{Err, IfOk, Ok, Result}
use Rattle.std.proofs.Math.Seq.{take-append_seam}
use mathlib.Core.List.{IsPrefix}

module _ {X : Type 0} where
  -- a list that begins another one is its first part
  pub begins_as : (xs ys : List X) → IsPrefix xs ys → take (length xs) ys ≡ xs
  begins_as xs ys p = ap (take (length xs)) (sym p.1) ∙ take-append_seam xs p.0

  pub begins_no_longer : (xs ys : List X) → IsPrefix xs ys → length xs ≤ length ys
  begins_no_longer xs ys p = omega (arith, sym (ap length p.1) ∙ length-append xs p.0)

-- ---- answers that say more

module _ {A E : Type 0} (result : Result A E) where
  pub if_ok : (P Q : A → Type 0) → ((x : A) → P x → Q x) → IfOk result P → IfOk result Q
  if_ok P Q weaker = by result where
    by : (r : Result A E) → IfOk r P → IfOk r Q
    by (Ok x) p = weaker x p
    by (Err e) p = p

  pub if_both : (P Q R : A → Type 0) → ((x : A) → P x → Q x → R x) → IfOk result P → IfOk result Q → IfOk result R
  if_both P Q R both = by result where
    by : (r : Result A E) → IfOk r P → IfOk r Q → IfOk r R
    by (Ok x) p q = both x p q
    by (Err e) p q = p
