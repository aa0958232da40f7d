-- Choices whose condition is known.
use Rattle.std.proofs.Common.{◌≡◌, Bool, true, false, cond, refl, ap, ◌∙◌}
use Rattle.std.specs.Prelude.{◌&&◌}

pub chosen : {A : Type 0} (c : Bool) (x y : A) → c ≡ true → cond c x y ≡ x
chosen true x y is = refl
chosen false x y is = absurd (cc)

pub passed : {A : Type 0} (c : Bool) (x y : A) → c ≡ false → cond c x y ≡ y
passed true x y is = absurd (cc)
passed false x y is = refl

pub both : (a b : Bool) → a ≡ true → b ≡ true → (a && b) ≡ true
both a b x y = ap (λ c. c && b) x ∙ y
