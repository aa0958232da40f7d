-- Which value or identifier stands behind a byte that tells its class.
use Rattle.std.proofs.Common.{ap, ◌∙◌, arith, ◌≡◌, ◌≢◌, ℕ, ◌<◌, ◌^◌, true, false, List, [], ◌∷◌, ◌++◌, refl}
use Rattle.std.specs.Prelude.{FitsSigned}
use Rattle.std.specs.Int.{w64}
use Rattle.ds_base.specs.declared.key.Ident.TheVariants.{Id, Name}
use Rattle.ds_base.specs.declared.index_value.IndexValue.{IndexValue}
use Rattle.ds_base.specs.declared.index_value.IndexValue.TheVariants as class
use Rattle.ds_bytes.specs.Encoding.{escaped, eight_bytes, raised, ident_bytes, key_bytes, value_bytes}
use Rattle.ds_bytes.specs.Lawful.{IsText, IsLawfulIdent, IsLawfulKey, IsLawfulValue}
use Rattle.ds_base.specs.Bytes.{AreBytes}
use Rattle.ds_bytes.specs.Reading.{NoneBegins}

-- ---- identifiers

pub no_id : (bytes : List ℕ) → NoneBegins (λ n. n < 2 ^ 64) eight_bytes bytes → NoneBegins IsLawfulIdent ident_bytes (0x10 ∷ bytes)
no_id bytes none (Id n) more p is = none n more p (inside is) where
  inside : 0x10 ∷ bytes ≡ 0x10 ∷ (eight_bytes n ++ more) → bytes ≡ eight_bytes n ++ more
  inside is = cc
no_id bytes none (Name s) more p is = absurd (apart is) where
  apart : 0x10 ∷ bytes ≡ 0x20 ∷ (escaped s ++ more) → ⊥
  apart is = cc

pub no_name : (bytes : List ℕ) → NoneBegins IsText escaped bytes → NoneBegins IsLawfulIdent ident_bytes (0x20 ∷ bytes)
no_name bytes none (Id n) more p is = absurd (apart is) where
  apart : 0x20 ∷ bytes ≡ 0x10 ∷ (eight_bytes n ++ more) → ⊥
  apart is = cc
no_name bytes none (Name s) more p is = none s more p (inside is) where
  inside : 0x20 ∷ bytes ≡ 0x20 ∷ (escaped s ++ more) → bytes ≡ escaped s ++ more
  inside is = cc

pub no_ident : (bytes : List ℕ) (tag : ℕ) → (tag ≢ 0x10) → (tag ≢ 0x20) → NoneBegins IsLawfulIdent ident_bytes (tag ∷ bytes)
no_ident bytes tag not_id not_name (Id n) more p is = not_id (first is) where
  first : tag ∷ bytes ≡ 0x10 ∷ (eight_bytes n ++ more) → tag ≡ 0x10
  first is = cc
no_ident bytes tag not_id not_name (Name s) more p is = not_name (first is) where
  first : tag ∷ bytes ≡ 0x20 ∷ (escaped s ++ more) → tag ≡ 0x20
  first is = cc

-- ---- values

-- what a lawful value's bytes begin with
abbrev pub class_tag : IndexValue → ℕ
class_tag class.Null = 0x10
class_tag (class.Num n) = 0x20
class_tag (class.Bool b) = 0x30
class_tag (class.Bytes s) = 0x40
class_tag (class.Key k) = 0x50

-- and what stands behind it
abbrev pub class_rest : IndexValue → List ℕ
class_rest class.Null = []
class_rest (class.Num n) = eight_bytes (raised n)
class_rest (class.Bool false) = 0 ∷ []
class_rest (class.Bool true) = 1 ∷ []
class_rest (class.Bytes s) = escaped s
class_rest (class.Key k) = key_bytes k

split : (v : IndexValue) → value_bytes v ≡ class_tag v ∷ class_rest v
split class.Null = refl
split (class.Num n) = refl
split (class.Bool false) = refl
split (class.Bool true) = refl
split (class.Bytes s) = refl
split (class.Key k) = refl

inside : (tag t : ℕ) (bytes rest : List ℕ) → tag ∷ bytes ≡ t ∷ rest → (tag ≡ t) × (bytes ≡ rest)
inside tag t bytes rest is = (cc, cc)

parts : (v : IndexValue) (tag : ℕ) (bytes more : List ℕ) → tag ∷ bytes ≡ value_bytes v ++ more → (tag ≡ class_tag v) × (bytes ≡ class_rest v ++ more)
parts v tag bytes more is = inside tag (class_tag v) bytes (class_rest v ++ more) (is ∙ ap (λ (xs : List ℕ). xs ++ more) (split v))

pub no_number : (bytes : List ℕ) → NoneBegins (FitsSigned w64) (λ z. eight_bytes (raised z)) bytes → NoneBegins IsLawfulValue value_bytes (0x20 ∷ bytes)
no_number bytes none v more p is = by v p (parts v 0x20 bytes more is) where
  by : (v : IndexValue) → IsLawfulValue v → (0x20 ≡ class_tag v) × (bytes ≡ class_rest v ++ more) → ⊥
  by class.Null p both = absurd (omega (arith, both.0))
  by (class.Num n) p both = none n more p both.1
  by (class.Bool b) p both = absurd (omega (arith, both.0))
  by (class.Bytes s) p both = absurd (omega (arith, both.0))
  by (class.Key k) p both = absurd (omega (arith, both.0))

pub no_sequence : (bytes : List ℕ) → NoneBegins AreBytes escaped bytes → NoneBegins IsLawfulValue value_bytes (0x40 ∷ bytes)
no_sequence bytes none v more p is = by v p (parts v 0x40 bytes more is) where
  by : (v : IndexValue) → IsLawfulValue v → (0x40 ≡ class_tag v) × (bytes ≡ class_rest v ++ more) → ⊥
  by class.Null p both = absurd (omega (arith, both.0))
  by (class.Num n) p both = absurd (omega (arith, both.0))
  by (class.Bool b) p both = absurd (omega (arith, both.0))
  by (class.Bytes s) p both = none s more p both.1
  by (class.Key k) p both = absurd (omega (arith, both.0))

pub no_key : (bytes : List ℕ) → NoneBegins IsLawfulKey key_bytes bytes → NoneBegins IsLawfulValue value_bytes (0x50 ∷ bytes)
no_key bytes none v more p is = by v p (parts v 0x50 bytes more is) where
  by : (v : IndexValue) → IsLawfulValue v → (0x50 ≡ class_tag v) × (bytes ≡ class_rest v ++ more) → ⊥
  by class.Null p both = absurd (omega (arith, both.0))
  by (class.Num n) p both = absurd (omega (arith, both.0))
  by (class.Bool b) p both = absurd (omega (arith, both.0))
  by (class.Bytes s) p both = absurd (omega (arith, both.0))
  by (class.Key k) p both = none k more p both.1

pub no_class : (bytes : List ℕ) (tag : ℕ) → (tag ≢ 0x10) → (tag ≢ 0x20) → (tag ≢ 0x30) → (tag ≢ 0x40) → (tag ≢ 0x50) → NoneBegins IsLawfulValue value_bytes (tag ∷ bytes)
no_class bytes tag a b c d e v more p is = by v (parts v tag bytes more is) where
  by : (v : IndexValue) → (tag ≡ class_tag v) × (bytes ≡ class_rest v ++ more) → ⊥
  by class.Null both = a both.0
  by (class.Num n) both = b both.0
  by (class.Bool v) both = c both.0
  by (class.Bytes s) both = d both.0
  by (class.Key k) both = e both.0
